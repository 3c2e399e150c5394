-- `generator::remainder::packed` meets its contract: the value stays while its digits move up. Assumes nothing.
use mathlib.Core.Path.{sym, ap, ◌∙◌}
use Prim.Native.Nat.{ℕ, ◌*◌, ◌^◌}
use native.Mathlib.Nat.{zero-mul}
use native.Mathlib.Omega.{arith}
use Rattle.generator.proofs.Units.{Placed, units_zero, zeros, placed, placed_units, placed_finite}
use Rattle.generator.proofs.remainder.packed.Goals as goal

pub returns-then-r-eq0-clause-value : goal.returns-then-r-eq0-clause-value
returns-then-r-eq0-clause-value c = units_zero ∙ sym (ap (λ (x : ℕ). x * 2 ^ c.args.k) c.if-r-eq0.true ∙ zero-mul (2 ^ c.args.k))

pub overflow_sub-z : goal.overflow_sub-z
overflow_sub-z c = zeros c.args.r (omega (arith, c.if-r-eq0.false)) c.requires.digits

there : (c : goal.After-min-up) → Placed c.args.r c.args.k c.min-up.result
there c = placed c.args.r c.args.k c.min-up.result (omega (arith, c.if-r-eq0.false)) c.requires.digits c.min-up.ensures

pub returns-clause-value : goal.returns-clause-value
returns-clause-value c = placed_units c.args.r c.args.k c.min-up.result (there c)

pub returns-clause-finite : goal.returns-clause-finite
returns-clause-finite c = placed_finite c.args.r c.args.k c.min-up.result c.requires.places (there c)

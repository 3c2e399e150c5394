-- `generator::remainder::left_of` meets its contract: 40 places a turn, and then the rest. Assumes nothing.
use mathlib.Core.Path.{ap, ◌∙◌}
use Prim.Native.Nat.{ℕ, ◌*◌, ◌%◌, ◌^◌}
use native.Mathlib.Omega.{arith}
use native.Mathlib.Nat.{mod-lt, lt_trans}
use Rattle.generator.proofs.Units.{turn, moved}
use Rattle.generator.proofs.remainder.left_of.Goals as goal

pub loop-left-preserved : goal.loop-left-preserved
loop-left-preserved c =
    let l = c.loop-left in (
      lt_trans (mod-lt (l.r * 2 ^ 40 % 2 ^ 64) c.requires.above) c.requires.bound,
      omega (arith, l.invariant.1),
      turn l.r l.left c.args.n _ l.invariant.0 (omega (arith, c.loop-left-test.true)) l.invariant.2,
    )

pub returns : goal.returns
returns c = let l = c.loop-left in ap (λ (x : ℕ). x % c.args.n) (moved l.r l.left l.invariant.0 (omega (arith, c.loop-left-test.false))) ∙ l.invariant.2

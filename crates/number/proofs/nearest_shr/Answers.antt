-- `number::nearest_shr` meets its contract. Assumes nothing.
use mathlib.Core.Path.{◌≡◌, sym, ap, ◌∙◌, subst}
use Prim.Native.Nat.{ℕ, ◌+◌, ◌-◌, ◌*◌, ◌/◌, ◌%◌, ◌^◌, ◌≤◌}
use native.Mathlib.Omega.{arith}
use native.Mathlib.Nat.{one-mul}
use lib.Bits.{bit_and, and_mask, and_le_r}
use lib.Pow.{pow_pos, pow_mono, shl_exact}
use lib.Dec.{lit<}
use borrow.Author.Rules.{rules}
use Rattle.number.proofs.Shift.{nearest_shr}
use Rattle.number.proofs.nearest_shr.Goals as goal

half_is : (d : ℕ) → 1 ≤ d → d ≤ 62 → 1 * 2 ^ (d - 1) % 2 ^ 64 ≡ 2 ^ (d - 1)
half_is d l u = shl_exact 1 (d - 1) 64 (lit< tt) (omega arith) ∙ one-mul (2 ^ (d - 1))

half_le : (d : ℕ) → d ≤ 62 → 2 ^ (d - 1) ≤ 2 ^ 62
half_le d u = pow_mono {i = d - 1} {j = 62} (omega arith)

pub overflow_sub-result : goal.overflow_sub-result
overflow_sub-result c = subst (λ (x : ℕ). 1 ≤ x) (sym (half_is c.args.d (search rules) (search rules))) (pow_pos (c.args.d - 1))

pub overflow_add-result : goal.overflow_add-result
overflow_add-result c = omega (arith, half_is c.args.d (search rules) (search rules), half_le c.args.d (search rules))

pub overflow_add-result-2 : goal.overflow_add-result-2
overflow_add-result-2 c = omega (arith, half_is c.args.d (search rules) (search rules), half_le c.args.d (search rules), and_le_r (c.args.m / 2 ^ c.args.d) 1)

pub returns : goal.returns
returns c =
    let m = c.args.m in
    let d = c.args.d in
    ap (λ (x : ℕ). (m + (x - 1) + bit_and (m / 2 ^ d) 1) / 2 ^ d) (half_is d (search rules) (search rules))
    ∙ ap (λ (x : ℕ). (m + (2 ^ (d - 1) - 1) + x) / 2 ^ d) (and_mask (m / 2 ^ d) 1)
    ∙ nearest_shr m d (search rules)

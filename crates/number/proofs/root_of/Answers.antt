-- `number::root_of` meets its contract. Assumes nothing.
use mathlib.Core.Path.{◌≡◌, sym, ap, ◌∙◌, subst}
use Prim.Native.Nat.{ℕ, ◌+◌, ◌-◌, ◌*◌, ◌/◌, ◌%◌, ◌^◌, ◌≤◌, ◌<◌}
use native.Mathlib.Omega.{arith}
use native.Mathlib.Nat.{lt_of_lt_of_le, div-one}
use lib.Pow.{pow_mono, shl_lt, shl_exact}
use lib.Bits.{and_le_r}
use borrow.Author.Rules.{rules}
use Rattle.number.specs.Number.{whole_root}
use Rattle.number.proofs.RootBits.{Under, doubled, under_lt, under_root_lt}
use Rattle.number.proofs.root_of.Goals as goal

cap : (p : ℕ) → p ≤ 53 → 2 ^ (p + 1) ≤ 2 ^ 54
cap p h = pow_mono {i = p + 1} {j = 54} (omega arith)

-- `(g >> 1) << (p - 1)` loses nothing
half_g : (g : ℕ) → g < 4096 → g / 2 < 2 ^ 11
half_g g h = omega arith

placed : (g p : ℕ) → g < 4096 → p ≤ 53 → g / 2 * 2 ^ (p - 1) % 2 ^ 64 ≡ g / 2 * 2 ^ (p - 1)
placed g p h k = shl_exact 11 (p - 1) 64 (half_g g h) (omega arith)

placed_lt : (g p : ℕ) → g < 4096 → p ≤ 53 → g / 2 * 2 ^ (p - 1) < 2 ^ 63
placed_lt g p h k = lt_of_lt_of_le (shl_lt 11 (p - 1) (half_g g h)) (pow_mono {i = 11 + (p - 1)} {j = 63} (omega arith))

-- what the call returns
result : (c : goal.After-struct_known-1) → c.root_digits.result.root ≡ whole_root (Under c.args.p c.args.m c.args.g)
result c =
    let p = c.args.p in
    let N = Under p c.args.m c.args.g in
    c.root_digits.ensures.root_value ∙ ap (λ (x : ℕ). whole_root (x * 2 ^ (p + 1)) / 1) (doubled c.args.m c.args.g p (search rules) (search rules)) ∙ div-one (whole_root N)

bound : (c : goal.After-struct_known-1) → c.root_digits.result.root < 2 ^ 54
bound c =
    let p = c.args.p in
    subst (λ (x : ℕ). x < 2 ^ 54) (sym (result c)) (lt_of_lt_of_le (under_root_lt p c.args.m c.args.g (search rules)) (cap p (search rules)))

pub overflow_shl-m : goal.overflow_shl-m
overflow_shl-m c = omega (arith, and_le_r c.args.g 1)

pub root_digits-requires : goal.root_digits-requires
root_digits-requires c =
    let m = c.args.m in
    let g = c.args.g in
    let p = c.args.p in
    record { m_bound = subst (λ (x : ℕ). x < 2 ^ (p + 1)) (sym (doubled m g p (search rules) (search rules))) (under_lt p m g (search rules)); p_bound = search rules; j_bound = search rules }

pub overflow_add-result : goal.overflow_add-result
overflow_add-result c = omega (arith, bound c)

pub overflow_add-result-2 : goal.overflow_add-result-2
overflow_add-result-2 c =
    let g = c.args.g in
    let p = c.args.p in
    omega (arith, bound c, placed g p (search rules) (search rules), placed_lt g p (search rules) (search rules))

pub returns : goal.returns
returns c =
    let g = c.args.g in
    let p = c.args.p in
    ap (λ (x : ℕ). x + (c.root_digits.result.root + 1) / 2) (placed g p (search rules) (search rules)) ∙ ap (λ (x : ℕ). g / 2 * 2 ^ (p - 1) + (x + 1) / 2) (result c)

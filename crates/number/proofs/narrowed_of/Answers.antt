-- `number::narrowed_of` meets its contract: each answer is a law of `proofs/Halfway.antt`. Assumes nothing.
use mathlib.Core.Path.{◌≡◌, sym, ap, ap₂, ◌∙◌, subst}
use Prim.Native.Nat.{ℕ, ◌+◌, ◌-◌, ◌*◌, ◌/◌, ◌%◌, ◌^◌, ◌≤◌, ◌<◌}
use native.Mathlib.Omega.{arith}
use native.Mathlib.Nat.{le_trans, le_of_eq, mul-le-mul_left, mul-one}
use lib.Bits.{bit_and, and_le_r}
use lib.Dec.{lit≤}
use lib.Pow.{pow_pos}
use borrow.Author.Rules.{rules}
use Rattle.number.specs.Number.{whole_root}
use Rattle.number.proofs.Halfway.{First, first, even_half, upper_half}
use Rattle.number.proofs.NarrowBits.{closest_le}
use Rattle.number.proofs.NarrowedRoot.{under_room}
use Rattle.number.proofs.RootBits.{doubled}
use Rattle.number.proofs.WholeRoot.{whole_root_is}
use Rattle.number.proofs.narrowed_of.Goals as goal

-- the digits that the root is taken of
abbrev Digits : ℕ → ℕ → ℕ
Digits m g = m * 2 ^ (g % 2)

least : (m g : ℕ) → 2 ^ 52 ≤ m → 2 ^ 52 ≤ Digits m g
least m g h = le_trans h (le_trans (le_of_eq (sym (mul-one m))) (mul-le-mul_left m (pow_pos (g % 2))))

field_is : (g : ℕ) → g < 2300 → (g / 2 - 896) * 2 ^ 23 % 2 ^ 64 ≡ (g / 2 - 896) * 2 ^ 23
field_is g h = omega arith

-- the rest in units of the digits, and what it tells
abbrev Rest : ℕ → ℕ → ℕ → ℕ
Rest m g k = Digits m g + 1 - 16 * (k * k)

here : (m g k r : ℕ) → 2 ^ 52 ≤ m → m < 2 ^ 53
    → k * 2 ^ 29 * (k * 2 ^ 29) + k * 2 ^ 29 * (k * 2 ^ 29) + r * 2 ^ 29 ≡ (m * 2 ^ bit_and g 1 % 2 ^ 64 + 1) * 2 ^ 54 + (m * 2 ^ bit_and g 1 % 2 ^ 64 + 1) * 2 ^ 54
    → r < 4 * (k * 2 ^ 29) + 2 * 2 ^ 29
    → (r ≡ Rest m g k * 2 ^ 26) × First (Digits m g) k (Rest m g k)
here m g k r l u e b =
    first (Digits m g) k r (e ∙ ap (λ (x : ℕ). (x + 1) * 2 ^ 54 + (x + 1) * 2 ^ 54) (doubled m g 53 u (lit≤ tt))) b (least m g l) (under_room m g u)

few : (r e : ℕ) → r ≡ e * 2 ^ 26 → r ≤ 2 ^ 27 → e ≤ 2
few r e h l = omega arith

more : (r e : ℕ) → r ≡ e * 2 ^ 26 → 2 ^ 27 < r → 3 ≤ e
more r e h l = omega arith

pub overflow_shl-m : goal.overflow_shl-m
overflow_shl-m c = omega (arith, and_le_r c.args.g 1)

pub overflow_add-m : goal.overflow_add-m
overflow_add-m c =
    let m = c.args.m in
    let g = c.args.g in
    omega (arith, doubled m g 53 (search rules) (lit≤ tt), under_room m g (search rules))

pub root_digits-first-requires : goal.root_digits-first-requires
root_digits-first-requires c =
    let m = c.args.m in
    let g = c.args.g in
    record { m_bound = subst (λ (x : ℕ). x + 1 < 2 ^ 54) (sym (doubled m g 53 (search rules) (lit≤ tt))) (under_room m g (search rules)); p_bound = lit≤ tt; j_bound = lit≤ tt }

pub nearest_shr-requires : goal.nearest_shr-requires
nearest_shr-requires c = let b = (here c.args.m c.args.g _ _ c.requires.m_low c.requires.m_bound c.root_digits-first.ensures.rest_value c.root_digits-first.ensures.rest_bound).1.below in record { m_bound = omega arith; d_nonzero = lit≤ tt; d_bound = lit≤ tt }

pub overflow_add-result : goal.overflow_add-result
overflow_add-result c =
    let b = closest_le c.root_digits-first.result.root 1 24 (here c.args.m c.args.g _ _ c.requires.m_low c.requires.m_bound c.root_digits-first.ensures.rest_value c.root_digits-first.ensures.rest_bound).1.below in
    omega (arith, c.nearest_shr.ensures)

pub returns-then-first-le134217728 : goal.returns-then-first-le134217728
returns-then-first-le134217728 c =
    let m = c.args.m in
    let g = c.args.g in
    let h = here c.args.m c.args.g _ _ c.requires.m_low c.requires.m_bound c.root_digits-first.ensures.rest_value c.root_digits-first.ensures.rest_bound in
    let e = Rest m g c.root_digits-first.result.root in
    let N = Digits m g * 2 ^ 54 in
    ap₂ (λ (x y : ℕ). x + y) (field_is g (search rules)) (c.nearest_shr.ensures
    ∙ even_half (Digits m g) c.root_digits-first.result.root e (whole_root N) h.1 (whole_root_is N) (few _ e h.0 c.if-first-le134217728.true))

pub overflow_add-result-2 : goal.overflow_add-result-2
overflow_add-result-2 c = let b = (here c.args.m c.args.g _ _ c.requires.m_low c.requires.m_bound c.root_digits-first.ensures.rest_value c.root_digits-first.ensures.rest_bound).1.below in omega arith

pub returns : goal.returns
returns c =
    let m = c.args.m in
    let g = c.args.g in
    let h = here c.args.m c.args.g _ _ c.requires.m_low c.requires.m_bound c.root_digits-first.ensures.rest_value c.root_digits-first.ensures.rest_bound in
    let e = Rest m g c.root_digits-first.result.root in
    let N = Digits m g * 2 ^ 54 in
    ap₂ (λ (x y : ℕ). x + y) (field_is g (search rules)) (upper_half (Digits m g) c.root_digits-first.result.root e (whole_root N) h.1 (whole_root_is N) (more _ e h.0 c.if-first-le134217728.false))

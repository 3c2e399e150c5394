-- `number::root_fields` meets its contract. Assumes nothing.
use mathlib.Core.Path.{◌≡◌, sym, ap, ◌∙◌}
use Prim.Native.Nat.{ℕ, suc, ◌+◌, ◌-◌, ◌*◌, ◌%◌, ◌^◌, ◌≤◌, ◌<◌}
use native.Mathlib.Omega.{arith}
use native.Mathlib.Nat.{le_trans, le_of_eq, lt_of_le_of_lt, lt_of_lt_of_le, mod-eq_of_lt, mul-le-mul_right, one-mul}
use mathlib.Core.Bool.{false}
use lib.Dec.{lit<}
use lib.Pow.{pow-add, pow_mono, shl_lt, shl_exact}
use lib.Bits.{bit_or, or_shifted_r}
use lib.Count.{count_leading_zeros, leading_top}
use lib.Ieee.{of_fields, to_bits}
use Rattle.number.specs.Number.{root}
use Rattle.number.proofs.Pack.{pow_lt_back, twice_hid}
use Rattle.number.proofs.RootBits.{Answer, low_at, high_at}
use borrow.Author.Rules.{rules}
use Rattle.number.proofs.root_fields.Goals as goal

-- the leading digit of t, brought to the place of p digits
record Moved (t p L : ℕ) : Type 0 where
  pub most : L ≤ 64
  pub least : 64 - p ≤ L
  pub by : L - (64 - p) ≤ p - 1
  pub exact : t * 2 ^ (L - (64 - p)) % 2 ^ 64 ≡ t * 2 ^ (L - (64 - p))
  pub lo : 2 ^ (p - 1) ≤ t * 2 ^ (L - (64 - p))
  pub hi : t * 2 ^ (L - (64 - p)) < 2 ^ p

moved : (t p : ℕ) → 0 < t → t < 2 ^ (p - 1) → 2 ≤ p → p ≤ 53 → Moved t p (count_leading_zeros 64 t)
moved t p A h P Q =
    let l = leading_top 64 t A (lt_of_lt_of_le h (pow_mono {i = p - 1} {j = 64} (omega arith))) in
    let j = l.0 in
    let L = count_leading_zeros 64 t in
    let z = L - (64 - p) in
    let e : L + suc j ≡ 64 = l.1 in
    let s : j < p - 1 = pow_lt_back j (p - 1) (lt_of_le_of_lt l.2 h) in
    let a : j + z ≡ p - 1 = omega arith in
    let b : suc j + z ≡ p = omega arith in
    let up : t * 2 ^ z < 2 ^ p = lt_of_lt_of_le (shl_lt (suc j) z l.3) (le_of_eq (ap (λ (x : ℕ). 2 ^ x) b)) in
    record {
      most = omega arith;
      least = omega arith;
      by = omega arith;
      exact = mod-eq_of_lt (lt_of_lt_of_le up (pow_mono {i = p} {j = 64} (omega arith)));
      lo = le_trans (le_of_eq (ap (λ (x : ℕ). 2 ^ x) (sym a) ∙ pow-add 2 j z)) (mul-le-mul_right (2 ^ z) l.2);
      hi = up;
    }

-- the leading digit set
lead : (t p : ℕ) → t < 2 ^ (p - 1) → p ≤ 53 → bit_or t (1 * 2 ^ (p - 1) % 2 ^ 64) ≡ 2 ^ (p - 1) + t
lead t p h k =
    ap (λ (x : ℕ). bit_or t x) (shl_exact 1 (p - 1) 64 (lit< tt) (omega arith)) ∙ or_shifted_r 1 (p - 1) t h ∙ ap (λ (x : ℕ). x + t) (one-mul (2 ^ (p - 1)))

lead_lt : (t p : ℕ) → t < 2 ^ (p - 1) → 2 ≤ p → 2 ^ (p - 1) + t < 2 ^ p
lead_lt t p h k = twice (2 ^ (p - 1)) (2 ^ p) (twice_hid p k) h
  where
    twice : (a b : ℕ) → b ≡ 2 * a → t < a → a + t < b
    twice a b e l = omega arith

pub overflow_cast-z : goal.overflow_cast-z
overflow_cast-z c =
    let m = moved c.args.digits c.args.p (omega arith) (search rules) (search rules) (search rules) in
    omega arith

pub overflow_sub-z-then-field-eq0 : goal.overflow_sub-z-then-field-eq0
overflow_sub-z-then-field-eq0 c = (moved c.args.digits c.args.p (omega arith) (search rules) (search rules) (search rules)).least

pub overflow_shl-digits : goal.overflow_shl-digits
overflow_shl-digits c =
    let m = moved c.args.digits c.args.p (omega arith) (search rules) (search rules) (search rules) in
    omega arith

pub overflow_sub-e : goal.overflow_sub-e
overflow_sub-e c =
    let m = moved c.args.digits c.args.p (omega arith) (search rules) (search rules) (search rules) in
    omega arith

pub root_of-requires : goal.root_of-requires
root_of-requires c =
    let m = moved c.args.digits c.args.p (omega arith) (search rules) (search rules) (search rules) in
    record { m_bound = lt_of_le_of_lt (le_of_eq m.exact) m.hi; p_nonzero = omega arith; p_bound = omega arith; g_bound = omega arith }

pub returns-then-field-eq0 : goal.returns-then-field-eq0
returns-then-field-eq0 c =
    λ f P E.
    let a = c.args in
    let m = moved c.args.digits c.args.p (omega arith) (search rules) (search rules) (search rules) in
    let z = count_leading_zeros 64 a.digits - (64 - a.p) in
    ap (λ (x : ℕ). to_bits f (root f (of_fields f false x a.digits))) c.if-field-eq0.true
    ∙ low_at f a.p a.e a.digits z P E (omega arith) m.lo m.hi (omega arith)
    ∙ ap (λ (x : ℕ). Answer a.p x (a.e + 1 - z)) (sym m.exact)
    ∙ sym c.root_of.ensures

pub root_of-requires-2 : goal.root_of-requires-2
root_of-requires-2 c =
    let t = c.args.digits in
    let p = c.args.p in
    record { m_bound = lt_of_le_of_lt (le_of_eq (lead t p (search rules) (search rules))) (lead_lt t p (search rules) (search rules)); p_nonzero = omega arith; p_bound = omega arith; g_bound = omega arith }

pub returns : goal.returns
returns c =
    λ f P E.
    let a = c.args in
    high_at f a.p a.e a.field a.digits P E (omega arith) (search rules) (search rules)
    ∙ ap (λ (x : ℕ). Answer a.p x (a.field + a.e)) (sym (lead a.digits a.p (search rules) (search rules)))
    ∙ sym c.root_of-2.ensures

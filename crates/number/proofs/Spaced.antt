-- How far apart the values of a format are, and each by its digits: m * 2 ^ j of the smallest values, with m of no more digits than the format keeps. Assumes nothing.
use mathlib.Core.Path.{◌≡◌, sym, ap, ◌∙◌}
use mathlib.Core.Bool.{Bool, ◌&&◌}
use Prim.Native.Nat.{ℕ, zero, suc, ◌+◌, ◌-◌, ◌*◌, ◌%◌, ◌^◌, ◌≤◌, ◌<◌}
use native.Mathlib.Nat.{le_trans, le_of_eq, lt_of_lt_of_le, lt_of_le_of_lt, lt_irrefl, mul_comm, mul_assoc, mul_right_comm, mul-le-mul_left, mul-le-mul_right, mul-lt-mul_of_pos_right}
use native.Mathlib.Nat.{lt_of_mul-lt-mul_right, add-mul, one-mul, zero-mul, mul-one}
use native.Mathlib.Decide.{dec_le}
use native.Mathlib.Omega.{arith}
use lib.Dec.{T, ltb, leb, eqb, ltb→lt, leb→le}
use lib.Pow.{pow-add, pow_pos, pow_mono}
use lib.IntN.{ℤ, pos, negsuc}
use lib.Ieee.{Float, nan, inf, fin, Format, prec, emax, low, up, down, fits}
use lib.Ieee.Fits.{and_l, and_r}
use lib.Ieee.Positive.{num, den}
use Rattle.laws.proofs.Size.{Signed}
use Rattle.number.proofs.Rooting.{exponent}

-- ---- The values of a format are so far apart: one of p digits, m * 2 ^ j, that reaches 2 ^ (p - 1) * 2 ^ k is a multiple of 2 ^ k
pub spaced : (p m j k : ℕ) → 1 ≤ p → m < 2 ^ p → 2 ^ (p - 1) * 2 ^ k ≤ m * 2 ^ j → k ≤ j
spaced p m j k one small reach = elim (dec_le k j) [
  | yes l ↦ l
  | no l ↦
      let b : suc j ≤ k = omega arith in
      absurd (lt_irrefl (2 ^ (p - 1) * 2 ^ k) (lt_of_le_of_lt reach
      (lt_of_lt_of_le (mul-lt-mul_of_pos_right small (pow_pos j)) (le_trans (le_of_eq same) (mul-le-mul_left (2 ^ (p - 1)) (pow_mono b))))))
]
  where
    back : (p : ℕ) → 1 ≤ p → p + j ≡ p - 1 + suc j
    back p h = omega arith

    same : 2 ^ p * 2 ^ j ≡ 2 ^ (p - 1) * 2 ^ suc j
    same = sym (pow-add 2 p j) ∙ ap (λ (x : ℕ). 2 ^ x) (back p one) ∙ pow-add 2 (p - 1) (suc j)

-- so it is a whole step from any other multiple
pub multiple : (m j k : ℕ) → k ≤ j → m * 2 ^ j ≡ m * 2 ^ (j - k) * 2 ^ k
multiple m j k l = ap (λ (x : ℕ). m * 2 ^ x) (back j k l) ∙ ap (λ (x : ℕ). m * x) (pow-add 2 (j - k) k) ∙ sym (mul_assoc m (2 ^ (j - k)) (2 ^ k))
  where
    back : (j k : ℕ) → k ≤ j → j ≡ j - k + k
    back j k h = omega arith

pub step_up : (q b u : ℕ) → q * u < b * u → q * u + u ≤ b * u
step_up q b u l = le_trans (le_of_eq (sym (add-mul q 1 u ∙ ap (λ (x : ℕ). q * u + x) (one-mul u)))) (mul-le-mul_right u (next q b (lt_of_mul-lt-mul_right u l)))
  where
    next : (q b : ℕ) → q < b → q + 1 ≤ b
    next q b h = omega arith

-- ---- A value of the format by its digits: m * 2 ^ j of the smallest values
pub record Digits (f : Format) (v : Float) : Type 0 where
  pub m : ℕ
  pub j : ℕ
  pub small : m < 2 ^ prec f
  pub is : num v * 2 ^ low f ≡ m * 2 ^ j * den v

-- what `fits` says of the digits and of the fraction's denominator
few_digits : (f : Format) (m : ℕ) (e : ℤ) → T (eqb (m % 2) 1 && ltb m (2 ^ prec f) && leb (down e) (2 ^ low f) && ltb (m * up e) (2 ^ suc (emax f) * down e)) → m < 2 ^ prec f
few_digits f m e t =
    let a = eqb (m % 2) 1 in
    let b = ltb m (2 ^ prec f) in
    let c = leb (down e) (2 ^ low f) in
    let d = ltb (m * up e) (2 ^ suc (emax f) * down e) in
    ltb→lt m (2 ^ prec f) (and_r a b (and_l (a && b) c (and_l (a && b && c) d t)))

fine_enough : (f : Format) (m : ℕ) (e : ℤ) → T (eqb (m % 2) 1 && ltb m (2 ^ prec f) && leb (down e) (2 ^ low f) && ltb (m * up e) (2 ^ suc (emax f) * down e)) → down e ≤ 2 ^ low f
fine_enough f m e t =
    let a = eqb (m % 2) 1 in
    let b = ltb m (2 ^ prec f) in
    let c = leb (down e) (2 ^ low f) in
    let d = ltb (m * up e) (2 ^ suc (emax f) * down e) in
    leb→le (down e) (2 ^ low f) (and_r (a && b) c (and_l (a && b && c) d t))

pub digits_of_lem : (f : Format) (v : Float) (s : Bool) → T (fits f v) → Signed v s → Digits f v
unfolding fits
digits_of_lem f nan s t h = absurd h
digits_of_lem f (inf u) s t h = absurd h
digits_of_lem f (fin u zero e) s t h =
    record {
      m = 0;
      j = 0;
      small = pow_pos (prec f);
      is = ap (λ (x : ℕ). x * 2 ^ low f) (zero-mul (up e)) ∙ zero-mul (2 ^ low f)
          ∙ sym (ap (λ (x : ℕ). x * down e) (zero-mul (2 ^ 0)) ∙ zero-mul (down e));
    }
digits_of_lem f (fin u (suc m) (pos k)) s t h =
    record {
      m = suc m;
      j = k + low f;
      small = few_digits f (suc m) (pos k) t;
      is = mul_assoc (suc m) (2 ^ k) (2 ^ low f) ∙ ap (λ (x : ℕ). suc m * x) (sym (pow-add 2 k (low f)))
          ∙ sym (mul-one (suc m * 2 ^ (k + low f)));
    }
digits_of_lem f (fin u (suc m) (negsuc k)) s t h =
    let l : suc k ≤ low f = exponent (suc k) (low f) (fine_enough f (suc m) (negsuc k) t) in
    record { m = suc m; j = low f - suc k; small = few_digits f (suc m) (negsuc k) t; is = ap (λ (x : ℕ). x * 2 ^ low f) (mul-one (suc m)) ∙ multiple (suc m) (low f) (suc k) l }

-- ---- From units to fractions: two values, g and b of the smallest
module _ (ny dy nv dv g b L : ℕ) (ey : ny * L ≡ g * dy) (ev : nv * L ≡ b * dv) where
  pub first_in_units : ny * dv * L ≡ g * (dy * dv)
  first_in_units = mul_right_comm ny dv L ∙ ap (λ (x : ℕ). x * dv) ey ∙ mul_assoc g dy dv

  pub second_in_units : nv * dy * L ≡ b * (dy * dv)
  second_in_units = mul_right_comm nv dy L ∙ ap (λ (x : ℕ). x * dy) ev ∙ mul_assoc b dv dy ∙ ap (λ (x : ℕ). b * x) (mul_comm dv dy)

  pub in_order : 0 < L → ny * dv < nv * dy → g < b
  in_order p l = lt_of_mul-lt-mul_right (dy * dv) (lt_of_le_of_lt (le_of_eq (sym first_in_units)) (lt_of_lt_of_le (mul-lt-mul_of_pos_right l p) (le_of_eq second_in_units)))

  pub reversed : 0 < L → nv * dy < ny * dv → b < g
  reversed p l = lt_of_mul-lt-mul_right (dy * dv) (lt_of_le_of_lt (le_of_eq (sym second_in_units)) (lt_of_lt_of_le (mul-lt-mul_of_pos_right l p) (le_of_eq first_in_units)))

-- The fields of a float as a program takes them, by shifts and masks, in either format: they are read back as the float (`read-fields`). And a float from bits that are its own (`written`).
-- Assumes nothing.
use mathlib.Core.Path.{◌≡◌, refl, sym, ap, ap₂, ◌∙◌, subst}
use Prim.Native.Nat.{ℕ, zero, suc, ◌+◌, ◌-◌, ◌*◌, ◌/◌, ◌%◌, ◌^◌, ◌≤◌, ◌<◌}
use native.Mathlib.Nat.{div-eq_of_lt, mod-eq_of_lt, le_antisymm, le_of_suc-le-suc, div-lt_iff_lt-mul, le-div_iff_mul-le, one-mul, zero-mul}
use native.Mathlib.Omega.{arith}
use mathlib.Core.Bool.{Bool, true, false, not, ◌&&◌, cond}
use lib.Dec.{T, leb, ltb, eqb, leb→le, nleb→lt, eqb→eq}
use lib.Pow.{field}
use lib.Bits.{bit_and, bit_or, and_mask, mask_lt, or_shifted}
use lib.Ieee.{Float, inf, Format, binary32, binary64, prec, low, emax, hid, ones, top, fits, is_nan, nan_bits, of_fields, of_bits, to_bits, odd, units, round}
use lib.Ieee.Bits.{of_bits-to_bits, to_bits-lt, nan_bits_is}
use lib.Ieee.Fits.{eq→eqb, round_is}
use lib.Ieee.Order.{drop, kept}

-- what owning a float tells, as a fact: its format holds it
pub held : {b : Bool} → b ≡ true → T b
held e = subst T (sym e) tt

-- how many digits the exponent's field has, and how many lie below it
abbrev pub expo : Format → ℕ
expo binary32 = 8
expo binary64 = 11

abbrev pub frac : Format → ℕ
frac f = prec f - 1

abbrev pub field_of : Format → ℕ → ℕ
field_of f b = bit_and (b / 2 ^ frac f) (2 ^ expo f - 1)

abbrev pub digits_of : Format → ℕ → ℕ
digits_of f b = bit_and b (2 ^ frac f - 1)

abbrev pub sign_of : Format → ℕ → Bool
sign_of f b = leb (top f) b

pub top_is : (f : Format) → top f ≡ 2 ^ (expo f + frac f)
top_is binary32 = refl
top_is binary64 = refl

field_is : (f : Format) (b : ℕ) → field_of f b ≡ b % top f / hid f
field_is f b = and_mask (b / 2 ^ frac f) (expo f) ∙ sym (ap (λ (x : ℕ). b % x / hid f) (top_is f) ∙ field b (expo f) (frac f))

pub field_lt : (f : Format) (b : ℕ) → field_of f b < 2 ^ expo f
field_lt f b = mask_lt (b / 2 ^ frac f) (expo f)

pub digits_lt : (f : Format) (b : ℕ) → digits_of f b < 2 ^ frac f
digits_lt f b = mask_lt b (frac f)

pub of_bits_is : (f : Format) (b : ℕ) → of_bits f b ≡ of_fields f (leb (top f) b) (b % top f / hid f) (b % hid f)
unfolding of_bits
of_bits_is f b = refl

pub read_fields : (f : Format) (x : Float) → T (fits f x) → of_fields f (sign_of f (to_bits f x)) (field_of f (to_bits f x)) (digits_of f (to_bits f x)) ≡ x
read_fields f x h =
    let b = to_bits f x in
    ap₂ (λ (e t : ℕ). of_fields f (sign_of f b) e t) (field_is f b) (and_mask b (frac f)) ∙ sym (of_bits_is f b) ∙ of_bits-to_bits f x h

nan_is : (f : Format) (b : ℕ) → nan_bits f b ≡ (eqb (b % top f / hid f) (ones f) && not (eqb (b % hid f) 0))
unfolding nan_bits
nan_is f b = refl

yes_no : (a b : Bool) → T a → T (not (a && not b)) → T b
yes_no true true t n = tt
yes_no true false t n = n
yes_no false b t n = absurd t

-- under an exponent's field that is all ones, a float that is no NaN has no digits
pub no_digits : (f : Format) (x : Float) → T (fits f x) → T (not (is_nan x)) → field_of f (to_bits f x) ≡ ones f → digits_of f (to_bits f x) ≡ 0
no_digits f x h n e =
    let b = to_bits f x in
    let w : T (not (nan_bits f b)) = subst (λ (t : Bool). T (not t)) (sym (nan_bits_is f b ∙ ap is_nan (of_bits-to_bits f x h))) n in
    and_mask b (frac f)
    ∙ eqb→eq (b % hid f) 0
    (yes_no (eqb (b % top f / hid f) (ones f)) (eqb (b % hid f) 0) (eq→eqb (sym (field_is f b) ∙ e)) (subst (λ (t : Bool). T (not t)) (nan_is f b) w))

-- ---- the sign

no_quotient : (b c : ℕ) → c ≤ b → b < 2 * c → b / c ≡ 1
no_quotient b c l h = go (b / c) refl
  where
    go : (q : ℕ) → b / c ≡ q → b / c ≡ 1
    go q e = le_antisymm (le_of_suc-le-suc ((div-lt_iff_lt-mul (pos_of b c l h)).1 h)) ((le-div_iff_mul-le (pos_of b c l h)).1 (subst (λ (x : ℕ). x ≤ b) (sym (one-mul c)) l))
      where
        pos_of : (b c : ℕ) → c ≤ b → b < 2 * c → 0 < c
        pos_of b c l h = omega arith

-- the sign's digit, moved: `(bits >> 63) << k`
pub sign_at : (f : Format) (x : Float) (w : ℕ) → T (fits f x) → to_bits f x / top f * w ≡ cond (sign_of f (to_bits f x)) w 0
sign_at f x w h = go (leb (top f) (to_bits f x)) (leb→le (top f) (to_bits f x)) (nleb→lt (top f) (to_bits f x))
  where
    go : (t : Bool) → (T t → top f ≤ to_bits f x) → (T (not t) → to_bits f x < top f) → to_bits f x / top f * w ≡ cond t w 0
    go true l g = ap (λ (q : ℕ). q * w) (no_quotient (to_bits f x) (top f) (l tt) (to_bits-lt f x h)) ∙ one-mul w
    go false l g = ap (λ (q : ℕ). q * w) (div-eq_of_lt (g tt)) ∙ zero-mul w

-- the sign of an `f32`, taken from either format, and the fields below it, side by side
pub joined : (f : Format) (x : Float) (r : ℕ) → T (fits f x) → r < 2 ^ 31 → bit_or (to_bits f x / top f * 2 ^ 31 % 2 ^ 64) r ≡ cond (sign_of f (to_bits f x)) (2 ^ 31) 0 + r
joined f x r h l =
    let q = to_bits f x / top f in
    let e : q * 2 ^ 31 ≡ cond (sign_of f (to_bits f x)) (2 ^ 31) 0 = sign_at f x (2 ^ 31) h in
    ap (λ (y : ℕ). bit_or y r) (mod-eq_of_lt (small (sign_of f (to_bits f x)) (q * 2 ^ 31) e)) ∙ or_shifted q 31 r l ∙ ap (λ (y : ℕ). y + r) e
  where
    small : (s : Bool) (y : ℕ) → y ≡ cond s (2 ^ 31) 0 → y < 2 ^ 64
    small true y e = omega arith
    small false y e = omega arith

pub joined_lt : (s : Bool) {y r : ℕ} → y ≡ cond s (2 ^ 31) 0 + r → r < 2 ^ 31 → y < 2 ^ 32
joined_lt true e l = omega arith
joined_lt false e l = omega arith

-- ---- a float from its own bits

pub written : (f : Format) (v : Float) (n : ℕ) → T (fits f v) → to_bits f v ≡ n → of_bits f n ≡ v
written f v n h e = ap (of_bits f) (sym e) ∙ of_bits-to_bits f v h

pub written_no_nan : (f : Format) (v : Float) (n : ℕ) → T (fits f v) → T (not (is_nan v)) → to_bits f v ≡ n → T (not (nan_bits f n))
written_no_nan f v n h k e = subst (λ (t : Bool). T (not t)) (sym (nan_bits_is f n ∙ ap is_nan (written f v n h e))) k

-- ---- a rounded number is no NaN

odd_no_nan : (d : ℕ) (s : Bool) (q k l : ℕ) → T (not (is_nan (odd d s q k l)))
unfolding odd is_nan
odd_no_nan d s zero k l = tt
odd_no_nan d s (suc q) k l = tt

units_no_nan : (f : Format) (s : Bool) (q k : ℕ) → T (not (is_nan (units f s q k)))
unfolding units is_nan
units_no_nan f s q k = go (ltb (q * 2 ^ k) (2 ^ (low f + suc (emax f))))
  where
    go : (b : Bool) → T (not (is_nan (cond b (odd (suc (prec f)) s q k (low f)) (inf s))))
    go true = odd_no_nan (suc (prec f)) s q k (low f)
    go false = tt

pub round_no_nan : (f : Format) (s : Bool) (a b : ℕ) → T (not (is_nan (round f s a b)))
round_no_nan f s a b =
    subst (λ (v : Float). T (not (is_nan v))) (sym (round_is f s a b)) (units_no_nan f s (kept (prec f) (a * 2 ^ low f) b) (drop (prec f) (a * 2 ^ low f) b))

-- The cases of a square root that a program tells apart by a float's bits, in either format: a NaN, a zero, what is negative, the infinity, and the rest. Assumes nothing.
use mathlib.Core.Path.{◌≡◌, refl, sym, ap, ap₂, ◌∙◌}
use lib.IntN.{pos}
use Prim.Native.Nat.{ℕ, zero, suc, ◌+◌, ◌-◌, ◌*◌, ◌^◌, ◌≤◌, ◌<◌}
use native.Mathlib.Nat.{mul-pos, zero-mul, lt_of_lt_of_le, le-add_right, not-le_of_lt}
use native.Mathlib.Omega.{arith}
use mathlib.Core.Bool.{Bool, true, false, not, cond, true≢false}
use lib.Dec.{T, leb, eqb, le→leb, leb→le, not_T}
use lib.Pow.{pow_pos}
use lib.Ieee.{Float, nan, inf, fin, Format, binary32, binary64, prec, emax, low, hid, ones, top, up, odd, div, fits, is_nan, of_fields, of_bits, to_bits}
use lib.Ieee.Bits.{is_true, is_false}
use lib.Ieee.Fits.{nan-fits, inf-fits, round-fits, down_pos, eq→eqb}
use lib.Ieee.Exact.{HasValue, odd_sign}
use Rattle.number.specs.Number.{root}
use Rattle.number.proofs.Fields.{field_of, digits_of, sign_of, read_fields, no_digits, round_no_nan}

pub zero_over_zero : (f : Format) → div f (of_bits f 0) (of_bits f 0) ≡ nan
unfolding div of_bits
zero_over_zero binary32 = refl
zero_over_zero binary64 = refl

pub root_nan : (f : Format) (x : Float) → x ≡ nan → nan ≡ root f x
unfolding root
root_nan f x e = sym (ap (root f) e)

-- ---- a zero

fields_none : (f : Format) (s : Bool) → of_fields f s 0 0 ≡ fin s 0 (pos 0)
unfolding of_fields odd
fields_none f s = refl

root_zero : (f : Format) (s : Bool) → root f (fin s 0 (pos 0)) ≡ fin s 0 (pos 0)
unfolding root
root_zero f true = refl
root_zero f false = refl

none_l : (a b : ℕ) → a + b ≡ 0 → a ≡ 0
none_l a b e = omega arith

none_r : (a b : ℕ) → a + b ≡ 0 → b ≡ 0
none_r a b e = omega arith

pub zero_case : (f : Format) (x : Float) → T (fits f x) → field_of f (to_bits f x) + digits_of f (to_bits f x) ≡ 0 → x ≡ root f x
zero_case f x h e =
    let b = to_bits f x in
    let s = sign_of f b in
    let is : x ≡ fin s 0 (pos 0) = sym (read_fields f x h) ∙ ap₂ (λ (y t : ℕ). of_fields f s y t) (none_l (field_of f b) (digits_of f b) e) (none_r (field_of f b) (digits_of f b) e) ∙ fields_none f s in
    is ∙ sym (root_zero f s) ∙ ap (root f) (sym is)

-- ---- below zero

negative_value : (f : Format) (v : Float) (a c : ℕ) → 0 < a → HasValue v true a c → root f v ≡ nan
unfolding root
negative_value f nan a c A h = absurd h
negative_value f (inf t) a c A h = absurd h
negative_value f (fin false m e) a c A h = absurd (true≢false (sym h.0))
negative_value f (fin true zero e) a c A h = absurd (nothing (mul-pos A (down_pos e)) (sym h.1 ∙ ap (λ (x : ℕ). x * c) (zero-mul (up e)) ∙ zero-mul c))
  where
    nothing : {x : ℕ} → 0 < x → x ≡ 0 → ⊥
    nothing p q = omega arith
negative_value f (fin true (suc m) e) a c A h = refl

negative_fields : (f : Format) (F t : ℕ) → 0 < F + t → root f (of_fields f true F t) ≡ nan
unfolding root of_fields
negative_fields f zero t h = negative_value f (odd (prec f) true t 0 (low f)) (t * 2 ^ 0) (2 ^ low f) (mul-pos (tail t h) (pow_pos 0)) (odd_sign (prec f) true t 0 (low f))
  where
    tail : (y : ℕ) → 0 < 0 + y → 0 < y
    tail y l = omega arith
negative_fields f (suc y) t h = go (eqb (suc y) (ones f)) (eqb t 0)
  where
    go : (a b : Bool) → root f (cond a (cond b (inf true) nan) (odd (prec f) true (hid f + t) y (low f))) ≡ nan
    go true true = refl
    go true false = refl
    go false b =
        negative_value f (odd (prec f) true (hid f + t) y (low f)) ((hid f + t) * 2 ^ y) (2 ^ low f) (mul-pos (lt_of_lt_of_le (pow_pos (prec f - 1)) (le-add_right (hid f) t)) (pow_pos y))
        (odd_sign (prec f) true (hid f + t) y (low f))

pub negative_case : (f : Format) (x : Float) → T (fits f x) → (field_of f (to_bits f x) + digits_of f (to_bits f x) ≡ 0 → ⊥) → top f ≤ to_bits f x → nan ≡ root f x
negative_case f x h n l =
    let b = to_bits f x in
    sym (negative_fields f (field_of f b) (digits_of f b) (some (field_of f b + digits_of f b) n))
    ∙ ap (λ (s : Bool). root f (of_fields f s (field_of f b) (digits_of f b))) (sym (is_true (sign_of f b) (le→leb (top f) b l)))
    ∙ ap (root f) (read_fields f x h)
  where
    some : (y : ℕ) → (y ≡ 0 → ⊥) → 0 < y
    some y p = omega arith

-- ---- not below zero

pub positive : (f : Format) (x : Float) → T (fits f x) → to_bits f x < top f → of_fields f false (field_of f (to_bits f x)) (digits_of f (to_bits f x)) ≡ x
positive f x h l =
    let b = to_bits f x in
    ap (λ (s : Bool). of_fields f s (field_of f b) (digits_of f b)) (sym (is_false (sign_of f b) (not_T (leb (top f) b) (λ (t : T (leb (top f) b)). not-le_of_lt l (leb→le (top f) b t)))))
    ∙ read_fields f x h

fields_inf : (f : Format) (F : ℕ) → F ≡ ones f → of_fields f false F 0 ≡ inf false
unfolding of_fields
fields_inf f zero e = absurd (none (emax f) e)
  where
    none : (y : ℕ) → 0 ≡ 2 * y + 1 → ⊥
    none y p = omega arith
fields_inf f (suc y) e = ap (λ (a : Bool). cond a (cond (eqb 0 0) (inf false) nan) (odd (prec f) false (hid f + 0) y (low f))) (is_true (eqb (suc y) (ones f)) (eq→eqb e))

root_inf : (f : Format) → root f (inf false) ≡ inf false
unfolding root
root_inf f = refl

pub inf_case : (f : Format) (x : Float) → T (fits f x) → T (not (is_nan x)) → to_bits f x < top f → field_of f (to_bits f x) ≡ ones f → x ≡ root f x
inf_case f x h n l e =
    let b = to_bits f x in
    let is : x ≡ inf false = sym (positive f x h l) ∙ ap (λ (t : ℕ). of_fields f false (field_of f b) t) (no_digits f x h n e) ∙ fields_inf f (field_of f b) e in
    is ∙ sym (root_inf f) ∙ ap (root f) (sym is)

-- ---- what is left: the bits of the root are those that were worked out from the fields
pub rest_case : (f : Format) (x : Float) (r : ℕ) → T (fits f x) → to_bits f x < top f → to_bits f (root f (of_fields f false (field_of f (to_bits f x)) (digits_of f (to_bits f x)))) ≡ r
    → to_bits f (root f x) ≡ r
rest_case f x r h l e = ap (λ (v : Float). to_bits f (root f v)) (sym (positive f x h l)) ∙ e

pub root_fits : (f : Format) (x : Float) → T (fits f x) → T (fits f (root f x))
unfolding root
root_fits f nan h = nan-fits f
root_fits f (inf true) h = nan-fits f
root_fits f (inf false) h = inf-fits f false
root_fits f (fin true zero e) h = h
root_fits f (fin false zero e) h = h
root_fits f (fin true (suc m) e) h = nan-fits f
root_fits f (fin false (suc m) e) h = round-fits f false _ _

abbrev negative : Float → Bool
negative nan = false
negative (inf s) = s
negative (fin s m e) = s

odd_sign_is : (d q k l : ℕ) → negative (odd d false q k l) ≡ false
unfolding odd
odd_sign_is d zero k l = refl
odd_sign_is d (suc q) k l = refl

fields_sign : (f : Format) (F t : ℕ) → negative (of_fields f false F t) ≡ false
unfolding of_fields
fields_sign f zero t = odd_sign_is (prec f) t 0 (low f)
fields_sign f (suc y) t = go (eqb (suc y) (ones f)) (eqb t 0)
  where
    go : (a b : Bool) → negative (cond a (cond b (inf false) nan) (odd (prec f) false (hid f + t) y (low f))) ≡ false
    go true true = refl
    go true false = refl
    go false b = odd_sign_is (prec f) (hid f + t) y (low f)

no_nan_of : (f : Format) (x : Float) → negative x ≡ false → T (not (is_nan x)) → T (not (is_nan (root f x)))
unfolding root is_nan
no_nan_of f nan s n = n
no_nan_of f (inf true) s n = absurd (true≢false s)
no_nan_of f (inf false) s n = tt
no_nan_of f (fin true m e) s n = absurd (true≢false s)
no_nan_of f (fin false zero e) s n = tt
no_nan_of f (fin false (suc m) e) s n = round_no_nan f false _ _

pub root_no_nan : (f : Format) (x : Float) → T (fits f x) → T (not (is_nan x)) → to_bits f x < top f → T (not (is_nan (root f x)))
root_no_nan f x h n l = no_nan_of f x (ap negative (sym (positive f x h l)) ∙ fields_sign f (field_of f (to_bits f x)) (digits_of f (to_bits f x))) n

-- The remainder of two floats, from their bits. Assumes nothing.
use mathlib.Core.Path.{◌≡◌, refl, sym, ap, ap₂, ◌∙◌, subst}
use Prim.Native.Nat.{ℕ, zero, suc, ◌+◌, ◌*◌, ◌/◌, ◌%◌, ◌^◌, ◌≤◌, ◌<◌}
use native.Mathlib.Nat.{lt_of_lt_of_le, le_of_lt, mul_assoc, mul_comm, mul_right_comm, zero-mul, mul-pos}
use native.Mathlib.Omega.{arith}
use mathlib.Core.Bool.{Bool, true, false, not, cond}
use lib.Dec.{T, eqb, eqb→eq}
use lib.Pow.{pow_pos, pow_mono, shl_lt, split, mod-mod-pow}
use lib.Ieee.{Float, nan, inf, fin, Format, binary32, low, emax, prec, up, down, odd, round, fits, is_nan, of_fields, of_bits, to_bits, rem, div}
use lib.Ieee.Bits.{of_bits-to_bits, cond_no}
use lib.Ieee.Fits.{down_pos, up_pos}
use lib.Ieee.Exact.{HasValue, odd_sign, round_exact}
use lib.Ieee.Scale.{round_same}
use Rattle.number.proofs.Pack.{value_bits_at}
use Rattle.number.proofs.RootBits.{fields_zero, fields_suc}
use Rattle.number.proofs.Fields.{sign_of, of_bits_is, round_no_nan}
use Rattle.generator.specs.Units.{places, digits, units}
use Rattle.generator.proofs.Units.{of_packed, places_le, digits_lt, digits_full, repacked, units_is, mod_scaled}

-- ---- `rem` sees only the values

product_pos : (n c y d l : ℕ) → n * c * l ≡ y * d → 0 < y → 0 < d → n ≡ 0 → ⊥
product_pos n c y d l e p q z =
    let a : 0 < y * d = mul-pos p q in
    let b : y * d ≡ 0 = sym e ∙ ap (λ (x : ℕ). x * c * l) z ∙ ap (λ (x : ℕ). x * l) (zero-mul c) ∙ zero-mul l in
    absurd (omega (arith, a, b))

scaled : (m n D E X Y L : ℕ) → 0 < n * E → 0 < Y → 0 < E * D → 0 < L → m * L ≡ X * E → n * L ≡ Y * D → m * D % (n * E) * L ≡ X % Y * (E * D)
scaled m n D E X Y L N Z C P a b =
    let i : m * D * L ≡ X * (E * D) = mul_right_comm m D L ∙ ap (λ (x : ℕ). x * D) a ∙ mul_assoc X E D in
    let j : n * E * L ≡ Y * (E * D) = mul_right_comm n E L ∙ ap (λ (x : ℕ). x * E) b ∙ mul_assoc Y D E ∙ ap (λ (x : ℕ). Y * x) (mul_comm D E) in
    sym (mod_scaled (m * D) (n * E) L N P) ∙ ap₂ (λ (x y : ℕ). x % y) i j ∙ mod_scaled X Y (E * D) Z C

zero_or_not : (n : ℕ) → (n ≡ 0 → ⊥) → T (not (eqb n 0))
zero_or_not n h = go (eqb n 0) (eqb→eq n 0)
  where
    go : (b : Bool) → (T b → n ≡ 0) → T (not b)
    go true f = absurd (h (f tt))
    go false f = tt

pos_of : (n : ℕ) → (n ≡ 0 → ⊥) → 0 < n
pos_of zero h = absurd (h refl)
pos_of (suc n) h = omega arith

pub value_rem : (f : Format) (x y : Float) (s t : Bool) (X Y L : ℕ) → 0 < L → 0 < Y → HasValue x s X L → HasValue y t Y L → rem f x y ≡ round f s (X % Y) L
unfolding rem
value_rem f nan y s t X Y L P N h k = absurd h
value_rem f (inf u) y s t X Y L P N h k = absurd h
value_rem f (fin u m e) nan s t X Y L P N h k = absurd k
value_rem f (fin u m e) (inf v) s t X Y L P N h k = absurd k
value_rem f (fin u m e) (fin v n d) s t X Y L P N h k =
    let z : n ≡ 0 → ⊥ = product_pos n (up d) Y (down d) L k.1 N (down_pos d) in
    let a = m * up e * down d % (n * up d * down e) in
    let c : 0 < down e * down d = mul-pos (down_pos e) (down_pos d) in
    cond_no (eqb n 0) nan (round f u a (down e * down d)) (zero_or_not n z)
    ∙ round_same f u a (down e * down d) (X % Y) L c P
    (scaled (m * up e) (n * up d) (down d) (down e) X Y L (mul-pos (mul-pos (pos_of n z) (up_pos d)) (down_pos e)) N c P h.1 k.1)
    ∙ ap (λ (b : Bool). round f b (X % Y) L) h.0

pub rem_by_zero : (f : Format) (x y : Float) (t : Bool) (L : ℕ) → 0 < L → HasValue y t 0 L → rem f x y ≡ nan
unfolding rem
rem_by_zero f nan y t L P k = refl
rem_by_zero f (inf u) y t L P k = refl
rem_by_zero f (fin u m e) nan t L P k = absurd k
rem_by_zero f (fin u m e) (inf v) t L P k = absurd k
rem_by_zero f (fin u m e) (fin v zero d) t L P k = refl
rem_by_zero f (fin u m e) (fin v (suc n) d) t L P k =
    let a : 0 < suc n * up d * L = mul-pos (mul-pos (omega arith) (up_pos d)) P in
    absurd (omega (arith, a, k.1, zero-mul (down d)))

pub rem_of_infinite : (f : Format) (x y : Float) (s : Bool) → x ≡ inf s → rem f x y ≡ nan
unfolding rem
rem_of_infinite f x y s e = ap (λ (v : Float). rem f v y) e

pub rem_by_infinite : (f : Format) (x y : Float) (s t : Bool) (a c : ℕ) → HasValue x s a c → y ≡ inf t → rem f x y ≡ x
unfolding rem
rem_by_infinite f nan y s t a c h e = absurd h
rem_by_infinite f (inf u) y s t a c h e = absurd h
rem_by_infinite f (fin u m d) y s t a c h e = ap (λ (v : Float). rem f (fin u m d) v) e

pub rem_of_nan : (f : Format) (x y : Float) → x ≡ nan → x ≡ rem f x y
unfolding rem
rem_of_nan f x y e = e ∙ sym (ap (λ (v : Float). rem f v y) e)

pub rem_by_nan : (f : Format) (x y : Float) → y ≡ nan → y ≡ rem f x y
unfolding rem
rem_by_nan f nan y e = e
rem_by_nan f (inf s) y e = e
rem_by_nan f (fin s m d) y e = e ∙ sym (ap (λ (v : Float). rem f (fin s m d) v) e)

pub no_number : (v : Float) → v ≡ nan → div binary32 (of_bits binary32 0) (of_bits binary32 0) ≡ v
unfolding div of_bits
no_number v e = sym e

-- ---- a float's value from its bits

fields_value : (s : Bool) (x t : ℕ) → x < 255 → t < 2 ^ 23 → HasValue (of_fields binary32 s x t) s (units (x * 2 ^ 23 + t)) (2 ^ 149)
fields_value s zero t l h =
    subst (λ (v : Float). HasValue v s (units (0 * 2 ^ 23 + t)) (2 ^ 149)) (sym (fields_zero binary32 s t))
    (subst (λ (a : ℕ). HasValue (odd 24 s t 0 149) s a (2 ^ 149)) (sym (of_packed t 0 (omega (arith, h)) (λ (p : 0 < 0). absurd (omega (arith, p))))) (odd_sign 24 s t 0 149))
fields_value s (suc y) t l h =
    let e : suc y * 2 ^ 23 + t ≡ y * 2 ^ 23 + (2 ^ 23 + t) = omega arith in
    subst (λ (v : Float). HasValue v s (units (suc y * 2 ^ 23 + t)) (2 ^ 149)) (sym (fields_suc binary32 s y t l))
    (subst (λ (a : ℕ). HasValue (odd 24 s (2 ^ 23 + t) y 149) s a (2 ^ 149)) (sym (ap units e ∙ of_packed (2 ^ 23 + t) y (omega (arith, h)) (λ (p : 0 < y). omega arith)))
    (odd_sign 24 s (2 ^ 23 + t) y 149))

pub value_of : (x : Float) (a : ℕ) → T (fits binary32 x) → a ≡ to_bits binary32 x % 2 ^ 31 → a < 2139095040 → HasValue x (sign_of binary32 (to_bits binary32 x)) (units a) (2 ^ 149)
value_of x a h e l =
    let b = to_bits binary32 x in
    let s = sign_of binary32 b in
    let w : b % 2 ^ 31 / 2 ^ 23 * 2 ^ 23 + b % 2 ^ 23 ≡ a = ap (λ (y : ℕ). b % 2 ^ 31 / 2 ^ 23 * 2 ^ 23 + y) (sym (mod-mod-pow b 8 23)) ∙ split (b % 2 ^ 31) 23 ∙ sym e in
    subst (λ (v : Float). HasValue v s (units a) (2 ^ 149)) (sym (of_bits_is binary32 b) ∙ of_bits-to_bits binary32 x h)
    (subst (λ (y : ℕ). HasValue (of_fields binary32 s (b % 2 ^ 31 / 2 ^ 23) (b % 2 ^ 23)) s (units y) (2 ^ 149)) w
    (fields_value s (b % 2 ^ 31 / 2 ^ 23) (b % 2 ^ 23) (omega (arith, e, l)) (omega arith)))

full_fields : (s : Bool) (y t : ℕ) → y ≡ 255 → of_fields binary32 s y t ≡ cond (eqb t 0) (inf s) nan
unfolding of_fields
full_fields s y t e = ap (λ (z : ℕ). of_fields binary32 s z t) e

pub infinite_of : (x : Float) (a : ℕ) → T (fits binary32 x) → T (not (is_nan x)) → a ≡ to_bits binary32 x % 2 ^ 31 → 2139095040 ≤ a → x ≡ inf (sign_of binary32 (to_bits binary32 x))
unfolding is_nan
infinite_of x a h n e l =
    let b = to_bits binary32 x in
    let s = sign_of binary32 b in
    let f : b % 2 ^ 31 / 2 ^ 23 ≡ 255 = omega (arith, e, l) in
    go (eqb (b % 2 ^ 23) 0) (sym (full_fields s (b % 2 ^ 31 / 2 ^ 23) (b % 2 ^ 23) f) ∙ sym (of_bits_is binary32 b) ∙ of_bits-to_bits binary32 x h)
  where
    go : (t : Bool) → cond t (inf (sign_of binary32 (to_bits binary32 x))) nan ≡ x → x ≡ inf (sign_of binary32 (to_bits binary32 x))
    go true k = sym k
    go false k = absurd (subst (λ (v : Float). T (not (is_nan v))) (sym k) n)

-- ---- the remainder's bits

exact : (f : Format) (s : Bool) (q k R : ℕ) → R ≡ q * 2 ^ k → q < 2 ^ prec f → q * 2 ^ k < 2 ^ (low f + suc (emax f)) → HasValue (round f s R (2 ^ low f)) s R (2 ^ low f)
exact f s q k R e h l = round_exact f s R (2 ^ low f) q k (pow_pos (low f)) h l (ap (λ (x : ℕ). x * 2 ^ low f) e)

pub rem_bits : (x y : Float) (s t : Bool) (a b r : ℕ) → HasValue x s (units a) (2 ^ 149) → HasValue y t (units b) (2 ^ 149) → 0 < units b → units r ≡ units a % units b → r < 2139095040
    → to_bits binary32 (rem binary32 x y) ≡ cond s (2 ^ 31) 0 + r
rem_bits x y s t a b r h k p e l =
    let R = units a % units b in
    let d : R ≡ digits r * 2 ^ places r = sym e ∙ units_is r in
    let small : digits r * 2 ^ places r < 2 ^ 277 = lt_of_lt_of_le (shl_lt 24 (places r) (digits_lt r)) (pow_mono {j = 277} (omega (arith, places_le r l))) in
    let v : HasValue (round binary32 s R (2 ^ 149)) s R (2 ^ 149) = exact binary32 s (digits r) (places r) R d (digits_lt r) small in
    ap (to_bits binary32) (value_rem binary32 x y s t (units a) (units b) (2 ^ 149) (pow_pos 149) p h k)
    ∙ value_bits_at binary32 (round binary32 s R (2 ^ 149)) s (digits r) (places r)
    (subst (λ (z : ℕ). HasValue (round binary32 s R (2 ^ 149)) s z (2 ^ 149)) d v) (le_of_lt (digits_lt r)) (digits_full r)
    ∙ ap (λ (z : ℕ). cond s (2 ^ 31) 0 + z) (repacked r)

pub rem_no_nan : (x y : Float) (s t : Bool) (a b : ℕ) → HasValue x s (units a) (2 ^ 149) → HasValue y t (units b) (2 ^ 149) → 0 < units b → T (not (is_nan (rem binary32 x y)))
rem_no_nan x y s t a b h k p =
    subst (λ (v : Float). T (not (is_nan v))) (sym (value_rem binary32 x y s t (units a) (units b) (2 ^ 149) (pow_pos 149) p h k))
    (round_no_nan binary32 s (units a % units b) (2 ^ 149))

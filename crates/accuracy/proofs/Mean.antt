-- The f64 mean of an exact sum is its exact mean, rounded once. Assumes nothing.
use mathlib.Core.Path.{◌≡◌, refl, sym, ap, ◌∙◌, subst}
use mathlib.Core.Bool.{Bool, true, false, cond}
use Prim.Native.Nat.{ℕ, zero, suc, ◌*◌, ◌≤◌, ◌<◌}
use native.Mathlib.Nat.{lt_of_le_of_lt, mul_comm, mul_assoc, mul_left_comm, mul-pos, mul-one, lt_irrefl}
use native.Mathlib.Omega.{arith}
use borrow.Author.Tests.{ne_eqb}
use lib.Dec.{T, eqb, lit<}
use lib.IntN.{ℤ, pos, nat_abs, ◌*ℤ◌}
use lib.Ieee.{Float, nan, inf, fin, binary64, up, down, unlike, round, div, of_int, fits}
use lib.Ieee.Fits.{down_pos, div-fits}
use lib.Ieee.Scale.{round_same}
use lib.Ieee.Positive.{num, den, first_pos}
use Rattle.power.specs.Power.{mean64}
use Rattle.laws.specs.Whole.{signed, Is}
use Rattle.laws.proofs.Signs.{sign_of, by_sign, size_signed, signed_scale, size_mul}
use Rattle.laws.proofs.Whole.{of_int_whole, rescaled}

-- ---- the sign and the size of a float that is a whole number
abbrev pub sign_bit : Float → Bool
sign_bit nan = false
sign_bit (inf s) = s
sign_bit (fin s m e) = s

pub is_size : (x : Float) (z : ℤ) → Is x z → num x ≡ nat_abs z * den x
is_size nan z h = absurd h
is_size (inf s) z h = absurd h
is_size (fin s m e) z h = sym (size_signed s (m * up e)) ∙ ap nat_abs h ∙ size_mul z (pos (down e))

pub is_sign : (x : Float) (z : ℤ) → Is x z → signed (sign_bit x) (nat_abs z) ≡ z
is_sign nan z h = absurd h
is_sign (inf s) z h = absurd h
is_sign (fin s m e) z h =
    let k : m * up e ≡ nat_abs z * down e = is_size (fin s m e) z h in
    ap (λ (x : ℕ). signed s x) (sym (mul-one (nat_abs z)))
    ∙ rescaled s z (down e) 1 (down_pos e) (ap (λ (x : ℕ). signed s x) (sym k) ∙ h)
    ∙ ap (λ (x : ℤ). x *ℤ pos 1) (by_sign z)
    ∙ signed_scale (sign_of z) (nat_abs z) 1
    ∙ ap (λ (x : ℕ). signed (sign_of z) x) (mul-one (nat_abs z))
    ∙ sym (by_sign z)

-- ---- the count
pub count_is : (n : ℕ) → n ≤ 65536 → Is (of_int binary64 (pos n)) (pos n)
count_is n h = of_int_whole binary64 (pos n) (lt_of_le_of_lt h (lit< tt))

pub not_negative : (s : Bool) (n : ℕ) → 0 < n → signed s n ≡ pos n → s ≡ false
not_negative false n h e = refl
not_negative true zero h e = absurd (lt_irrefl 0 h)
not_negative true (suc n) h e = let z : ◌≡◌ {A = ℕ} 0 1 = cc in absurd (no z)
  where
    no : ◌≡◌ {A = ℕ} 0 1 → ⊥
    no h = omega arith

-- ---- a quotient by a whole number above 0
over_same : (s : Bool) → unlike s false ≡ s
over_same false = refl
over_same true = refl

pos_ne : (a : ℕ) → 0 < a → a ≡ 0 → ⊥
pos_ne a h e = omega arith

pub div_whole : (x y : Float) (z : ℤ) (n : ℕ) → 0 < n → Is x z → Is y (pos n) → div binary64 x y ≡ round binary64 (sign_bit x) (nat_abs z) n
unfolding div
div_whole nan y z n N p q = absurd p
div_whole (inf s) y z n N p q = absurd p
div_whole (fin s m e) nan z n N p q = absurd q
div_whole (fin s m e) (inf t) z n N p q = absurd q
div_whole (fin s m e) (fin t k d) z n N p q =
    let a : m * up e ≡ nat_abs z * down e = is_size (fin s m e) z p in
    let b : k * up d ≡ n * down d = is_size (fin t k d) (pos n) q in
    let K : 0 < k = first_pos k (up d) (subst (λ (w : ℕ). 0 < w) (sym b) (mul-pos N (down_pos d))) in
    let t-is : t ≡ false = not_negative t n N (is_sign (fin t k d) (pos n) q) in
    let c : m * up e * down d * n ≡ nat_abs z * (k * up d * down e) =
    ap (λ (w : ℕ). w * down d * n) a ∙ regroup (nat_abs z) (down e) (down d) n ∙ ap (λ (w : ℕ). nat_abs z * (w * down e)) (sym b) in
    ap (λ (w : Bool). cond w (cond (eqb m 0) nan (inf (unlike s t))) (round binary64 (unlike s t) (m * up e * down d) (k * up d * down e))) (ne_eqb k 0 (pos_ne k K))
    ∙ ap (λ (w : Bool). round binary64 (unlike s w) (m * up e * down d) (k * up d * down e)) t-is
    ∙ ap (λ (w : Bool). round binary64 w (m * up e * down d) (k * up d * down e)) (over_same s)
    ∙ round_same binary64 s (m * up e * down d) (k * up d * down e) (nat_abs z) n (mul-pos (subst (λ (w : ℕ). 0 < w) (sym b) (mul-pos N (down_pos d))) (down_pos e)) N c
  where
    regroup : (a c d n : ℕ) → a * c * d * n ≡ a * (n * d * c)
    regroup a c d n = simp (mul_assoc, mul_comm, mul_left_comm)

pub mean_is : (t : Float) (z : ℤ) (n : ℕ) → 0 < n → n ≤ 65536 → Is t z → mean64 t n ≡ round binary64 (sign_bit t) (nat_abs z) n
unfolding mean64
mean_is t z n N h p = div_whole t (of_int binary64 (pos n)) z n N p (count_is n h)

pub mean_fits : (t : Float) (n : ℕ) → T (fits binary64 (mean64 t n))
unfolding mean64
mean_fits t n = div-fits binary64 t (of_int binary64 (pos n))

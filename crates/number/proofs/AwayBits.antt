-- `roundAway` of an `f32` by its fields, as a bit pattern. Assumes nothing.
use mathlib.Core.Path.{◌≡◌, refl, sym, ap, ◌∙◌, subst}
use mathlib.Core.Logic.{inl, inr}
use Prim.Native.Nat.{ℕ, zero, suc, ◌+◌, ◌-◌, ◌*◌, ◌/◌, ◌^◌, ◌≤◌, ◌<◌}
use native.Mathlib.Nat.{le_trans, le_of_eq, le_of_lt, le_of_suc-le-suc, lt_of_lt_of_le, lt_of_le_of_lt, eq-or-lt_of_le, mul-one, one-mul, mul_assoc, mul_comm, mul_left_comm, mul_right_comm, mul-pos}
use native.Mathlib.Nat.{add-mul, suc-mul, mul-le-mul_right, div-lt_iff_lt-mul, le-div_iff_mul-le, div-eq_of_lt, zero-lt-suc, eq_of_mul-eq-mul_right, pow-succ'}
use native.Mathlib.Omega.{arith}
use mathlib.Core.Bool.{Bool, false, not, cond}
use lib.Dec.{T, lit<, lit≤}
use lib.Arith.{digits_div}
use lib.Pow.{pow_pos, pow_mono, shl_lt}
use lib.Ieee.{Float, nan, inf, fin, Format, binary32, up, down, odd, round, fits, is_nan, of_fields, to_bits}
use lib.Ieee.Fits.{down_pos, round-fits, nan-fits, inf-fits, odd-fits}
use lib.Ieee.Exact.{HasValue, odd_sign, round_exact}
use lib.Ieee.Nearest.{div_same}
use lib.Ieee.Back.{whole_unique}
use Rattle.number.specs.Number.{round_away}
use Rattle.number.proofs.Pack.{value_bits_at}
use Rattle.number.proofs.Scaled.{pow_sum, shift_sum}
use Rattle.number.proofs.RootBits.{fields_zero, fields_suc}
use Rattle.number.proofs.Fields.{round_no_nan}

-- ---- `roundAway` sees only the value

-- A and a half, with A / L the fraction m / D: in whole numbers
half_up : (m A L D h : ℕ) → 0 < L → 0 < D → A * D ≡ m * L → D ≡ 2 * h → (2 * A + L) / (2 * L) ≡ (m + h) / D
half_up m A L D h X Y e d =
    let a : (2 * A + L) * D ≡ 2 * (A * D) + L * D = add-mul (2 * A) L D ∙ ap (λ (x : ℕ). x + L * D) (mul_assoc 2 A D) in
    let b : (m + h) * (2 * L) ≡ 2 * (m * L) + 2 * (h * L) = add-mul m h (2 * L) ∙ ap (λ (x : ℕ). x + h * (2 * L)) (mul_left_comm m 2 L) ∙ ap (λ (x : ℕ). 2 * (m * L) + x) (mul_left_comm h 2 L) in
    let c : L * D ≡ 2 * (h * L) = ap (λ (x : ℕ). L * x) d ∙ mul_left_comm L 2 h ∙ ap (λ (x : ℕ). 2 * x) (mul_comm L h) in
    div_same (2 * A + L) (2 * L) (m + h) D (mul-pos (zero-lt-suc 1) X) Y (omega arith)

value_away : (f : Format) (v : Float) (s : Bool) (a c : ℕ) → 0 < c → HasValue v s a c → round_away f v ≡ round f s ((2 * a + c) / (2 * c)) 1
unfolding round_away
value_away f nan s a c C h = absurd h
value_away f (inf t) s a c C h = absurd h
value_away f (fin t m e) s a c C h =
    ap (λ (b : Bool). round f b ((2 * (m * up e) + down e) / (2 * down e)) 1) h.0
    ∙ ap (λ (q : ℕ). round f s q 1) (half_up (2 * a) (m * up e) (down e) (2 * c) c (down_pos e) (mul-pos (zero-lt-suc 1) C) (cross h.1) refl)
  where
    cross : m * up e * c ≡ a * down e → m * up e * (2 * c) ≡ 2 * a * down e
    cross p = mul_left_comm (m * up e) 2 c ∙ ap (λ (x : ℕ). 2 * x) p ∙ sym (mul_assoc 2 a (down e))

-- ---- a whole number's bits

whole_units : (v : Float) (s : Bool) (Q l : ℕ) → HasValue v s Q 1 → HasValue v s (Q * l) l
whole_units nan s Q l h = h
whole_units (inf t) s Q l h = h
whole_units (fin t m e) s Q l h = (h.0, ap (λ (x : ℕ). x * l) (sym (mul-one (m * up e)) ∙ h.1) ∙ mul_right_comm Q (down e) l)

round_whole : (s : Bool) (Q : ℕ) → Q < 2 ^ 24 → HasValue (round binary32 s Q 1) s Q 1
round_whole s Q h = round_exact binary32 s Q 1 Q 149 (zero-lt-suc 0) h (lt_of_lt_of_le (shl_lt 24 149 h) (pow_mono {i = 24 + 149} {j = 277} (lit≤ tt))) (sym (mul-one (Q * 2 ^ 149)))

whole_bits : (s : Bool) (Q q k : ℕ) → Q < 2 ^ 24 → Q * 2 ^ 149 ≡ q * 2 ^ k → q ≤ 2 ^ 24 → (0 < k → 2 ^ 23 ≤ q) → to_bits binary32 (round binary32 s Q 1) ≡ cond s (2 ^ 31) 0 + (k * 2 ^ 23 + q)
whole_bits s Q q k h e a b =
    value_bits_at binary32 (round binary32 s Q 1) s q k (subst (λ (x : ℕ). HasValue (round binary32 s Q 1) s x (2 ^ 149)) e (whole_units (round binary32 s Q 1) s Q (2 ^ 149) (round_whole s Q h))) a b

-- ---- below a half

units_none : (s : Bool) (m y : ℕ) → m < 2 ^ 24 → y ≤ 124 → to_bits binary32 (round_away binary32 (odd 24 s m y 149)) ≡ cond s (2 ^ 31) 0 + 0
units_none s m y h l =
    let a = m * 2 ^ y in
    let b : a < 2 ^ 148 = lt_of_lt_of_le (shl_lt 24 y h) (pow_mono {i = 24 + y} {j = 148} (omega arith)) in
    ap (to_bits binary32) (value_away binary32 (odd 24 s m y 149) s a (2 ^ 149) (pow_pos 149) (odd_sign 24 s m y 149)
    ∙ ap (λ (q : ℕ). round binary32 s q 1) (div-eq_of_lt (less a (2 ^ 148) (2 ^ 149) b refl)))
    ∙ whole_bits s 0 0 0 (lit< tt) refl (lit≤ tt) (λ z. absurd (none z))
  where
    less : (a h c : ℕ) → a < h → c ≡ 2 * h → 2 * a + c < 2 * c
    less a h c p e = omega arith

    none : 0 < 0 → ⊥
    none p = omega arith

-- ---- from a half up

module _ (s : Bool) (m y d : ℕ) (lo : 2 ^ 23 ≤ m) (hi : m < 2 ^ 24) (D : y + d ≡ 149) (one : 1 ≤ d) (most : d ≤ 24) where
  abbrev h : ℕ
  h = 2 ^ (d - 1)

  abbrev Q : ℕ
  Q = (m + h) / 2 ^ d

  twice : 2 ^ d ≡ 2 * h
  twice = ap (λ (x : ℕ). 2 ^ x) (back d one) ∙ pow-succ' 2 (d - 1)
    where
      back : (x : ℕ) → 1 ≤ x → x ≡ suc (x - 1)
      back x p = omega arith

  Q_le : Q ≤ 2 ^ (24 - d)
  Q_le =
      le_of_suc-le-suc ((div-lt_iff_lt-mul (pow_pos d)).1
      (lt_of_lt_of_le (less m h (2 ^ 24) (2 ^ d) hi (pow_pos (d - 1)) twice) (le_of_eq (sym (suc-mul (2 ^ (24 - d)) (2 ^ d) ∙ ap (λ (x : ℕ). x + 2 ^ d) (pow_sum (24 - d) d 24 (omega arith)))))))
    where
      less : (m h t w : ℕ) → m < t → 0 < h → w ≡ 2 * h → m + h < t + w
      less m h t w p q e = omega arith

  up_to : Q * 2 ^ d ≤ 2 ^ 24
  up_to = le_trans (mul-le-mul_right (2 ^ d) Q_le) (le_of_eq (pow_sum (24 - d) d 24 (omega arith)))

  from : 2 ^ 23 ≤ Q * 2 ^ d
  from = elim (eq-or-lt_of_le most) [
    | inl e ↦
        let w : 2 ^ d ≡ 2 ^ 24 = ap (λ (x : ℕ). 2 ^ x) e in
        let g : h ≡ 2 ^ 23 = ap (λ (x : ℕ). 2 ^ (x - 1)) e in
        let q : 1 ≤ Q = (le-div_iff_mul-le (pow_pos d)).1 (le_trans (le_of_eq (one-mul (2 ^ d) ∙ w)) (omega arith)) in
        le_trans (le_trans (lit≤ tt) (le_of_eq (sym w))) (le_trans (le_of_eq (sym (one-mul (2 ^ d)))) (mul-le-mul_right (2 ^ d) q))
    | inr l ↦
        let p : 2 ^ (23 - d) * 2 ^ d ≡ 2 ^ 23 = pow_sum (23 - d) d 23 (omega arith) in
        le_trans (le_of_eq (sym p)) (mul-le-mul_right (2 ^ d) ((le-div_iff_mul-le (pow_pos d)).1 (le_trans (le_of_eq p) (omega arith))))
  ]

  units_some : to_bits binary32 (round_away binary32 (odd 24 s m y 149)) ≡ cond s (2 ^ 31) 0 + (y * 2 ^ 23 + Q * 2 ^ d)
  units_some =
      ap (to_bits binary32)
      (value_away binary32 (odd 24 s m y 149) s (m * 2 ^ y) (2 ^ 149) (pow_pos 149) (odd_sign 24 s m y 149)
      ∙ ap (λ (q : ℕ). round binary32 s q 1) (half_up m (m * 2 ^ y) (2 ^ 149) (2 ^ d) h (pow_pos 149) (pow_pos d) (shift_sum m y d 149 D) twice))
      ∙ whole_bits s Q (Q * 2 ^ d) y (lt_of_le_of_lt Q_le (lt_of_le_of_lt (pow_mono {i = 24 - d} {j = 23} (omega arith)) (lit< tt))) (sym (shift_sum Q d y 149 (omega arith))) up_to (λ z. from)

-- ---- a whole number already

whole_of : (v : Float) (s : Bool) (W l : ℕ) → 0 < l → HasValue v s (W * l) l → HasValue v s W 1
whole_of nan s W l L h = h
whole_of (inf t) s W l L h = h
whole_of (fin t m e) s W l L h = (h.0, mul-one (m * up e) ∙ eq_of_mul-eq-mul_right l L (m * up e) (W * down e) (h.1 ∙ mul_right_comm W l (down e)))

cut : (W L : ℕ) → 0 < L → (2 * (W * L) + L) / (2 * L) ≡ W
cut W L h = ap (λ (x : ℕ). (x + L) / (2 * L)) (mul_left_comm 2 W L) ∙ digits_div W (more L h)
  where
    more : (x : ℕ) → 0 < x → x < 2 * x
    more x p = omega arith

units_whole : (s : Bool) (m y : ℕ) → m < 2 ^ 24 → 149 ≤ y → y ≤ 253 → odd 24 s m y 149 ≡ round_away binary32 (odd 24 s m y 149)
units_whole s m y h l u =
    let v = odd 24 s m y 149 in
    let W = m * 2 ^ (y - 149) in
    let e : m * 2 ^ y ≡ W * 2 ^ 149 = sym (shift_sum m (y - 149) 149 y (omega arith)) in
    let i : HasValue v s (W * 2 ^ 149) (2 ^ 149) = subst (λ (x : ℕ). HasValue v s x (2 ^ 149)) e (odd_sign 24 s m y 149) in
    let b : m * 2 ^ y < 2 ^ 277 = lt_of_lt_of_le (shl_lt 24 y h) (pow_mono {i = 24 + y} {j = 277} (omega arith)) in
    whole_unique binary32 v (round binary32 s W 1) s W (odd-fits binary32 24 s m y h (le_of_lt h) b) (round-fits binary32 s W 1) (whole_of v s W (2 ^ 149) (pow_pos 149) i)
    (round_exact binary32 s W 1 m y (zero-lt-suc 0) h b (sym e ∙ sym (mul-one (m * 2 ^ y))))
    ∙ sym (value_away binary32 v s (W * 2 ^ 149) (2 ^ 149) (pow_pos 149) i ∙ ap (λ (q : ℕ). round binary32 s q 1) (cut W (2 ^ 149) (pow_pos 149)))

-- ---- by the fields

abbrev Bits : Bool → ℕ → ℕ → ℕ
Bits s F t = to_bits binary32 (round_away binary32 (of_fields binary32 s F t))

pub away_none : (s : Bool) (F t : ℕ) → F < 126 → t < 2 ^ 23 → Bits s F t ≡ cond s (2 ^ 31) 0 + 0
away_none s zero t F T = ap (λ (v : Float). to_bits binary32 (round_away binary32 v)) (fields_zero binary32 s t) ∙ units_none s t 0 (omega arith) (omega arith)
away_none s (suc y) t F T = ap (λ (v : Float). to_bits binary32 (round_away binary32 v)) (fields_suc binary32 s y t (omega arith)) ∙ units_none s (2 ^ 23 + t) y (omega arith) (omega arith)

-- the digits, rounded, with d of them cut and put back as zeros
abbrev pub Away : ℕ → ℕ → ℕ
Away m d = (m + 2 ^ (d - 1)) / 2 ^ d * 2 ^ d

pub away_le : (m d : ℕ) → 2 ^ 23 ≤ m → m < 2 ^ 24 → 1 ≤ d → d ≤ 24 → Away m d ≤ 2 ^ 24
away_le m d lo hi a b = up_to false m (149 - d) d lo hi (omega arith) a b

pub away_some : (s : Bool) (F t : ℕ) → 126 ≤ F → F < 150 → t < 2 ^ 23 → Bits s F t ≡ cond s (2 ^ 31) 0 + ((F - 1) * 2 ^ 23 + Away (2 ^ 23 + t) (150 - F))
away_some s zero t L U T = absurd (none L)
  where
    none : 126 ≤ 0 → ⊥
    none p = omega arith
away_some s (suc y) t L U T =
    ap (λ (v : Float). to_bits binary32 (round_away binary32 v)) (fields_suc binary32 s y t (omega arith))
    ∙ units_some s (2 ^ 23 + t) y (150 - suc y) (omega arith) (omega arith) (omega arith) (omega arith) (omega arith)
    ∙ ap (λ (x : ℕ). cond s (2 ^ 31) 0 + (x * 2 ^ 23 + Away (2 ^ 23 + t) (150 - suc y))) (same y)
  where
    same : (x : ℕ) → x ≡ suc x - 1
    same x = omega arith

fields_inf : (s : Bool) (t F : ℕ) → F ≡ 255 → t ≡ 0 → of_fields binary32 s F t ≡ inf s
unfolding of_fields
fields_inf s t F e z = ap (λ (x : ℕ). of_fields binary32 s x t) e ∙ ap (λ (x : ℕ). of_fields binary32 s 255 x) z

away_inf : (s : Bool) → inf s ≡ round_away binary32 (inf s)
unfolding round_away
away_inf s = refl

pub away_whole : (s : Bool) (F t : ℕ) → 150 ≤ F → F < 256 → t < 2 ^ 23 → (F ≡ 255 → t ≡ 0) → of_fields binary32 s F t ≡ round_away binary32 (of_fields binary32 s F t)
away_whole s zero t L U T N = absurd (none L)
  where
    none : 150 ≤ 0 → ⊥
    none p = omega arith
away_whole s (suc y) t L U T N = elim (eq-or-lt_of_le (le_of_suc-le-suc U)) [
  | inl e ↦
      let i = fields_inf s t (suc y) e (N e) in
      i ∙ away_inf s ∙ ap (round_away binary32) (sym i)
  | inr l ↦
      let i = fields_suc binary32 s y t l in
      i ∙ units_whole s (2 ^ 23 + t) y (omega arith) (omega arith) (omega arith) ∙ ap (round_away binary32) (sym i)
]

-- ---- what `roundAway` gives is an `f32`, and no NaN but for a NaN

pub away_fits : (x : Float) → T (fits binary32 (round_away binary32 x))
unfolding round_away
away_fits nan = nan-fits binary32
away_fits (inf s) = inf-fits binary32 s
away_fits (fin s m e) = round-fits binary32 s ((2 * (m * up e) + down e) / (2 * down e)) 1

pub away_no_nan : (x : Float) → T (not (is_nan x)) → T (not (is_nan (round_away binary32 x)))
unfolding round_away is_nan
away_no_nan nan h = h
away_no_nan (inf s) h = tt
away_no_nan (fin s m e) h = round_no_nan binary32 s ((2 * (m * up e) + down e) / (2 * down e)) 1

pub away_of_nan : (x : Float) → x ≡ nan → x ≡ round_away binary32 x
unfolding round_away
away_of_nan x e = e ∙ sym (ap (round_away binary32) e)

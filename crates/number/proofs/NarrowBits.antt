-- `narrow` of a value by its fields, as a bit pattern. Assumes nothing.
use mathlib.Core.Path.{◌≡◌, refl, sym, ap, ◌∙◌}
use Prim.Native.Nat.{ℕ, zero, suc, ◌+◌, ◌-◌, ◌*◌, ◌/◌, ◌%◌, ◌^◌, ◌≤◌, ◌<◌, min, compare}
use native.Mathlib.Nat.{le_trans, le_of_suc-le-suc, eq-or-lt_of_le, lt_of_lt_of_le, mul_assoc}
use native.Mathlib.Omega.{arith}
use mathlib.Core.Logic.{inl, inr}
use mathlib.Core.Bool.{Bool, not, cond}
use lib.Dec.{T, eqb, eqb→eq, not_T}
use lib.Pow.{pow-add, pow_pos, pow_mono, shr_lt}
use lib.Ieee.{Float, nan, inf, fin, binary32, binary64, up, down, odd, round, fits, is_nan, div, of_fields, of_bits, to_bits}
use lib.Ieee.Bits.{cond_no}
use lib.Ieee.Fits.{down_pos, nearest-le, nan-fits, inf-fits, round-fits}
use lib.Ieee.Exact.{HasValue, odd_sign}
use lib.Ieee.Nearest.{closest}
use lib.Ieee.Order.{drop, kept}
use lib.Ieee.Scale.{round_same}
use Rattle.number.specs.Number.{narrow}
use Rattle.number.proofs.Pack.{round_bits}
use Rattle.number.proofs.Fields.{round_no_nan}
use Rattle.number.proofs.Scaled.{drop_at, drop_zero, kept_at, kept_zero}

-- `narrow` sees only the value
narrow_value : (v : Float) (s : Bool) (a c : ℕ) → 0 < c → HasValue v s a c → narrow v ≡ round binary32 s a c
unfolding narrow
narrow_value nan s a c C h = absurd h
narrow_value (inf t) s a c C h = absurd h
narrow_value (fin t m e) s a c C h = ap (λ (b : Bool). round binary32 b (m * up e) (down e)) h.0 ∙ round_same binary32 s (m * up e) (down e) a c (down_pos e) C h.1

-- the bits beside the sign, of what keeps q and drops k
abbrev pub Beside : ℕ → ℕ → ℕ
Beside k q = min (k * 2 ^ 23 + q) (255 * 2 ^ 23)

-- m * 2 ^ y in units of the smallest `f64`
value_bits : (v : Float) (s : Bool) (m y k q : ℕ) → HasValue v s (m * 2 ^ y) (2 ^ 1074) → drop 24 (m * 2 ^ (y + 149)) (2 ^ 1074) ≡ k → closest (m * 2 ^ (y + 149)) (2 ^ 1074 * 2 ^ k) ≡ q
    → to_bits binary32 (narrow v) ≡ cond s (2 ^ 31) 0 + Beside k q
value_bits v s m y k q h d e =
    let n : m * 2 ^ y * 2 ^ 149 ≡ m * 2 ^ (y + 149) = mul_assoc m (2 ^ y) (2 ^ 149) ∙ ap (λ (x : ℕ). m * x) (sym (pow-add 2 y 149)) in
    ap (to_bits binary32) (narrow_value v s (m * 2 ^ y) (2 ^ 1074) (pow_pos 1074) h)
    ∙ round_bits binary32 s (m * 2 ^ y) (2 ^ 1074)
    ∙ ap (λ (x : ℕ). cond s (2 ^ 31) 0 + Beside (drop 24 x (2 ^ 1074)) (kept 24 x (2 ^ 1074))) n
    ∙ ap (λ (j : ℕ). cond s (2 ^ 31) 0 + Beside j (closest (m * 2 ^ (y + 149)) (2 ^ 1074 * 2 ^ j))) d
    ∙ ap (λ (x : ℕ). cond s (2 ^ 31) 0 + Beside k x) e

units_bits : (s : Bool) (m y k q : ℕ) → drop 24 (m * 2 ^ (y + 149)) (2 ^ 1074) ≡ k → closest (m * 2 ^ (y + 149)) (2 ^ 1074 * 2 ^ k) ≡ q
    → to_bits binary32 (narrow (odd 53 s m y 1074)) ≡ cond s (2 ^ 31) 0 + Beside k q
units_bits s m y k q d e = value_bits (odd 53 s m y 1074) s m y k q (odd_sign 53 s m y 1074) d e

-- below half of the smallest `f32`
units_tiny : (s : Bool) (m y : ℕ) → m < 2 ^ 53 → y ≤ 870 → to_bits binary32 (narrow (odd 53 s m y 1074)) ≡ cond s (2 ^ 31) 0 + 0
units_tiny s m y h l =
    units_bits s m y 0 0 (drop_zero 24 m (y + 149) 1074 53 h (omega arith)) (kept_zero m (y + 149) 1074 53 h (omega arith))

-- a subnormal `f32`, or the least that is not
units_low : (s : Bool) (m y : ℕ) → m < 2 ^ 53 → 871 ≤ y → y ≤ 895 → to_bits binary32 (narrow (odd 53 s m y 1074)) ≡ cond s (2 ^ 31) 0 + Beside 0 (closest m (2 ^ (925 - y)))
units_low s m y h l u =
    units_bits s m y 0 (closest m (2 ^ (925 - y))) (drop_zero 24 m (y + 149) 1074 53 h (omega arith)) (kept_at m (y + 149) 1074 0 (925 - y) (omega arith))

pub value_high : (v : Float) (s : Bool) (m y : ℕ) → HasValue v s (m * 2 ^ y) (2 ^ 1074) → 2 ^ 52 ≤ m → m < 2 ^ 53 → 896 ≤ y
    → to_bits binary32 (narrow v) ≡ cond s (2 ^ 31) 0 + Beside (y - 896) (closest m (2 ^ 29))
value_high v s m y i h l u =
    value_bits v s m y (y - 896) (closest m (2 ^ 29)) i (drop_at 23 m (y + 149) 1074 (y - 896) 52 h l (omega arith)) (kept_at m (y + 149) 1074 (y - 896) 29 (omega arith))

units_high : (s : Bool) (m y : ℕ) → 2 ^ 52 ≤ m → m < 2 ^ 53 → 896 ≤ y → to_bits binary32 (narrow (odd 53 s m y 1074)) ≡ cond s (2 ^ 31) 0 + Beside (y - 896) (closest m (2 ^ 29))
units_high s m y = value_high (odd 53 s m y 1074) s m y (odd_sign 53 s m y 1074)

-- ---- by the fields

differ : (y : ℕ) → suc y < 2047 → suc y ≡ 2047 → ⊥
differ y h e = omega arith

fields_zero : (s : Bool) (t : ℕ) → of_fields binary64 s 0 t ≡ odd 53 s t 0 1074
unfolding of_fields
fields_zero s t = refl

fields_suc : (s : Bool) (t y : ℕ) → suc y < 2047 → of_fields binary64 s (suc y) t ≡ odd 53 s (2 ^ 52 + t) y 1074
unfolding of_fields
fields_suc s t y h = cond_no (eqb (suc y) 2047) (cond (eqb t 0) (inf s) nan) (odd 53 s (2 ^ 52 + t) y 1074)
    (not_T (eqb (suc y) 2047) (λ (u : T (eqb (suc y) 2047)). differ y h (eqb→eq (suc y) 2047 u)))

fields_inf : (s : Bool) (t F : ℕ) → F ≡ 2047 → t ≡ 0 → of_fields binary64 s F t ≡ inf s
unfolding of_fields
fields_inf s t F e z = ap (λ (x : ℕ). of_fields binary64 s x t) e ∙ ap (λ (x : ℕ). of_fields binary64 s 2047 x) z

inf_bits : (s : Bool) → to_bits binary32 (narrow (inf s)) ≡ cond s (2 ^ 31) 0 + 255 * 2 ^ 23
unfolding narrow to_bits
inf_bits s = refl

-- what the function returns in each of its cases
abbrev Bits : Bool → ℕ → ℕ → ℕ
Bits s F t = to_bits binary32 (narrow (of_fields binary64 s F t))

pub tiny : (s : Bool) (F t : ℕ) → F < 872 → t < 2 ^ 52 → Bits s F t ≡ cond s (2 ^ 31) 0 + 0
tiny s zero t F T = ap (λ (v : Float). to_bits binary32 (narrow v)) (fields_zero s t) ∙ units_tiny s t 0 (omega arith) (omega arith)
tiny s (suc y) t F T = ap (λ (v : Float). to_bits binary32 (narrow v)) (fields_suc s t y (omega arith)) ∙ units_tiny s (2 ^ 52 + t) y (omega arith) (omega arith)

-- a rounded number is at most one more than the cut one
pub closest_le : (m d j : ℕ) → m < 2 ^ (j + d) → closest m (2 ^ d) ≤ 2 ^ j
closest_le m d j h = le_trans (nearest-le (m / 2 ^ d) (compare (m % 2 ^ d * 2) (2 ^ d))) (shr_lt j d h)

least : (q : ℕ) → q ≤ 2 ^ 23 → Beside 0 q ≡ q
least q h = omega arith

pub low_bits : (s : Bool) (F t : ℕ) → 872 ≤ F → F < 897 → t < 2 ^ 52 → Bits s F t ≡ cond s (2 ^ 31) 0 + closest (2 ^ 52 + t) (2 ^ (926 - F))
low_bits s zero t L U T = absurd (none L)
  where
    none : 872 ≤ 0 → ⊥
    none h = omega arith
low_bits s (suc y) t L U T =
    let m = 2 ^ 52 + t in
    let hi : m < 2 ^ 53 = omega arith in
    ap (λ (v : Float). to_bits binary32 (narrow v)) (fields_suc s t y (omega arith))
    ∙ units_low s m y hi (omega arith) (omega arith)
    ∙ ap (λ (x : ℕ). cond s (2 ^ 31) 0 + x) (least (closest m (2 ^ (925 - y))) (closest_le m (925 - y) 23 (lt_of_lt_of_le hi (pow_mono {i = 53} {j = 23 + (925 - y)} (omega arith)))))
    ∙ ap (λ (d : ℕ). cond s (2 ^ 31) 0 + closest m (2 ^ d)) (same y)
  where
    same : (x : ℕ) → 925 - x ≡ 926 - suc x
    same x = omega arith

pub high_bits : (s : Bool) (F t : ℕ) → 897 ≤ F → F < 2048 → t < 2 ^ 52 → (F ≡ 2047 → t ≡ 0) → Bits s F t ≡ cond s (2 ^ 31) 0 + Beside (F - 897) (closest (2 ^ 52 + t) (2 ^ 29))
high_bits s zero t L U T N = absurd (none L)
  where
    none : 897 ≤ 0 → ⊥
    none h = omega arith
high_bits s (suc y) t L U T N = elim (eq-or-lt_of_le (le_of_suc-le-suc U)) [
  | inl e ↦
      ap (λ (v : Float). to_bits binary32 (narrow v)) (fields_inf s t (suc y) e (N e))
      ∙ inf_bits s
      ∙ ap (λ (x : ℕ). cond s (2 ^ 31) 0 + x) (capped (suc y) (closest (2 ^ 52 + t) (2 ^ 29)) e)
  | inr l ↦
      ap (λ (v : Float). to_bits binary32 (narrow v)) (fields_suc s t y l)
      ∙ units_high s (2 ^ 52 + t) y (omega arith) (omega arith) (omega arith)
      ∙ ap (λ (d : ℕ). cond s (2 ^ 31) 0 + Beside d (closest (2 ^ 52 + t) (2 ^ 29))) (same y)
]
  where
    same : (x : ℕ) → x - 896 ≡ suc x - 897
    same x = omega arith

    capped : (F q : ℕ) → F ≡ 2047 → 255 * 2 ^ 23 ≡ Beside (F - 897) q
    capped F q e = omega arith

-- ---- what `narrow` gives is an `f32`, and no NaN but for a NaN

pub narrow_fits : (x : Float) → T (fits binary32 (narrow x))
unfolding narrow
narrow_fits nan = nan-fits binary32
narrow_fits (inf s) = inf-fits binary32 s
narrow_fits (fin s m e) = round-fits binary32 s (m * up e) (down e)

pub narrow_no_nan : (x : Float) → T (not (is_nan x)) → T (not (is_nan (narrow x)))
unfolding narrow is_nan
narrow_no_nan nan h = h
narrow_no_nan (inf s) h = tt
narrow_no_nan (fin s m e) h = round_no_nan binary32 s (m * up e) (down e)

pub of_nan : (x : Float) → x ≡ nan → div binary32 (of_bits binary32 0) (of_bits binary32 0) ≡ narrow x
unfolding narrow div of_bits
of_nan x e = sym (ap narrow e)

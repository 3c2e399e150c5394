-- What a sample that is no number, or not finite, does to the sums of every bin: both sums are then no numbers, or not finite. Assumes nothing.
use Rattle.std.proofs.Common.{◌≡◌, ℕ, zero, suc, ◌<◌, false, T, List, length, get_or, refl, ap, ◌∙◌, subst, arith}
use native.Mathlib.Decide.{dec_le}
use lib.Ieee.{Float, nan, inf, fin, binary64, add, sub, mul, neg}
use lib.Ieee.Scale.{finite}
use Rattle.laws.proofs.NotNumber.{add_nan, nan_add, sub_nan, nan_sub, nan_mul}
use Rattle.laws.proofs.NotFinite.{add_beyond, beyond_add, beyond_mul}
use Rattle.quarter.specs.Turn.{sine_of, cosine_of}
use Rattle.spectrum.specs.Bin.{angle_of, turned, sums_to, sums_of}

never : (i : ℕ) → i < 0 → ⊥
never i l = omega arith

neg_beyond : (x : Float) → finite x ≡ false → finite (neg x) ≡ false
unfolding neg
neg_beyond nan h = refl
neg_beyond (inf s) h = refl
neg_beyond (fin s m e) h = absurd (subst T h tt)

-- a difference, as a sum with the second side's sign turned
pub beyond_sub : (t x : Float) → finite t ≡ false → finite (sub binary64 t x) ≡ false
unfolding sub
beyond_sub t x h = beyond_add binary64 t (neg x) h

pub sub_beyond : (x t : Float) → finite t ≡ false → finite (sub binary64 x t) ≡ false
unfolding sub
sub_beyond x t h = add_beyond binary64 x (neg t) (neg_beyond t h)

module _ (xs : List Float) (bin j : ℕ) (h : j < length xs) where
  -- a product at the place j that is a NaN, with the cosine or with the sine there
  module _ (e : mul binary64 (get_or xs j nan) (cosine_of (angle_of (length xs) bin j)) ≡ nan) where
    real_nan : (k : ℕ) → j < k → (sums_to xs bin k).real ≡ nan
    unfolding sums_to turned
    real_nan zero l = absurd (never j l)
    real_nan (suc k) l =
        elim (dec_le k j) [
          | yes g ↦
              let m : k ≡ j = omega arith in
              ap (λ (i : ℕ). add binary64 (sums_to xs bin k).real (mul binary64 (get_or xs i nan) (cosine_of (angle_of (length xs) bin i)))) m
              ∙ ap (add binary64 (sums_to xs bin k).real) e ∙ add_nan binary64 (sums_to xs bin k).real
          | no g ↦ ap (λ (t : Float). add binary64 t (mul binary64 (get_or xs k nan) (cosine_of (angle_of (length xs) bin k)))) (real_nan k (omega arith)) ∙ nan_add binary64 _
        ]

    pub real_by_cosine : (sums_of xs bin).real ≡ nan
    unfolding sums_of
    real_by_cosine = real_nan (length xs) h

  module _ (e : mul binary64 (get_or xs j nan) (sine_of (angle_of (length xs) bin j)) ≡ nan) where
    imag_nan : (k : ℕ) → j < k → (sums_to xs bin k).imag ≡ nan
    unfolding sums_to turned
    imag_nan zero l = absurd (never j l)
    imag_nan (suc k) l =
        elim (dec_le k j) [
          | yes g ↦
              let m : k ≡ j = omega arith in
              ap (λ (i : ℕ). sub binary64 (sums_to xs bin k).imag (mul binary64 (get_or xs i nan) (sine_of (angle_of (length xs) bin i)))) m
              ∙ ap (sub binary64 (sums_to xs bin k).imag) e ∙ sub_nan binary64 (sums_to xs bin k).imag
          | no g ↦ ap (λ (t : Float). sub binary64 t (mul binary64 (get_or xs k nan) (sine_of (angle_of (length xs) bin k)))) (imag_nan k (omega arith)) ∙ nan_sub binary64 _
        ]

    pub imag_by_sine : (sums_of xs bin).imag ≡ nan
    unfolding sums_of
    imag_by_sine = imag_nan (length xs) h

  -- the sample at the place j is a NaN
  module _ (e : get_or xs j nan ≡ nan) where
    pub nan_real : (sums_of xs bin).real ≡ nan
    nan_real = real_by_cosine (ap (λ (x : Float). mul binary64 x (cosine_of (angle_of (length xs) bin j))) e ∙ nan_mul binary64 _)

    pub nan_imag : (sums_of xs bin).imag ≡ nan
    nan_imag = imag_by_sine (ap (λ (x : Float). mul binary64 x (sine_of (angle_of (length xs) bin j))) e ∙ nan_mul binary64 _)

  -- it is not finite
  module _ (e : finite (get_or xs j nan) ≡ false) where
    real_beyond_to : (k : ℕ) → j < k → finite (sums_to xs bin k).real ≡ false
    unfolding sums_to turned
    real_beyond_to zero l = absurd (never j l)
    real_beyond_to (suc k) l =
        elim (dec_le k j) [
          | yes g ↦ let m : k ≡ j = omega arith in add_beyond binary64 _ _ (beyond_mul binary64 _ _ (ap (λ (i : ℕ). finite (get_or xs i nan)) m ∙ e))
          | no g ↦ beyond_add binary64 _ _ (real_beyond_to k (omega arith))
        ]

    imag_beyond_to : (k : ℕ) → j < k → finite (sums_to xs bin k).imag ≡ false
    unfolding sums_to turned
    imag_beyond_to zero l = absurd (never j l)
    imag_beyond_to (suc k) l =
        elim (dec_le k j) [
          | yes g ↦ let m : k ≡ j = omega arith in sub_beyond _ _ (beyond_mul binary64 _ _ (ap (λ (i : ℕ). finite (get_or xs i nan)) m ∙ e))
          | no g ↦ beyond_sub _ _ (imag_beyond_to k (omega arith))
        ]

    pub real_beyond : finite (sums_of xs bin).real ≡ false
    unfolding sums_of
    real_beyond = real_beyond_to (length xs) h

    pub imag_beyond : finite (sums_of xs bin).imag ≡ false
    unfolding sums_of
    imag_beyond = imag_beyond_to (length xs) h

-- A NaN anywhere in the samples makes every bin a NaN, so that a signal keeps its earlier THD. Assumes nothing.
use Rattle.std.proofs.Common.{◌≡◌, ℕ, ◌/◌, ◌<◌, Bool, true, false, cond, ◌⊎◌, List, length, get_or, refl, ap, ◌∙◌, inl, inr}
use lib.Ieee.{Float, nan, binary64, mul, div}
use Rattle.laws.specs.Literals.{tiny32}
use Rattle.laws.proofs.NotNumber.{add_nan, nan_add, nan_mul, lt_nan}
use Rattle.number.specs.Number.{narrow, root}
use Rattle.quarter.specs.Turn.{sine_of, cosine_of}
use Rattle.spectrum.specs.declared.parts.Sums.{Sums}
use Rattle.spectrum.specs.Bin.{angle_of, sums_of, size_of, magnitude_of}
use Rattle.spectrum.proofs.Unusual.{real_by_cosine, imag_by_sine}
use Rattle.distortion.specs.Thd.{fundamental_bin, usable, thd_from, thd_at, thd_of}

size_nan : (s : Sums) (n : ℕ) → (s.real ≡ nan) ⊎ (s.imag ≡ nan) → size_of s n ≡ nan
unfolding size_of narrow root mul div
size_nan s n (inl e) = rw (e, nan_mul binary64, nan_add binary64)
size_nan s n (inr e) = rw (e, nan_mul binary64, add_nan binary64)

-- a fundamental that is a NaN isn't above 1e-12
pub silent : (power earlier : Float) → thd_from nan power earlier ≡ earlier
unfolding thd_from
silent power earlier = rw (lt_nan tiny32)

-- a product at the place j that is a NaN, with the cosine or with the sine there, makes the magnitude one
module _ (xs : List Float) (bin j : ℕ) (h : j < length xs) where
  pub nan_by_cosine : mul binary64 (get_or xs j nan) (cosine_of (angle_of (length xs) bin j)) ≡ nan → magnitude_of xs bin ≡ nan
  unfolding magnitude_of
  nan_by_cosine e = size_nan (sums_of xs bin) (length xs) (inl (real_by_cosine xs bin j h e))

  pub nan_by_sine : mul binary64 (get_or xs j nan) (sine_of (angle_of (length xs) bin j)) ≡ nan → magnitude_of xs bin ≡ nan
  unfolding magnitude_of
  nan_by_sine e = size_nan (sums_of xs bin) (length xs) (inr (imag_by_sine xs bin j h e))

-- the THD at a fundamental that is a NaN
kept_at : (xs : List Float) (top bin : ℕ) (earlier : Float) → magnitude_of xs bin ≡ nan → thd_at top bin earlier xs ≡ earlier
unfolding thd_at
kept_at xs top bin earlier e = rw e (silent _ earlier)

pub kept_of : (xs : List Float) (top : ℕ) (frequency earlier : Float) → magnitude_of xs (fundamental_bin frequency (length xs)) ≡ nan → thd_of top frequency earlier xs ≡ earlier
unfolding thd_of
kept_of xs top frequency earlier e = rw (kept_at xs top (fundamental_bin frequency (length xs)) earlier e) (either (usable frequency (length xs / 2) (fundamental_bin frequency (length xs))))
  where
    either : (b : Bool) → cond b earlier earlier ≡ earlier
    either true = refl
    either false = refl

-- the NaN is the sample at the place j
module _ (xs : List Float) (j : ℕ) (e : get_or xs j nan ≡ nan) (h : j < length xs) where
  pub nan_magnitude : (bin : ℕ) → magnitude_of xs bin ≡ nan
  nan_magnitude bin = nan_by_cosine xs bin j h (ap (λ (x : Float). mul binary64 x (cosine_of (angle_of (length xs) bin j))) e ∙ nan_mul binary64 _)

  pub nan_thd : (top : ℕ) (frequency earlier : Float) → thd_of top frequency earlier xs ≡ earlier
  nan_thd top frequency earlier = kept_of xs top frequency earlier (nan_magnitude (fundamental_bin frequency (length xs)))

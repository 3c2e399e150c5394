-- What samples that are no numbers do to the figures, at any place of the voltage or the current: beside a NaN both are NaN, and beside an infinity neither is
-- finite. Of a call that is done. Assumes nothing.
use Rattle.std.proofs.Common.{◌≡◌, ℕ, ◌<◌, false, List, length, get_or, refl, ap, ◌∙◌, Ok}
use lib.Ieee.{Float, nan, binary64, mul, div}
use lib.Ieee.Scale.{finite}
use Rattle.answers.specs.Numbers.{done}
use Rattle.laws.proofs.NotNumber.{nan_add, nan_sub, mul_nan, nan_mul}
use Rattle.laws.proofs.NotFinite.{beyond_add, beyond_mul, mul_beyond, beyond_div}
use Rattle.number.specs.Number.{narrow}
use Rattle.number.proofs.NotFinite.{narrow_beyond}
use Rattle.spectrum.specs.declared.parts.Sums.{Sums}
use Rattle.spectrum.specs.Bin.{sums_of}
use Rattle.spectrum.proofs.Unusual.{beyond_sub, nan_real, nan_imag, real_beyond, imag_beyond}
use Rattle.fundamental.specs.declared.FundamentalPower.{FundamentalPower}
use Rattle.fundamental.specs.Fundamental.{in_phase, across, scaled_of, fundamental_with, fundamental_figures, fundamental_of, fundamental_outcome, fundamental_answer}
use Rattle.fundamental.proofs.Ends.{answer_done}

-- neither figure is finite
pub record NeitherFinite (p : FundamentalPower) : Type 0 where
  pub active : finite p.active ≡ false
  pub reactive : finite p.reactive ≡ false

scaled_nan : (n : ℕ) → scaled_of nan n ≡ nan
unfolding scaled_of narrow mul div
scaled_nan n = refl

scaled_beyond : (x : Float) (n : ℕ) → finite x ≡ false → finite (scaled_of x n) ≡ false
unfolding scaled_of
scaled_beyond x n h = narrow_beyond _ (beyond_div binary64 _ _ (beyond_mul binary64 x _ h))

-- over the sums v of the voltage and i of the current
module _ (v i : Sums) (n : ℕ) where
  voltage_nan : v.real ≡ nan → v.imag ≡ nan → fundamental_figures v i n ≡ fundamental_with nan nan
  unfolding fundamental_figures in_phase across
  voltage_nan a b = rw (a, b, nan_mul binary64, nan_mul binary64, nan_add binary64, nan_sub binary64, scaled_nan n)

  current_nan : i.real ≡ nan → i.imag ≡ nan → fundamental_figures v i n ≡ fundamental_with nan nan
  unfolding fundamental_figures in_phase across
  current_nan c d = rw (c, d, mul_nan binary64 v.real, mul_nan binary64 v.imag, nan_add binary64, nan_sub binary64, scaled_nan n)

  voltage_beyond : finite v.real ≡ false → finite v.imag ≡ false → NeitherFinite (fundamental_figures v i n)
  unfolding fundamental_figures in_phase across
  voltage_beyond a b =
      record {
        active = scaled_beyond _ n (beyond_add binary64 _ _ (beyond_mul binary64 v.real i.real a));
        reactive = scaled_beyond _ n (beyond_sub _ _ (beyond_mul binary64 v.imag i.real b));
      }

  current_beyond : finite i.real ≡ false → NeitherFinite (fundamental_figures v i n)
  unfolding fundamental_figures in_phase across
  current_beyond c =
      record {
        active = scaled_beyond _ n (beyond_add binary64 _ _ (mul_beyond binary64 v.real i.real c));
        reactive = scaled_beyond _ n (beyond_sub _ _ (mul_beyond binary64 v.imag i.real c));
      }

-- of a call that is done
module _ (v i : List Float) (k j : ℕ) (done : fundamental_outcome (length v) (length i) k ≡ done) where
  taken : fundamental_answer v i k ≡ Ok (fundamental_of v i k)
  taken = answer_done v i k done

  module _ (h : j < length v) where
    pub nan_in_voltage : get_or v j nan ≡ nan → fundamental_answer v i k ≡ Ok (fundamental_with nan nan)
    unfolding fundamental_of
    nan_in_voltage e = taken ∙ ap Ok (voltage_nan (sums_of v k) (sums_of i k) (length v) (nan_real v k j h e) (nan_imag v k j h e))

    pub infinity_in_voltage : finite (get_or v j nan) ≡ false → (fundamental_answer v i k ≡ Ok (fundamental_of v i k)) × NeitherFinite (fundamental_of v i k)
    unfolding fundamental_of
    infinity_in_voltage e = (taken, voltage_beyond (sums_of v k) (sums_of i k) (length v) (real_beyond v k j h e) (imag_beyond v k j h e))

  module _ (h : j < length i) where
    pub nan_in_current : get_or i j nan ≡ nan → fundamental_answer v i k ≡ Ok (fundamental_with nan nan)
    unfolding fundamental_of
    nan_in_current e = taken ∙ ap Ok (current_nan (sums_of v k) (sums_of i k) (length v) (nan_real i k j h e) (nan_imag i k j h e))

    pub infinity_in_current : finite (get_or i j nan) ≡ false → (fundamental_answer v i k ≡ Ok (fundamental_of v i k)) × NeitherFinite (fundamental_of v i k)
    unfolding fundamental_of
    infinity_in_current e = (taken, current_beyond (sums_of v k) (sums_of i k) (length v) (real_beyond i k j h e))

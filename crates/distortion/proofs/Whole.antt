-- THD put together from what the calls give. Assumes nothing.
use Rattle.std.proofs.Common.{◌≡◌, ℕ, ◌/◌, true, false, List, length}
use lib.Ieee.{Float, lt}
use Rattle.laws.specs.Harmonics.{harmonic_power, last_up_to}
use Rattle.laws.specs.Literals.{tiny32}
use Rattle.laws.specs.Quotients.{percent_of}
use Rattle.number.specs.Number.{narrowed_root}
use Rattle.spectrum.specs.Bin.{magnitude_of}
use Rattle.distortion.specs.Thd.{fundamental_bin, usable, thd_from, thd_at, thd_of}

module _ (top : ℕ) (earlier : Float) (xs : List Float) where
  -- the fundamental is heard, or silent
  pub heard : (bin last : ℕ) (f p w : Float) → f ≡ magnitude_of xs bin → lt tiny32 f ≡ true → last ≡ last_up_to top (length xs / 2) bin → p ≡ harmonic_power (magnitude_of xs) bin 2 last
      → w ≡ narrowed_root p → percent_of w f ≡ thd_at top bin earlier xs
  unfolding thd_at thd_from
  heard bin last f p w ef t el ep ew = rw (← ef, t, ew, ep, el)

  pub silent : (bin : ℕ) (f : Float) → f ≡ magnitude_of xs bin → lt tiny32 f ≡ false → earlier ≡ thd_at top bin earlier xs
  unfolding thd_at thd_from
  silent bin f ef t = rw (← ef, t)

  -- the bin is usable, or not
  pub worked : (frequency : Float) (bin : ℕ) (r : Float) → bin ≡ fundamental_bin frequency (length xs) → usable frequency (length xs / 2) bin ≡ true → r ≡ thd_at top bin earlier xs
      → r ≡ thd_of top frequency earlier xs
  unfolding thd_of
  worked frequency bin r e u t = rw (← e, u) t

  pub kept : (frequency : Float) (bin : ℕ) → bin ≡ fundamental_bin frequency (length xs) → usable frequency (length xs / 2) bin ≡ false → earlier ≡ thd_of top frequency earlier xs
  unfolding thd_of
  kept frequency bin e u = rw (← e, u)

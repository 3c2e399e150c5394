-- The spectrum with lent scratch: the n sines that a length needs. Definitions only.
use Rattle.std.specs.Prelude.{◌≡◌, ℕ, ◌<◌, ◌≤◌, ◌||◌, List, length, nat_lt, slice_index_or, Float}
use Rattle.std.specs.Float.{nan}
use Rattle.answers.specs.Numbers.{Outcome, if_done}
use Rattle.answers.specs.Left.{Left, left}
use Rattle.laws.specs.Filled.{filled}
use Rattle.quarter.specs.Turn.{sine_of}
use Rattle.spectrum.specs.Bin.{step_of}
use Rattle.spectrum.specs.Spectrum.{outcome_of, output_short, bins}

-- the sine of place j of n places around the turn
unfoldable pub sine_at : ℕ → ℕ → Float
sine_at n j = sine_of (step_of n j)

-- `spectrumOf` with lent scratch: this call is ours and not in 01. The scratch must have a place for each sample, and after a call that is done
-- its first n places hold the n sines. Behind the call lie the output and the scratch
unfoldable pub spectrum_in : List Float → List Float → List Float → Left Outcome (List Float × List Float)
spectrum_in xs w out =
    let n = length xs in
    let o = outcome_of n (output_short xs out || nat_lt (length w) n) in
    left o (if_done o (bins xs out) out, if_done o (filled (sine_at n) n w) w)

-- ---- for the loops alone: no public contract cites what follows

-- a list whose first n places hold the n sines
pub record Sines (n : ℕ) (w : List Float) : Type 0 where
  pub room : n ≤ length w
  pub at : (j : ℕ) → j < n → slice_index_or w j nan ≡ sine_at n j

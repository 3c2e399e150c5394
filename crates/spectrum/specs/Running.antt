-- Several bins in one walk over the samples: a bin underway, and the four that are stored at its end. It serves that loop alone: the contracts of
-- `dft_magnitude_spectrum` and `dft_magnitude_spectrum_in` don't cite it. Definitions only.
use Rattle.std.specs.Prelude.{ℕ, ◌+◌, ◌%◌, List, slice_set, Float}
use Rattle.quarter.specs.Turn.{sine_of, cosine_of}
use Rattle.spectrum.specs.declared.parts.Sums.{Sums}
use Rattle.spectrum.specs.declared.several.Running.{Running}
use Rattle.spectrum.specs.declared.several.Four.{Four}
use Rattle.spectrum.specs.Bin.{step_of, turned, size_of}
use Rattle.spectrum.specs.Spectrum.{halved}

-- its sums so far, and the place around the turn of its next sample
abbrev pub running : Sums → ℕ → Running
running s at = record { sums = s; at = at }

-- the sample x at the place of b among n, and on to the place of bin k's next sample
unfoldable pub stepped : ℕ → Running → Float → ℕ → Running
stepped n b x k = running (turned b.sums x (cosine_of (step_of n b.at)) (sine_of (step_of n b.at))) ((b.at + k) % n)

-- bin k of n samples, from its sums s into its place; and the four from k on
unfoldable pub stored : List Float → ℕ → Sums → ℕ → List Float
stored out k s n = slice_set out k (halved k (size_of s n))

unfoldable pub stored_four : List Float → ℕ → Four → ℕ → List Float
stored_four out k r n = stored (stored (stored (stored out k r.first n) (k + 1) r.second n) (k + 2) r.third n) (k + 3) r.fourth n

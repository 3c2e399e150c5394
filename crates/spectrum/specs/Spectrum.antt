-- The magnitude spectrum, and what a call leaves behind. Definitions only.
use Rattle.std.specs.Prelude.{ℕ, ◌/◌, Bool, cond, not, List, length, ◌==◌, from_bits, nat_lt, Float}
use Rattle.std.specs.Float.{binary32}
use Rattle.std.specs.Float.Ieee.{div}
use Rattle.answers.specs.Numbers.{Outcome, done, if_done, too_long, refuse}
use Rattle.answers.specs.declared.Refusal.TheVariants.{OutputShort, TooLong, OffGrid}
use Rattle.answers.specs.Left.{Left, left}
use Rattle.laws.specs.Filled.{filled}
use Rattle.spectrum.specs.Grid.{on_grid}
use Rattle.spectrum.specs.Bin.{magnitude_of}

-- 01, "Bin 0 is halved at the end": the f32 m, the magnitude of bin k, divided by 2.0 in f32
unfoldable pub halved : ℕ → Float → Float
halved k m = cond (k == 0) (div binary32 m (from_bits binary32 0x40000000)) m

unfoldable pub bin_of : List Float → ℕ → Float
bin_of xs k = halved k (magnitude_of xs k)

-- 01, "Where several hold: 3, 1, 4, 2": n samples, and whether what was lent is too short
unfoldable pub outcome_of : ℕ → Bool → Outcome
outcome_of n short = refuse (too_long n) TooLong (refuse (not (on_grid n)) OffGrid (refuse short OutputShort done))

-- 01, "a lent output is shorter than what must be written"
abbrev pub output_short : List Float → List Float → Bool
output_short xs out = nat_lt (length out) (length xs / 2)

-- the bins below half the length; 01, "Places from n/2 on stay"
abbrev pub bins : List Float → List Float → List Float
bins xs out = filled (bin_of xs) (length xs / 2) out

-- 01, item 6, `dft_magnitude_spectrum`: how it ends, and the output with its bins where it is done; "Nothing but 0 writes to what was lent"
unfoldable pub spectrum_of : List Float → List Float → Left Outcome (List Float)
spectrum_of xs out =
    let o = outcome_of (length xs) (output_short xs out) in
    left o (if_done o (bins xs out) out)

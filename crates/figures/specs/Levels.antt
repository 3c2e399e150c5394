-- The levels of the samples: extremes, means and RMS values (01, item 5 and 'Rules taken from the Rust'). Definitions only.
-- A Float has no width: an f32 and the f64 that it widens to are the same value.
use Rattle.std.specs.Prelude.{true, false, List, length, Float}
use Rattle.std.specs.Float.{inf, binary32, binary64}
use Rattle.std.specs.Float.Ieee.{add, sub}
use Rattle.laws.specs.Literals.{zero64}
use Rattle.laws.specs.Samples.{higher, lower, square_of}
use Rattle.laws.specs.Walks.{over}
use Rattle.number.specs.Number.{root, abs}
use Rattle.timing.specs.Timing.{total_of, narrowed_mean}
use Rattle.figures.specs.declared.levels.Extremes.{Extremes}
use Rattle.figures.specs.declared.levels.Sums.{Sums}
use Rattle.figures.specs.declared.levels.Levels.{Levels}

-- ---- extremes. 01, "Maximum starts at minus infinity and minimum at plus infinity; a sample replaces one only if strictly beyond it. A NaN never does."

unfoldable pub max_of : List Float → Float
max_of xs = over higher (inf true) xs (length xs)

unfoldable pub min_of : List Float → Float
min_of xs = over lower (inf false) xs (length xs)

-- ---- sums. 01, "Sums are f64, in index order from 0"

-- f of one sample more
abbrev pub adding : (Float → Float) → Float → Float → Float
adding f t x = add binary64 t (f x)

unfoldable pub sum_of : (Float → Float) → List Float → Float
sum_of f xs = over (adding f) zero64 xs (length xs)

-- the square of the f32 difference from the average
abbrev pub away : Float → Float → Float
away average x = square_of (sub binary32 x average)

abbrev pub ripple_of : Float → List Float → Float
ripple_of average xs = sum_of (away average) xs

-- ---- means, each an f64 quotient, narrowed once

unfoldable pub average_of : List Float → Float
average_of xs = narrowed_mean (total_of xs) (length xs)

-- the rectified mean: of the sizes
unfoldable pub rectified_of : List Float → Float
rectified_of xs = narrowed_mean (sum_of abs xs) (length xs)

-- ---- RMS. 01, "`dc_rms` narrows the mean square to f32 and then takes the f32 root"

-- with the DC part
unfoldable pub dc_rms_of : List Float → Float
dc_rms_of xs = root binary32 (narrowed_mean (sum_of square_of xs) (length xs))

-- without it
unfoldable pub ac_rms_of : List Float → Float
ac_rms_of xs = root binary32 (narrowed_mean (ripple_of (average_of xs) xs) (length xs))

-- ---- for the code alone: its records of several of these. No public contract cites what follows

abbrev pub extremes_of : List Float → Extremes
extremes_of xs = record { max = max_of xs; min = min_of xs }

abbrev pub level_sums : List Float → Sums
level_sums xs = record { total = total_of xs; squares = sum_of square_of xs; sizes = sum_of abs xs }

abbrev pub levels_of : List Float → Levels
levels_of xs = record { max = max_of xs; min = min_of xs; average = average_of xs; dc_rms = dc_rms_of xs; ac_rms = ac_rms_of xs; rectified = rectified_of xs }

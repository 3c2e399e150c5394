-- What `measure_frequency` and `slew_rate` answer, operation by operation (01, item 3 and 'Rules taken from the Rust'). Definitions only.
use Rattle.std.specs.Prelude.{ℕ, ◌+◌, ◌-◌, Bool, cond, ◌&&◌, List, length, ◌==◌, nat_lt, Result, Float}
use Rattle.std.specs.Float.{binary32, binary64}
use Rattle.std.specs.Float.Ieee.{add, sub, mul, div, lt, le}
use Rattle.answers.specs.declared.Refusal.{Refusal}
use Rattle.answers.specs.Answers.{measured}
use Rattle.laws.specs.Literals.{zero32, zero64, one32, count32, count64}
use Rattle.laws.specs.Samples.{higher}
use Rattle.laws.specs.Walks.{over, pairs}
use Rattle.number.specs.Number.{narrow, abs}
use Rattle.timing.specs.declared.parts.Crossings.{Crossings}

-- ---- the mean

-- 01, "Sums are f64, in index order from 0"
unfoldable pub total_of : List Float → Float
total_of xs = over (add binary64) zero64 xs (length xs)

-- the sum over n samples as a mean: an f64 quotient, narrowed once
unfoldable pub narrowed_mean : Float → ℕ → Float
narrowed_mean t n = narrow (div binary64 t (count64 n))

-- ---- frequency

-- 01, "A rising crossing at i: sample i-1 minus the mean is below 0 and sample i minus the mean is at least 0, in f32"
unfoldable pub rises_at : Float → Float → Float → Bool
rises_at mean prev curr = lt (sub binary32 prev mean) zero32 && le zero32 (sub binary32 curr mean)

-- the place of the first crossing, where there is one at i
unfoldable pub first_of : Crossings → ℕ → ℕ
first_of s i = cond (s.count == 0) i s.first

abbrev pub one_more : Crossings → ℕ → Crossings
one_more s i = record { count = s.count + 1; first = first_of s i; last = i }

unfoldable pub crossing_at : Float → Crossings → ℕ → Float → Float → Crossings
crossing_at mean s i prev curr = cond (rises_at mean prev curr) (one_more s i) s

abbrev pub no_crossing : Crossings
no_crossing = record { count = 0; first = 0; last = 0 }

unfoldable pub crossings_of : Float → List Float → Crossings
crossings_of mean xs = pairs (crossing_at mean) no_crossing xs (length xs - 1)

-- 01, "Frequency is crossings less one, times rate, over the span of samples, in that order; 0.0 under two crossings"
unfoldable pub frequency_from : Crossings → Float → Float
frequency_from s rate = cond (nat_lt s.count 2) zero32 (div binary32 (mul binary32 (count32 (s.count - 1)) rate) (count32 (s.last - s.first)))

unfoldable pub frequency_about : Float → List Float → Float → Float
frequency_about mean xs rate = frequency_from (crossings_of mean xs) rate

-- the crossings are those of the samples' own mean
abbrev pub frequency_of : List Float → Float → Float
frequency_of xs rate = frequency_about (narrowed_mean (total_of xs) (length xs)) xs rate

-- ---- slew rate

-- the size of a step from one sample to the next, the Rust's `fabsf(samples[i] - samples[i - 1])`; that over the time dt between them, `dv / dt`;
-- and the larger of m and that, `if sr > max_sr`
abbrev pub slew_step : Float → Float → Float
slew_step prev curr = abs (sub binary32 curr prev)

abbrev pub slope_of : Float → Float → Float → Float
slope_of dt prev curr = div binary32 (slew_step prev curr) dt

unfoldable pub slew_at : Float → Float → ℕ → Float → Float → Float
slew_at dt m i prev curr = higher m (slope_of dt prev curr)

unfoldable pub steepest_of : Float → List Float → Float
steepest_of dt xs = pairs (slew_at dt) zero32 xs (length xs - 1)

-- the Rust's `if samples.len() < 2 || sample_rate <= 0.0 { return 0.0; }`, and else the largest with `dt = 1.0 / sample_rate`, from 0: so 0 where the rate is at
-- most 0, and for fewer than two samples
unfoldable pub slew_of : List Float → Float → Float
slew_of xs rate = cond (le rate zero32) zero32 (steepest_of (div binary32 one32 rate) xs)

-- ---- the answers

unfoldable pub frequency_answer : List Float → Float → Result Float Refusal
frequency_answer xs rate = measured (length xs) (frequency_of xs rate)

unfoldable pub slew_answer : List Float → Float → Result Float Refusal
slew_answer xs rate = measured (length xs) (slew_of xs rate)

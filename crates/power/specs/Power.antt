-- What `compute_power` answers (01, item 4), operation by operation. Each operation on f32 (binary32) or f64 (binary64) is IEEE 754's: the exact result,
-- rounded once to the nearest, ties to even (`lib.Ieee`). An f32 is an f64 as it stands. Definitions only.
use Rattle.std.specs.Prelude.{ℕ, zero, suc, cond, not, List, length, pos, ◌==◌, from_bits, slice_index_or, Result, Float}
use Rattle.std.specs.Float.{nan, binary32, binary64}
use Rattle.std.specs.Float.Ieee.{add, sub, mul, div, lt, of_int}
use Rattle.number.specs.Number.{narrow, narrowed_root}
use Rattle.answers.specs.declared.Refusal.{Refusal}
use Rattle.answers.specs.declared.Refusal.TheVariants.{LengthsDiffer, TooLong}
use Rattle.answers.specs.Numbers.{Outcome, done, too_long, refuse}
use Rattle.answers.specs.Answers.{given}
use Rattle.laws.specs.Quotients.{ratio_or_zero}
use Rattle.power.specs.declared.Power.{Power}
use Rattle.power.specs.declared.parts.Sums.{Sums}

-- ---- the sums

-- 01, "Sums are f64, in index order from 0": x₀ y₀ + x₁ y₁ + .. over the first k places
unfoldable pub sum_to : List Float → List Float → ℕ → Float
sum_to x y zero = from_bits binary64 0
sum_to x y (suc k) = add binary64 (sum_to x y k) (mul binary64 (slice_index_or x k nan) (slice_index_or y k nan))

-- the three sums of a capture
abbrev pub capture_sums : List Float → List Float → ℕ → Sums
capture_sums v i k = record { vi = sum_to v i k; vv = sum_to v v k; ii = sum_to i i k; count = k }

-- ---- the record

-- a sum over n places, divided by n
unfoldable pub mean64 : Float → ℕ → Float
mean64 t n = div binary64 t (of_int binary64 (pos n))

-- p, active power: the mean of the products, narrowed to f32
unfoldable pub active_of : Sums → Float
active_of t = narrow (mean64 t.vi t.count)

-- s, apparent power: the f32 product of the root mean squares of voltage and current. 01, "`compute_power` takes the f64 root and then narrows"
unfoldable pub apparent_of : Sums → Float
apparent_of t = mul binary32 (narrowed_root (mean64 t.vv t.count)) (narrowed_root (mean64 t.ii t.count))

-- the Rust's `if x > 0.0 { x } else { 0.0 }`: 0 at a NaN too
unfoldable pub above_zero : Float → Float
above_zero x = cond (lt (from_bits binary64 0) x) x (from_bits binary64 0)

-- nonactive power: the root of s² - p², worked out in f64. 01 calls it q, "the reactive power"; 02, c: "IEEE 1459 calls the root of s² - p² nonactive power;
-- 01 named it wrongly"
unfoldable pub nonactive_of : Float → Float → Float
nonactive_of p s = narrowed_root (above_zero (sub binary64 (mul binary64 s s) (mul binary64 p p)))

-- nonactive, and pf, the power factor p / s, from p and s
abbrev pub record_with : Float → Float → Power
record_with p s = record { p = p; nonactive = nonactive_of p s; s = s; pf = ratio_or_zero p s }

-- 01, item 4: "p, q, s and pf as one record", where q is nonactive
unfoldable pub record_of : Sums → Power
record_of t = record_with (active_of t) (apparent_of t)

-- ---- the answer

-- every figure 0
abbrev pub zero_power : Power
zero_power = record { p = from_bits binary32 0; nonactive = from_bits binary32 0; s = from_bits binary32 0; pf = from_bits binary32 0 }

-- 01, "An empty pair of slices answers the all-zero record"
unfoldable pub power_of : List Float → List Float → Power
power_of v i = cond (length v == 0) zero_power (record_of (capture_sums v i (length v)))

-- how a call with n volts and m amps ends. 01, the table of numbers, and "Where several hold: 3, 1": a slice too long, then lengths that differ
unfoldable pub outcome_of : ℕ → ℕ → Outcome
outcome_of n m = refuse (too_long n) TooLong (refuse (too_long m) TooLong (refuse (not (n == m)) LengthsDiffer done))

-- 01, "What a refusal returns is zero throughout": the C boundary tells a refusal with `zero_power` (`told` of `answers`)
unfoldable pub answer_of : List Float → List Float → Result Power Refusal
answer_of v i = given (outcome_of (length v) (length i)) (power_of v i)

-- ---- for the code alone: no public contract cites what follows

-- of a capture that holds a NaN: what `recordOf` gives (proofs/NotNumbers.antt)
abbrev pub nan_power : Power
nan_power = record { p = nan; nonactive = from_bits binary32 0; s = nan; pf = from_bits binary32 0 }

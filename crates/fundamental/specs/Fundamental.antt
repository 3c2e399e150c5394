-- What `fundamental_power` answers (02, request c), operation by operation. Each operation on f64 (binary64) is IEEE 754's: the exact result, rounded once.
-- Definitions only.
use Rattle.std.specs.Prelude.{ℕ, ◌/◌, Bool, not, ◌&&◌, List, length, ◌==◌, nat_lt, Float, Result}
use Rattle.std.specs.Float.{binary64}
use Rattle.std.specs.Float.Ieee.{add, sub, mul, div}
use Rattle.answers.specs.Numbers.{Outcome, done, too_long, refuse}
use Rattle.answers.specs.Answers.{given, told}
use Rattle.answers.specs.declared.Refusal.{Refusal}
use Rattle.answers.specs.declared.Refusal.TheVariants.{LengthsDiffer, TooLong, OffGrid, BinOutside}
use Rattle.laws.specs.Literals.{zero32, count64}
use Rattle.number.specs.Number.{narrow}
use Rattle.spectrum.specs.declared.parts.Sums.{Sums}
use Rattle.spectrum.specs.Grid.{on_grid}
use Rattle.spectrum.specs.Bin.{two, sums_of}
use Rattle.fundamental.specs.declared.FundamentalPower.{FundamentalPower}

-- ---- the figures, "With real and imaginary sums a, b of voltage and c, d of current, taken as in 01": v has a and b, i has c and d

-- a c + b d
unfoldable pub in_phase : Sums → Sums → Float
in_phase v i = add binary64 (mul binary64 v.real i.real) (mul binary64 v.imag i.imag)

-- b c - a d. "Lagging current gives a positive reactive figure"
unfoldable pub across : Sums → Sums → Float
across v i = sub binary64 (mul binary64 v.imag i.real) (mul binary64 v.real i.imag)

-- 2 x / n²: x doubled, then divided by n times n; "each operation f64, narrowed at the end"
unfoldable pub scaled_of : Float → ℕ → Float
scaled_of x n = narrow (div binary64 (mul binary64 x two) (mul binary64 (count64 n) (count64 n)))

abbrev pub fundamental_with : Float → Float → FundamentalPower
fundamental_with p q = record { active = p; reactive = q }

-- "they are 2(ac + bd)/n² and 2(bc - ad)/n²"
unfoldable pub fundamental_figures : Sums → Sums → ℕ → FundamentalPower
fundamental_figures v i n = fundamental_with (scaled_of (in_phase v i) n) (scaled_of (across v i) n)

-- the two figures of bin k
unfoldable pub fundamental_of : List Float → List Float → ℕ → FundamentalPower
fundamental_of v i k = fundamental_figures (sums_of v k) (sums_of i k) (length v)

-- ---- the answer

-- "a bin k from 1 to below half" the length n
abbrev pub inside : ℕ → ℕ → Bool
inside n k = nat_lt 0 k && nat_lt k (n / 2)

-- how a call with n volts, m amps and bin k ends. "for grid lengths", "Refusals: 8, bin outside, after 4", and 01, "Where several hold: 3, 1, 4"
unfoldable pub fundamental_outcome : ℕ → ℕ → ℕ → Outcome
fundamental_outcome n m k =
    refuse (too_long n) TooLong
    (refuse (too_long m) TooLong
    (refuse (not (n == m)) LengthsDiffer
    (refuse (not (on_grid n)) OffGrid
    (refuse (not (inside n k)) BinOutside done))))

unfoldable pub fundamental_answer : List Float → List Float → ℕ → Result FundamentalPower Refusal
fundamental_answer v i k = given (fundamental_outcome (length v) (length i) k) (fundamental_of v i k)

-- 01, "What a refusal returns is zero throughout": what the C boundary shows of an answer
abbrev pub zero_fundamental : FundamentalPower
zero_fundamental = fundamental_with zero32 zero32

abbrev pub fundamental_told : List Float → List Float → ℕ → FundamentalPower
fundamental_told v i k = told zero_fundamental (fundamental_answer v i k)

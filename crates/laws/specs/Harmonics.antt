-- The power of a bin's harmonics, over the magnitude at each bin. Definitions only.
use Rattle.std.specs.Prelude.{ℕ, zero, suc, ◌+◌, ◌-◌, ◌*◌, ◌/◌, min, Float}
use Rattle.std.specs.Float.{binary64}
use Rattle.std.specs.Float.Ieee.{add}
use Rattle.laws.specs.Literals.{zero64}
use Rattle.laws.specs.Samples.{square_of}

-- 01, "Sums are f64, in index order from 0": the squares at the multiples of the bin b by the orders first, first + 1, .., as many as said
unfoldable pub harmonics_of : (ℕ → Float) → ℕ → ℕ → ℕ → Float
harmonics_of magnitude b first zero = zero64
harmonics_of magnitude b first (suc many) = add binary64 (harmonics_of magnitude b first many) (square_of (magnitude (b * (first + many))))

-- by the orders from `first` to `last`
unfoldable pub harmonic_power : (ℕ → Float) → ℕ → ℕ → ℕ → Float
harmonic_power magnitude b first last = harmonics_of magnitude b first (last + 1 - first)

-- 01, "the first multiple at or past the end of the spectrum ends the sum": the last order whose multiple of b is below the end
abbrev pub last_order : ℕ → ℕ → ℕ
last_order end b = (end - 1) / b

-- 01, "THD in `Signal` uses orders up to 16 and bins below half": the last such order of at most `top`
unfoldable pub last_up_to : ℕ → ℕ → ℕ → ℕ
last_up_to top end b = min top (last_order end b)

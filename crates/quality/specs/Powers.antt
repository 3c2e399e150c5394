-- Sums of squares over the multiples of a bin of a spectrum. Definitions only.
use Rattle.std.specs.Prelude.{◌≡◌, ℕ, ◌-◌, ◌*◌, ◌<◌, ◌≤◌, List, length, drop, slice_index_or, Float}
use Rattle.std.specs.Float.{nan, binary64}
use Rattle.std.specs.Float.Ieee.{add}
use Rattle.answers.specs.Numbers.{longest}
use Rattle.laws.specs.Walks.{over}
use Rattle.laws.specs.Harmonics.{harmonics_of, harmonic_power, last_order}
use Rattle.laws.specs.Samples.{square_of}

abbrev pub magnitude_in : List Float → ℕ → Float
magnitude_in s k = slice_index_or s k nan

-- the power of all orders from `first` on whose multiples of the bin b lie inside
unfoldable pub power_in : List Float → ℕ → ℕ → Float
power_in s b first = harmonic_power (magnitude_in s) b first (last_order (length s) b)

-- ---- for the loops alone: the contracts of the five calls don't cite what follows

-- where a sum over the orders may go on with the order h: the order before lies inside, so that the multiple by h is below twice the length
pub record Inside (n b h : ℕ) : Type 0 where
  pub places : n ≤ longest
  pub bin : 0 < b
  pub end : b < n
  pub order : 1 ≤ h
  pub before : b * (h - 1) < n

-- t is the power of the orders from `first` to the one before h
pub record Summed (s : List Float) (b first : ℕ) (t : Float) (h : ℕ) : Type 0 where
  pub inside : Inside (length s) b h
  pub reached : first ≤ h
  pub sum : t ≡ harmonics_of (magnitude_in s) b first (h - first)

-- so many places are added at a time where the bin is 1
abbrev pub squares_at_once : ℕ
squares_at_once = 64

-- from t, the squares of so many places from a place on, in index order
unfoldable pub with_squares : List Float → ℕ → Float → ℕ → Float
with_squares s from t count = over (λ (u x : Float). add binary64 u (square_of x)) t (drop from s) count

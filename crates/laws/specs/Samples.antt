-- What several figures ask of samples one by one. Definitions only.
use Rattle.std.specs.Prelude.{Bool, true, cond, ◌&&◌, not, List, ℕ, length, drop, Float}
use Rattle.std.specs.Float.{nan, inf, fin, binary64}
use Rattle.std.specs.Float.Ieee.{mul, lt, is_nan}
use Rattle.laws.specs.Walks.{over}

-- 01, "a sample replaces one only if strictly beyond it. A NaN never does": the greater of the extreme so far and a sample, and the lesser
unfoldable pub higher : Float → Float → Float
higher m x = cond (lt m x) x m

unfoldable pub lower : Float → Float → Float
lower m x = cond (lt x m) x m

-- the square of a sample or a magnitude, an f32, in f64: what 01's "Sums are f64" add up for an RMS value or a power
unfoldable pub square_of : Float → Float
square_of x = mul binary64 x x

-- ---- for loops and proofs alone: no public contract cites what follows

-- no number below zero, nor -0: a NaN, or a float whose sign is clear
unfoldable pub unsigned : Float → Bool
unsigned nan = true
unsigned (inf s) = not s
unsigned (fin s m e) = not s

-- none of so many samples from a place on is a NaN
unfoldable pub still_numbers : Bool → Float → Bool
still_numbers t x = t && not (is_nan x)

unfoldable pub numbers_in : List Float → ℕ → ℕ → Bool
numbers_in xs from count = over still_numbers true (drop from xs) count

-- no sample is a NaN
unfoldable pub all_numbers : List Float → Bool
all_numbers xs = numbers_in xs 0 (length xs)

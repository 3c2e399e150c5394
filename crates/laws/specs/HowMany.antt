-- How many samples pass a test. Definitions only.
use Rattle.std.specs.Prelude.{ℕ, ◌+◌, Bool, cond, List, length, Float}
use Rattle.laws.specs.Walks.{over}

-- one more where the sample passes
abbrev pub counting : (Float → Bool) → ℕ → Float → ℕ
counting test n x = cond (test x) (n + 1) n

unfoldable pub how_many : (Float → Bool) → List Float → ℕ
how_many test xs = over (counting test) 0 xs (length xs)

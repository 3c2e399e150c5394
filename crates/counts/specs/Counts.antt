-- How many samples are no number, and how many are infinite (02, h). Definitions only.
use Rattle.std.specs.Prelude.{ℕ, Bool, true, false, List, Float}
use Rattle.std.specs.Float.{nan, inf, fin}
use Rattle.std.specs.Float.Ieee.{is_nan}
use Rattle.laws.specs.HowMany.{how_many}
use Rattle.counts.specs.declared.parts.Counts.{Counts}

-- an infinity of either sign. (That a sample is no number is the kit's `is_nan`; which words stand for either is in Claims.antt.)
unfoldable pub is_infinite : Float → Bool
is_infinite nan = false
is_infinite (inf s) = true
is_infinite (fin s m e) = false

-- 02, h: "how many samples were no number"
unfoldable pub not_numbers_of : List Float → ℕ
not_numbers_of xs = how_many is_nan xs

-- 02, h: "and how many were infinite"
unfoldable pub infinite_of : List Float → ℕ
infinite_of xs = how_many is_infinite xs

-- ---- for the code alone: its record of both. No public contract cites what follows

abbrev pub counts_of : List Float → Counts
counts_of xs = record { not_numbers = not_numbers_of xs; infinite = infinite_of xs }

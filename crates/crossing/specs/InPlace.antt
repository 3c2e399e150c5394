-- The 16 harmonic places of a port as the caller lends them, and what the calls in place make of them. Definitions only.
use Rattle.std.specs.Prelude.{ℕ, cond, List, map, nat_lt, slice_set}
use Rattle.port.specs.Readings.{place_of}
use Rattle.crossing.specs.declared.readings.TjReading.{TjReading}
use Rattle.crossing.specs.PortCrossing.{reading_in, reading_out}

-- ---- 01, item 9: "Harmonic places are 0 to 15; a higher one reads absent and setting it does nothing"

-- the reading at place n
abbrev pub harmonic_at : List TjReading → ℕ → TjReading
harmonic_at h n = reading_out (place_of (map reading_in h) n)

-- the places with v at n: every other place stays as it was lent, and a reading that is set absent has the value 0
abbrev pub with_harmonic : List TjReading → ℕ → TjReading → List TjReading
with_harmonic h n v = cond (nat_lt n 16) (slice_set h n (reading_out (reading_in v))) h

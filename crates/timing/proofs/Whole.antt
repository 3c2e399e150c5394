-- The frequency of fewer than two crossings. Assumes nothing.
use Rattle.std.proofs.Common.{◌≡◌, ◌<◌, List, lt-ltb}
use lib.Ieee.{Float}
use Rattle.laws.specs.Literals.{zero32}
use Rattle.timing.specs.Timing.{crossings_of, frequency_from, frequency_about}

pub few_crossings : (mean : Float) (xs : List Float) (rate : Float) → (crossings_of mean xs).count < 2 → zero32 ≡ frequency_about mean xs rate
unfolding frequency_about frequency_from
few_crossings mean xs rate h = rw (lt-ltb _ _ h)

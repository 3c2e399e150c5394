-- `crossing::ports::places_in` meets its contract. The invariant: the places passed are filled. Assumes nothing.
use Rattle.std.proofs.Common.{◌≡◌, ℕ, false, get_or}
use lib.Ieee.{nan}
use Rattle.laws.specs.Filled.{filled}
use Rattle.crossing.specs.PortCrossing.{reading_in}
use Rattle.crossing.proofs.ports.places_in.Given as goal

abbrev pub invariant-loop-i : goal.invariant-loop-i
invariant-loop-i l = l.places ≡ filled (λ (j : ℕ). reading_in (get_or l.harmonics j (record { present = false; value = nan }))) l.i l.initial.places

-- `crossing::ports::places_out` meets its contract. The invariant: the places passed are filled. Assumes nothing.
use Rattle.std.proofs.Common.{◌≡◌, ℕ, None, get_or}
use Rattle.laws.specs.Filled.{filled}
use Rattle.crossing.specs.PortCrossing.{reading_out}
use Rattle.crossing.proofs.ports.places_out.Given as goal

abbrev pub invariant-loop-i : goal.invariant-loop-i
invariant-loop-i l = l.places ≡ filled (λ (j : ℕ). reading_out (get_or l.harmonics j None)) l.i l.initial.places

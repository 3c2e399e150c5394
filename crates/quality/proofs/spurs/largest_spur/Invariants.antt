-- `quality::spurs::largest_spur` meets its contract. The loop's invariant: the largest is that of the places below i. Assumes nothing.
use Rattle.std.proofs.Common.{◌≡◌, ◌-◌, ◌≤◌, length}
use Rattle.laws.specs.Literals.{zero32}
use Rattle.laws.specs.Walks.{pairs}
use Rattle.quality.specs.Quality.{spur_at}
use Rattle.quality.proofs.spurs.largest_spur.Given as goal

abbrev pub invariant-loop-i : goal.invariant-loop-i
invariant-loop-i l = (l.i - 1 ≤ length l.spectrum - 1) × (l.best ≡ pairs (spur_at l.bin) zero32 l.spectrum (l.i - 1))

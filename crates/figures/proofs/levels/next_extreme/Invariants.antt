-- `figures::levels::next_extreme` meets its contract. The loop's invariant: the extremes are those of the samples before k. Assumes nothing.
use mathlib.Core.Path.{◌≡◌}
use mathlib.Core.Bool.{true, false}
use lib.Ieee.{inf}
use Rattle.laws.specs.Samples.{higher, lower}
use Rattle.laws.specs.Walks.{over}
use Rattle.figures.proofs.levels.next_extreme.Given as goal

abbrev pub invariant-loop-k : goal.invariant-loop-k
invariant-loop-k l = (l.max ≡ over higher (inf true) l.samples l.k) × (l.min ≡ over lower (inf false) l.samples l.k)

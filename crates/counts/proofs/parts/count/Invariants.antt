-- `counts::parts::count` meets its contract. The loop's invariant: both counts are those of the samples so far. Assumes nothing.
use mathlib.Core.Path.{◌≡◌}
use lib.Ieee.{is_nan}
use Rattle.laws.specs.Walks.{over}
use Rattle.laws.specs.HowMany.{counting}
use Rattle.counts.specs.Counts.{is_infinite}
use Rattle.counts.proofs.parts.count.Given as goal

abbrev pub invariant-loop-x : goal.invariant-loop-x
invariant-loop-x l =
    (l.not_numbers ≡ over (counting is_nan) 0 l.samples l.x-index) × (l.infinite ≡ over (counting is_infinite) 0 l.samples l.x-index)

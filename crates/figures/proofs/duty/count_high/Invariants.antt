-- `figures::duty::count_high` meets its contract. The loop's invariant: what is worked out is that of the samples so far. Assumes nothing.
use mathlib.Core.Path.{◌≡◌}
use Rattle.laws.specs.Walks.{over}
use Rattle.laws.specs.HowMany.{counting}
use Rattle.figures.specs.Duty.{is_high}
use Rattle.figures.proofs.duty.count_high.Given as goal

abbrev pub invariant-loop-x : goal.invariant-loop-x
invariant-loop-x l = l.n ≡ over (counting (is_high l.wave l.amplitude)) 0 l.samples l.x-index

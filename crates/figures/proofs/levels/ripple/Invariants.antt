-- `figures::levels::ripple` meets its contract. The loop's invariant: what is worked out is that of the samples so far. Assumes nothing.
use mathlib.Core.Path.{◌≡◌}
use Rattle.laws.specs.Literals.{zero64}
use Rattle.laws.specs.Walks.{over}
use Rattle.figures.specs.Levels.{adding, away}
use Rattle.figures.proofs.levels.ripple.Given as goal

abbrev pub invariant-loop-sample : goal.invariant-loop-sample
invariant-loop-sample l = l.squares ≡ over (adding (away l.average)) zero64 l.samples l.sample-index

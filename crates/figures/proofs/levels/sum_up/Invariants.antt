-- `figures::levels::sum_up` meets its contract. The loop's invariant: what is worked out is that of the samples so far. Assumes nothing.
use mathlib.Core.Path.{◌≡◌}
use lib.Ieee.{binary64, add}
use Rattle.laws.specs.Literals.{zero64}
use Rattle.laws.specs.Samples.{square_of}
use Rattle.laws.specs.Walks.{over}
use Rattle.number.specs.Number.{abs}
use Rattle.figures.specs.Levels.{adding}
use Rattle.figures.proofs.levels.sum_up.Given as goal

abbrev pub invariant-loop-sample : goal.invariant-loop-sample
invariant-loop-sample l =
    record {
      total : l.total ≡ over (add binary64) zero64 l.samples l.sample-index;
      squares : l.squares ≡ over (adding square_of) zero64 l.samples l.sample-index;
      sizes : l.sizes ≡ over (adding abs) zero64 l.samples l.sample-index;
    }

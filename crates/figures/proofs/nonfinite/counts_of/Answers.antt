-- `figures::nonfinite::counts_of` meets its contract. Assumes nothing.
use mathlib.Core.Path.{sym, ◌∙◌}
use Rattle.figures.proofs.Rectified.{none_to_count}
use Rattle.figures.proofs.nonfinite.counts_of.Goals as goal

pub returns-then-is_finite : goal.returns-then-is_finite
returns-then-is_finite c =
    none_to_count c.args.samples.now c.args.rectified c.requires.1 (sym c.is_finite.ensures ∙ c.if-is_finite.true)

pub returns : goal.returns
returns c = c.count.ensures

-- `figures::levels::levels_of` meets its contract. Assumes nothing.
use Rattle.figures.proofs.Whole.{levels_whole}
use Rattle.figures.proofs.levels.levels_of.Goals as goal

pub returns : goal.returns
returns c =
    levels_whole c.args.samples.now c.find_extremes-extreme.ensures c.sum_up-sums.ensures c.mean-average.ensures c.ripple-spread.ensures
    c.mean.ensures c.sqrt32.ensures c.mean-2.ensures c.sqrt32-2.ensures c.mean-3.ensures

-- `figures::measure` meets its contract. The record of its parts. Assumes nothing.
use mathlib.Core.Path.{ap}
use Rattle.figures.specs.declared.levels.Levels.{Levels}
use Rattle.figures.proofs.Whole.{figures_whole}
use Rattle.figures.proofs.measure.Goals as goal

pub counts_of-counts-requires : goal.counts_of-counts-requires
counts_of-counts-requires c = (c.requires, ap (λ (l : Levels). l.rectified) c.levels_of-level.ensures)

pub returns : goal.returns
returns c =
    let a = c.args in
    figures_whole a.wave a.amplitude a.frequency a.samples.now c.levels_of-level.ensures c.duty_of-duty.ensures c.times_of-times.ensures
    c.counted-rate.ensures c.frequency-hertz.ensures c.slew-slew.ensures c.crest.ensures c.period.ensures c.ratio.ensures
    c.excess.ensures c.excess-2.ensures c.counts_of-counts.ensures

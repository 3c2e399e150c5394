-- `fundamental::figures` meets its contract. Assumes nothing.
use Rattle.fundamental.specs.Fundamental.{in_phase, across, fundamental_figures}
use Rattle.fundamental.proofs.figures.Goals as goal

pub returns : goal.returns
unfolding fundamental_figures in_phase across
returns c = rw (c.scaled-2.ensures, c.scaled.ensures)

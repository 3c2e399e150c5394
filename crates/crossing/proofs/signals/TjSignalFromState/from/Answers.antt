use Rattle.crossing.specs.SignalCrossing.{state_out}
use Rattle.crossing.proofs.signals.TjSignalFromState.from.Goals as goal

pub returns : goal.returns
unfolding state_out
returns c = rw (c.into.ensures, c.into-2.ensures)

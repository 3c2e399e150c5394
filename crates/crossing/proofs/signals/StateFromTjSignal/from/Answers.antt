use Rattle.crossing.specs.SignalCrossing.{state_in}
use Rattle.crossing.proofs.signals.StateFromTjSignal.from.Goals as goal

pub returns : goal.returns
unfolding state_in
returns c = rw (c.into.ensures, c.into-2.ensures)

use Rattle.crossing.specs.SignalCrossing.{coded_signal}
use Rattle.crossing.proofs.signals.CodedSignalFromAnswer.from.Goals as goal

pub returns : goal.returns
unfolding coded_signal
returns c = rw (c.code_of.ensures, c.into.ensures)

-- `quality::parts::power` meets its contract. The loop's invariant: the sum is that of the orders before h. Assumes nothing.
use Rattle.quality.specs.Powers.{Summed}
use Rattle.quality.proofs.parts.power.Given as goal

abbrev pub invariant-loop-h : goal.invariant-loop-h
invariant-loop-h l = Summed l.spectrum l.bin l.first l.sum l.h

-- `quality::squares::power_of_blocks` meets its contract. The loop's invariant: the sum is that of the orders before h. The measure is what is left of the length. Assumes nothing.
use Rattle.std.proofs.Common.{◌-◌, length}
use Rattle.quality.specs.Powers.{Summed}
use Rattle.quality.proofs.squares.power_of_blocks.Given as goal

abbrev pub invariant-loop-h : goal.invariant-loop-h
invariant-loop-h l = Summed l.spectrum l.bin l.first l.sum l.h

abbrev pub decreases-loop-h : goal.decreases-loop-h
decreases-loop-h l = length l.spectrum - l.h

-- `quality::squares::power_of_fours` meets its contract. The loop's invariant: where the sum at the start was that of the orders before, so it is now.
-- The measure is what is left of the length. Assumes nothing.
use Rattle.std.proofs.Common.{ℕ, ◌-◌, length}
use Rattle.quality.specs.Powers.{Inside, Summed}
use Rattle.quality.proofs.squares.power_of_fours.Given as goal

abbrev pub invariant-loop-h : goal.invariant-loop-h
invariant-loop-h l = Inside (length l.spectrum) l.bin l.h × ((first : ℕ) → Summed l.spectrum l.bin first l.initial.sum l.initial.h → Summed l.spectrum l.bin first l.sum l.h)

abbrev pub decreases-loop-h : goal.decreases-loop-h
decreases-loop-h l = length l.spectrum - l.h

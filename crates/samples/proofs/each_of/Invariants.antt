-- `samples::each_of` meets its contract. The loop's invariant: the places before the index are done, and the others as they were. Assumes nothing.
use Rattle.std.proofs.Common.{◌≡◌, ◌++◌, map, take, drop}
use Rattle.samples.proofs.each_of.Given as goal

abbrev pub invariant-loop-x : goal.invariant-loop-x
invariant-loop-x g l = l.run ≡ map g.one (take l.x-index l.initial.run) ++ drop l.x-index l.initial.run

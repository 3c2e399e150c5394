-- `samples::each` meets its contract. The loop's invariant: the blocks before the index are done, and the other places as they were. Assumes nothing.
use Rattle.std.proofs.Common.{◌≡◌, ◌++◌, ◌*◌, map, take, drop}
use Rattle.samples.proofs.each.Given as goal

abbrev pub ghost-each_of : goal.ghost-each_of
ghost-each_of g a = g.one

abbrev pub invariant-loop-block : goal.invariant-loop-block
invariant-loop-block g l = l.samples ≡ map g.one (take (l.block * 32) l.initial.samples) ++ drop (l.block * 32) l.initial.samples

-- `quality::squares::with_block` meets its contract. The loop's invariant: the sum has the squares so far. Assumes nothing.
use Rattle.std.proofs.Common.{◌≡◌}
use Rattle.quality.specs.Powers.{with_squares}
use Rattle.quality.proofs.squares.with_block.Given as goal

abbrev pub invariant-loop-x : goal.invariant-loop-x
invariant-loop-x l = l.sum ≡ with_squares l.spectrum l.from l.start l.x-index

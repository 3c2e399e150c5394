-- `power::blocks::sums_with` meets its contract. The invariant: each sum is that of the first j products. Assumes nothing.
use Rattle.std.proofs.Common.{◌≡◌}
use lib.Ieee.{binary64, add}
use Rattle.laws.specs.Walks.{over}
use Rattle.power.proofs.blocks.sums_with.Given as goal

abbrev pub invariant-loop-j : goal.invariant-loop-j
invariant-loop-j l =
    (l.vi ≡ over (add binary64) l.fn.t.vi l.block.vi l.j) × (l.vv ≡ over (add binary64) l.fn.t.vv l.block.vv l.j) × (l.ii ≡ over (add binary64) l.fn.t.ii l.block.ii l.j)

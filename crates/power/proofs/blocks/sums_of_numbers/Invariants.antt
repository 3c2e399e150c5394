-- `power::blocks::sums_of_numbers` meets its contract. The invariant: the sums are those of the first k pairs, and the arrays keep their length. The measure is what is
-- left of the capture; a block is never empty. Assumes nothing.
use Rattle.std.proofs.Common.{◌≡◌, ◌-◌, ◌≤◌, length}
use Rattle.power.specs.Power.{capture_sums}
use Rattle.power.proofs.blocks.sums_of_numbers.Given as goal

abbrev pub invariant-loop-k : goal.invariant-loop-k
invariant-loop-k l = (l.k ≤ length l.voltage) × (l.t ≡ capture_sums l.voltage l.current l.k) × (length l.block.vi ≡ 32) × (length l.block.vv ≡ 32) × (length l.block.ii ≡ 32)

abbrev pub decreases-loop-k : goal.decreases-loop-k
decreases-loop-k l = length l.voltage - l.k

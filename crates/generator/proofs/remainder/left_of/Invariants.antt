-- The digits that are left to bring down leave what the whole leaves.
use Rattle.std.proofs.Common.{◌≡◌, ◌*◌, ◌%◌, ◌^◌, ◌<◌, ◌≤◌}
use Rattle.generator.proofs.remainder.left_of.Given as goal

abbrev pub invariant-loop-left : goal.invariant-loop-left
invariant-loop-left l = (l.r < 2 ^ 24) × (l.left ≤ l.k) × (l.r * 2 ^ l.left % l.n ≡ l.m * 2 ^ l.k % l.n)

abbrev pub decreases-loop-left : goal.decreases-loop-left
decreases-loop-left l = l.left

-- `number::root_digits` meets its contract. The loop's invariant is `Left`, at half of r and in units of twice w: what the root so far leaves. The measure is w. Assumes nothing.
use Prim.Native.Nat.{◌+◌, ◌*◌, ◌^◌}
use Rattle.number.proofs.RootDigitsSteps.{Held}
use Rattle.number.proofs.root_digits.Given as goal

abbrev pub invariant-loop-w : goal.invariant-loop-w
invariant-loop-w l = Held (l.m * 2 ^ (l.p + 1)) (2 ^ (l.p + 1)) l.j l.r l.y l.w

abbrev pub decreases-loop-w : goal.decreases-loop-w
decreases-loop-w l = l.w

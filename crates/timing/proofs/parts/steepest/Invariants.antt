-- `timing::parts::steepest` meets its contract. The loop's invariant: m is the largest slew rate of the places before i, and the step to i is a number. Assumes nothing.
use Rattle.std.proofs.Common.{◌-◌, length}
use Rattle.timing.proofs.SteepestSteps.{Known}
use Rattle.timing.proofs.parts.steepest.Given as goal

abbrev pub invariant-loop-i : goal.invariant-loop-i
invariant-loop-i l = Known l.dt l.samples l.m l.i

abbrev pub decreases-loop-i : goal.decreases-loop-i
decreases-loop-i l = length l.samples - l.i

-- `timing::parts::count_crossings` meets its contract. The loop's invariant: the count is that of the places below i. Assumes nothing.
use Rattle.std.proofs.Common.{◌≡◌, ◌-◌, ◌≤◌, length}
use Rattle.timing.proofs.Crossing.{up_to}
use Rattle.timing.proofs.parts.count_crossings.Given as goal

abbrev pub invariant-loop-i : goal.invariant-loop-i
invariant-loop-i l = (l.i - 1 ≤ length l.samples - 1) × (l.n ≡ (up_to l.mean l.samples (l.i - 1)).count)

-- `timing::parts::first_crossing` meets its contract. The loop's invariant: there is none below i. Assumes nothing.
use Rattle.std.proofs.Common.{◌≡◌, ◌-◌, ◌≤◌, length}
use Rattle.timing.specs.Timing.{no_crossing}
use Rattle.timing.proofs.Crossing.{up_to}
use Rattle.timing.proofs.parts.first_crossing.Given as goal

abbrev pub invariant-loop-i : goal.invariant-loop-i
invariant-loop-i l = (l.i - 1 ≤ length l.samples - 1) × (up_to l.mean l.samples (l.i - 1) ≡ no_crossing)

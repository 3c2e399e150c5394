-- `timing::parts::last_crossing` meets its contract. The loop's invariant: the last is that of the places below i. Assumes nothing.
use Rattle.std.proofs.Common.{◌≡◌, ◌-◌}
use Rattle.timing.specs.Timing.{crossings_of}
use Rattle.timing.proofs.Crossing.{up_to}
use Rattle.timing.proofs.parts.last_crossing.Given as goal

abbrev pub invariant-loop-i : goal.invariant-loop-i
invariant-loop-i l = (crossings_of l.mean l.samples).last ≡ (up_to l.mean l.samples (l.i - 1)).last

-- `timing::parts::next_above` meets its contract. The loop's invariant: no step before i is above w. Assumes nothing.
use Rattle.std.proofs.Common.{◌≡◌, ℕ, ◌-◌, ◌<◌, ◌≤◌, false, length}
use lib.Ieee.{lt}
use Rattle.timing.specs.Steps.{step_at}
use Rattle.timing.proofs.parts.next_above.Given as goal

abbrev pub invariant-loop-i : goal.invariant-loop-i
invariant-loop-i l = (l.i - 1 ≤ length l.samples - 1) × ((k : ℕ) → l.from ≤ k → k < l.i → lt l.w (step_at l.samples k) ≡ false)

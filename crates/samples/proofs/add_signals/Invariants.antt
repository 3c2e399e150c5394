-- `samples::add_signals` meets its contract. The invariant of each loop: the places before its turn are done, and the others as they were. Assumes nothing.
use Rattle.std.proofs.Common.{◌≡◌, ◌+◌, ◌*◌}
use Rattle.laws.specs.Filled.{filled}
use Rattle.samples.specs.Samples.{sum_at}
use Rattle.samples.proofs.add_signals.Given as goal

abbrev pub invariant-loop-block : goal.invariant-loop-block
invariant-loop-block l = l.output ≡ filled (sum_at l.a l.b) (l.block * 32) l.fn.output

abbrev pub invariant-loop-four : goal.invariant-loop-four
invariant-loop-four l = l.output ≡ filled (sum_at l.a l.b) (l.block * 32 + l.four * 4) l.fn.output

abbrev pub invariant-loop-j : goal.invariant-loop-j
invariant-loop-j l = l.output ≡ filled (sum_at l.a l.b) l.j l.fn.output

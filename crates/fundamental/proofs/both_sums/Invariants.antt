-- `fundamental::both_sums` meets its contract. The invariant: the angle is that of the next place, and each capture's sums are those of its samples so far. Assumes nothing.
use Rattle.std.proofs.Common.{◌≡◌, ◌<◌, length}
use Rattle.spectrum.specs.Bin.{angle_of, sums_to}
use Rattle.fundamental.proofs.both_sums.Given as goal

abbrev pub invariant-loop-volt : goal.invariant-loop-volt
invariant-loop-volt l =
    (l.angle ≡ angle_of (length l.voltage) l.k (length l.yielded)) × (l.angle < 4096) × (l.v ≡ sums_to l.voltage l.k (length l.yielded)) × (l.i ≡ sums_to l.current l.k (length l.yielded))

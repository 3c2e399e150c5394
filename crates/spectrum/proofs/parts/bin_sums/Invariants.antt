-- `spectrum::parts::bin_sums` meets its contract. The invariant: the angle is that of the index, and the sums are those of the samples before it. Assumes nothing.
use Rattle.std.proofs.Common.{◌≡◌, ◌<◌, length}
use Rattle.spectrum.specs.Bin.{angle_of, sums_to}
use Rattle.spectrum.proofs.parts.bin_sums.Given as goal

abbrev pub invariant-loop-sample : goal.invariant-loop-sample
invariant-loop-sample l =
    (l.angle ≡ angle_of (length l.samples) l.k l.sample-index) × (l.angle < 4096) × (l.sums ≡ sums_to l.samples l.k l.sample-index)

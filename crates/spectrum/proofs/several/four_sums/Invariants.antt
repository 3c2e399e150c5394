-- `spectrum::several::four_sums` meets its contract. The invariant: each bin is underway with the samples before the index. Assumes nothing.
use Rattle.std.proofs.Common.{◌≡◌, ◌+◌}
use Rattle.spectrum.proofs.Running.{running_to}
use Rattle.spectrum.proofs.several.four_sums.Given as goal

abbrev pub invariant-loop-sample : goal.invariant-loop-sample
invariant-loop-sample l =
    (l.first ≡ running_to l.samples l.k l.sample-index) × (l.second ≡ running_to l.samples (l.k + 1) l.sample-index)
    × (l.third ≡ running_to l.samples (l.k + 2) l.sample-index) × (l.fourth ≡ running_to l.samples (l.k + 3) l.sample-index)

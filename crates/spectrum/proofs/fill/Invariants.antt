-- `spectrum::fill` meets its contract. The invariant: the first k places hold their bins, and the others what was there. Assumes nothing.
use Rattle.std.proofs.Common.{◌≡◌}
use Rattle.laws.specs.Filled.{filled}
use Rattle.spectrum.specs.Spectrum.{bin_of}
use Rattle.spectrum.proofs.fill.Given as goal

abbrev pub invariant-loop-k : goal.invariant-loop-k
invariant-loop-k l = l.output ≡ filled (bin_of l.samples) l.k l.initial.output

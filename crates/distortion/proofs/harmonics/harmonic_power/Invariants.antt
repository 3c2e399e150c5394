-- `distortion::harmonics::harmonic_power` meets its contract. The loop's invariant: the power of the orders passed. Assumes nothing.
use Rattle.std.proofs.Common.{◌≡◌, ◌+◌, ◌-◌, ◌≤◌}
use Rattle.laws.specs.Harmonics.{harmonics_of}
use Rattle.spectrum.specs.Bin.{magnitude_of}
use Rattle.distortion.proofs.harmonics.harmonic_power.Given as goal

abbrev pub invariant-loop-order : goal.invariant-loop-order
invariant-loop-order l = (l.order ≤ l.last + 1) × (l.sum ≡ harmonics_of (magnitude_of l.samples) l.bin 2 (l.order - 2))

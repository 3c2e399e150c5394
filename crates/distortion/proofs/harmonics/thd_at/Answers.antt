-- `distortion::harmonics::thd_at` meets its contract. Assumes nothing.
use Rattle.std.proofs.Common.{arith}
use Rattle.distortion.proofs.Orders.{last_fits}
use Rattle.distortion.proofs.Whole.{heard, silent}
use Rattle.distortion.proofs.harmonics.thd_at.Goals as goal

pub harmonic_power-power-requires : goal.harmonic_power-power-requires
harmonic_power-power-requires c =
    let room = c.requires.bin_nonzero in
    let fits = last_fits _ _ _ _ _ c.last_order-last.ensures room.0 room.1 (omega arith) c.requires.le_top.0 c.requires.le_top.1 in
    record { samples_value = c.requires.samples_value; last_in_bounds = fits.0; le_last = fits.1 }

pub returns-then-fundamental : goal.returns-then-fundamental
returns-then-fundamental c =
    heard _ _ c.args.samples.now _ c.last_order-last.result _ _ _
    c.bin_magnitude-fundamental.ensures c.if-fundamental.true c.last_order-last.ensures
    c.harmonic_power-power.ensures c.sqrt64_narrowed.ensures

pub returns : goal.returns
returns c = silent _ _ c.args.samples.now _ _ c.bin_magnitude-fundamental.ensures c.if-fundamental.false

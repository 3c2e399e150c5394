-- `spectrum::fill_in` meets its contract: either way the bins are those of the definition. Assumes nothing.
use Rattle.std.proofs.Common.{arith}
use Rattle.spectrum.proofs.Running.{sines_of}
use Rattle.spectrum.proofs.fill_in.Goals as goal

pub fill_by_four-requires : goal.fill_by_four-requires
fill_by_four-requires c = record { sines = sines_of _ c.args.scratch.now _ c.requires.samples_in_bounds c.fill_sines.ensures; samples_value = c.requires.samples_value; in_bounds = omega arith; samples_in_bounds = omega arith }

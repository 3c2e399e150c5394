-- `distortion::fundamental::fundamental_bin` meets its contract: operation by operation. Assumes nothing.
use lib.Ieee.{in_float}
use Rattle.std.proofs.Common.{arith, le→leb}
use Rattle.distortion.specs.Thd.{fundamental_bin}
use Rattle.distortion.proofs.fundamental.fundamental_bin.Goals as goal

pub int_to_float-rate : goal.int_to_float-rate
unfolding in_float
int_to_float-rate c = omega (arith, le→leb)

pub returns : goal.returns
unfolding fundamental_bin
returns c = rw (c.saturating_f32_to_usize.ensures, c.round32.ensures)

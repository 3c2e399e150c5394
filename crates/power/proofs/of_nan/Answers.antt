-- `power::of_nan` meets its contract. Assumes nothing.
use Rattle.std.proofs.Common.{refl}
use lib.Ieee.{div, of_bits}
use Rattle.power.proofs.of_nan.Goals as goal

pub returns : goal.returns
unfolding div of_bits
returns c = refl

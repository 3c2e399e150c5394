-- `fundamental::scaled` meets its contract. Assumes nothing.
use Rattle.std.proofs.Common.{◌^◌, arith, le→leb}
use lib.Ieee.{in_float}
use Rattle.fundamental.specs.Fundamental.{scaled_of}
use Rattle.fundamental.proofs.scaled.Goals as goal

pub int_to_float-m : goal.int_to_float-m
unfolding in_float
int_to_float-m c = le→leb c.args.n (2 ^ 53) (omega arith)

pub returns : goal.returns
unfolding scaled_of
returns c = c.narrow.ensures

-- `number::abs32` meets its contract. Assumes nothing.
use lib.Ieee.{binary32}
use Rattle.laws.proofs.Numbers.{is_nan_lem, no_nan}
use Rattle.number.proofs.Cleared.{cleared, cleared_no_nan, of_nan}
use Rattle.number.proofs.Fields.{held}
use Rattle.number.proofs.abs32.Goals as goal

pub returns-then-x : goal.returns-then-x
returns-then-x c = of_nan c.args.x (is_nan_lem c.args.x c.if-x.true)

pub float_to_bits-result : goal.float_to_bits-result
float_to_bits-result c = no_nan c.args.x c.if-x.false

pub float_from_bits-result : goal.float_from_bits-result
float_from_bits-result c = cleared_no_nan binary32 c.args.x (held c.well_formed.0.1) (no_nan c.args.x c.if-x.false)

pub returns : goal.returns
returns c = cleared binary32 c.args.x (held c.well_formed.0.1)

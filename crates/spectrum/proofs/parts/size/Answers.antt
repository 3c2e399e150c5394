-- `spectrum::parts::size` meets its contract. Assumes nothing.
use Rattle.std.proofs.Common.{◌^◌, ◌∙◌, arith, le→leb}
use lib.Ieee.{in_float}
use Rattle.spectrum.specs.Bin.{size_of}
use Rattle.spectrum.proofs.parts.size.Goals as goal

pub int_to_float-n : goal.int_to_float-n
unfolding in_float
int_to_float-n c = le→leb c.args.n (2 ^ 53) (omega arith)

pub returns : goal.returns
unfolding size_of
returns c = c.narrow.ensures ∙ rw c.sqrt64.ensures

-- `quarter::parts::fraction_at` meets its contract: an entry, below 2^32, as an f64 times 2^-30. Assumes nothing.
use Rattle.std.proofs.Common.{arith}
use lib.Ieee.{of_bits}
use Rattle.quarter.specs.Wave.{t}
use Rattle.quarter.proofs.Fraction.{times}
use Rattle.quarter.proofs.parts.fraction_at.Goals as goal

pub returns : goal.returns
unfolding of_bits
returns c = rw (c.from.ensures, c.entry.ensures) (times (t c.args.j) (omega (arith, c.entry.type_inv, c.entry.ensures)))

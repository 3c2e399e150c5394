-- `counts::parts::is_finite` meets its contract. Assumes nothing.
use borrow.Author.Rules.{rules}
use lib.Ieee.{nan_bits}
use Rattle.counts.proofs.Words.{between}
use Rattle.counts.proofs.parts.is_finite.Goals as goal

pub float_from_bits-result : goal.float_from_bits-result
unfolding nan_bits
float_from_bits-result c = search rules

pub float_from_bits-result-2 : goal.float_from_bits-result-2
unfolding nan_bits
float_from_bits-result-2 c = search rules

pub returns : goal.returns
returns c = between c.args.x

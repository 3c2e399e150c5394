-- `counts::parts::is_no_number` meets its contract. Assumes nothing.
use borrow.Author.Rules.{rules}
use lib.Ieee.{nan_bits}
use Rattle.counts.proofs.Words.{beyond}
use Rattle.counts.proofs.parts.is_no_number.Goals as goal

pub float_from_bits-result : goal.float_from_bits-result
unfolding nan_bits
float_from_bits-result c = search rules

pub returns : goal.returns
returns c = beyond c.args.x

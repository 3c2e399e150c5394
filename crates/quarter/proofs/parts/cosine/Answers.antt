-- `quarter::parts::cosine` meets its contract, by what `sine` ensures. Assumes nothing.
use Rattle.quarter.specs.Turn.{cosine_of}
use borrow.Author.Rules.{rules}
use Rattle.quarter.proofs.parts.cosine.Goals as goal

pub returns : goal.returns
unfolding cosine_of
returns c = search rules

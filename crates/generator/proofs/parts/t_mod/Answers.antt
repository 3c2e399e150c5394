-- `generator::parts::t_mod` meets its contract: operation by operation. Assumes nothing.
use Rattle.generator.specs.Sample.{period_seconds, shift, t_mod}
use Rattle.generator.proofs.parts.t_mod.Goals as goal

pub returns : goal.returns
unfolding period_seconds shift t_mod
returns c = c.remainder.ensures

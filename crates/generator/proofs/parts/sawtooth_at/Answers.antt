-- `generator::parts::sawtooth_at` meets its contract: operation by operation. Assumes nothing.
use Rattle.generator.specs.Sample.{period_seconds, sawtooth_at}
use Rattle.generator.proofs.parts.sawtooth_at.Goals as goal

pub returns : goal.returns
unfolding period_seconds sawtooth_at
returns c = rw c.t_mod-t.ensures

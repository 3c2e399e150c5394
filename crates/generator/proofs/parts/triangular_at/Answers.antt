-- `generator::parts::triangular_at` meets its contract: the test picks the half of the period. Assumes nothing.
use Rattle.generator.specs.Sample.{period_seconds, triangular_at}
use Rattle.generator.proofs.parts.triangular_at.Goals as goal

pub returns-then-normalized : goal.returns-then-normalized
unfolding period_seconds triangular_at
returns-then-normalized c = simp (← c.t_mod.ensures, c.if-normalized.true)

pub returns-else-normalized : goal.returns-else-normalized
unfolding period_seconds triangular_at
returns-else-normalized c = simp (← c.t_mod.ensures, c.if-normalized.false)

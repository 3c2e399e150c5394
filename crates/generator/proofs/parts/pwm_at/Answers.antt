-- `generator::parts::pwm_at` meets its contract: the test picks the case. Assumes nothing.
use Rattle.generator.specs.Sample.{pwm_at}
use Rattle.generator.proofs.parts.pwm_at.Goals as goal

pub returns-then-sample_in_period-period : goal.returns-then-sample_in_period-period
unfolding pwm_at
returns-then-sample_in_period-period c = simp (← c.samples_per_period-period.ensures, ← c.remainder-sample_in_period.ensures, c.if-sample_in_period-period.true)

pub returns-else-sample_in_period-period : goal.returns-else-sample_in_period-period
unfolding pwm_at
returns-else-sample_in_period-period c = simp (← c.samples_per_period-period.ensures, ← c.remainder-sample_in_period.ensures, c.if-sample_in_period-period.false)

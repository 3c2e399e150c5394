-- `generator::parts::samples_per_period` meets its contract: the test picks the case. Assumes nothing.
use Rattle.generator.specs.Sample.{samples_per_period}
use Rattle.generator.proofs.parts.samples_per_period.Goals as goal

pub returns-then-frequency-n : goal.returns-then-frequency-n
unfolding samples_per_period
returns-then-frequency-n c = rw c.if-frequency-n.true

pub returns-else-frequency-n : goal.returns-else-frequency-n
unfolding samples_per_period
returns-else-frequency-n c = rw c.if-frequency-n.false

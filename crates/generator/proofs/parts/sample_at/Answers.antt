-- `generator::parts::sample_at` meets its contract: the wave picks its sample. Assumes nothing.
use Rattle.generator.specs.Sample.{sample_at}
use Rattle.generator.proofs.parts.sample_at.Goals as goal

pub returns-in-DC : goal.returns-in-DC
unfolding sample_at
returns-in-DC c = rw c.in-DC.is

pub returns-in-PWM : goal.returns-in-PWM
unfolding sample_at
returns-in-PWM c = simp (c.pwm_at.ensures, c.counted-place.ensures, c.counted-length.ensures, c.in-PWM.is)

pub returns-in-Triangular : goal.returns-in-Triangular
unfolding sample_at
returns-in-Triangular c = simp (c.triangular_at.ensures, c.counted-place.ensures, c.counted-length.ensures, c.in-Triangular.is)

pub returns-in-Sawtooth : goal.returns-in-Sawtooth
unfolding sample_at
returns-in-Sawtooth c = simp (c.sawtooth_at.ensures, c.counted-place.ensures, c.counted-length.ensures, c.in-Sawtooth.is)

-- `quality::parts::over_noise` meets its contract. Assumes nothing.
use Rattle.quality.specs.Quality.{over_noise}
use Rattle.quality.proofs.parts.over_noise.Goals as goal

pub returns-then-noise : goal.returns-then-noise
unfolding over_noise
returns-then-noise c = rw c.if-noise.true

pub returns-else-noise : goal.returns-else-noise
unfolding over_noise
returns-else-noise c = rw c.if-noise.false

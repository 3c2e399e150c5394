-- `quality::parts::sinad` meets its contract. Assumes nothing.
use Rattle.quality.specs.Quality.{sinad_of}
use Rattle.quality.proofs.parts.sinad.Goals as goal

pub returns : goal.returns
unfolding sinad_of
returns c = rw (c.over_noise.ensures, c.power-total.ensures, c.square-own.ensures)

-- `quality::parts::snr` meets its contract. Assumes nothing.
use Rattle.quality.specs.Quality.{snr_of}
use Rattle.quality.proofs.parts.snr.Goals as goal

pub returns : goal.returns
unfolding snr_of
returns c = rw (c.over_noise.ensures, c.power-harmonics.ensures, c.power-total.ensures, c.square-own.ensures)

-- `quality::parts::distortion` meets its contract. Assumes nothing.
use Rattle.quality.specs.Quality.{thd_of_spectrum}
use Rattle.quality.proofs.parts.distortion.Goals as goal

pub returns-then-fund : goal.returns-then-fund
unfolding thd_of_spectrum
returns-then-fund c = rw c.if-fund.true

pub returns : goal.returns
unfolding thd_of_spectrum
returns c = rw (c.if-fund.false, c.sqrt64_narrowed.ensures, c.power.ensures)

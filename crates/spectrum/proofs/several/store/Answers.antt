-- `spectrum::several::store` meets its contract. Assumes nothing.
use Rattle.spectrum.specs.Running.{stored}
use Rattle.spectrum.proofs.several.store.Goals as goal

pub returns : goal.returns
unfolding stored
returns c = rw (c.first_halved.ensures, c.size.ensures)

-- `quality::compute_enob` meets its contract. Assumes nothing.
use Rattle.std.proofs.Common.{refl}
use Rattle.quality.specs.Quality.{enob_of}
use Rattle.quality.proofs.compute_enob.Goals as goal

pub returns : goal.returns
unfolding enob_of
returns c = refl

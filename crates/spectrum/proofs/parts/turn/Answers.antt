-- `spectrum::parts::turn` meets its contract. Assumes nothing.
use Rattle.std.proofs.Common.{refl}
use Rattle.spectrum.specs.Bin.{turned}
use Rattle.spectrum.proofs.parts.turn.Goals as goal

pub returns : goal.returns
unfolding turned
returns c = refl

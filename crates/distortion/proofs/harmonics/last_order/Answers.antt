-- `distortion::harmonics::last_order` meets its contract: the lesser of the two. Assumes nothing.
use Rattle.laws.specs.Harmonics.{last_up_to}
use Rattle.distortion.proofs.harmonics.last_order.Goals as goal

pub returns : goal.returns
unfolding last_up_to
returns c = c.min.ensures

-- `distortion::harmonics::with_square` meets its contract: an f32 is widened exactly. Assumes nothing.
use Rattle.laws.specs.Samples.{square_of}
use Rattle.distortion.proofs.harmonics.with_square.Goals as goal

pub returns : goal.returns
unfolding square_of
returns c = rw c.f32_to_f64_with_nan-m.ensures

-- `quality::squares::square` meets its contract. Assumes nothing.
use Rattle.laws.specs.Samples.{square_of}
use Rattle.quality.proofs.squares.square.Goals as goal

pub returns : goal.returns
unfolding square_of
returns c = rw c.f32_to_f64_with_nan-m.ensures

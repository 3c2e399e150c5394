-- `quality::squares::square_of_number` meets its contract: a number is widened exactly. Assumes nothing.
use Rattle.std.proofs.Common.{T, not, refl, rules}
use lib.Ieee.{binary32, binary64, fits, is_nan}
use lib.Ieee.Fits.{and_i, fits_widens}
use Rattle.laws.specs.Samples.{square_of}
use Rattle.laws.proofs.Numbers.{no_nan}
use Rattle.quality.proofs.squares.square_of_number.Goals as goal

pub float_to_float-m : goal.float_to_float-m
float_to_float-m c =
    let x = c.args.x in
    let is_f32 : T (fits binary32 x) = search rules in
    and_i (fits binary64 x) (not (is_nan x)) (fits_widens x is_f32) (no_nan x c.requires)

pub returns : goal.returns
unfolding square_of
returns c = refl

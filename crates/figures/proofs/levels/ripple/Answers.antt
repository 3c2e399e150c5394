use mathlib.Core.Path.{◌≡◌, refl, sym, ap}
use mathlib.Core.Bool.{not}
use native.Mathlib.Omega.{arith}
use lib.ListN.{length, get_or}
use lib.Ieee.{nan, binary32, binary64, fits, is_nan, sub, mul, div, of_bits}
use lib.Ieee.Fits.{and_i, fits_widens}
use Rattle.laws.specs.Literals.{zero64}
use Rattle.laws.specs.Samples.{square_of}
use Rattle.laws.specs.Walks.{over}
use Rattle.laws.proofs.Numbers.{is_nan_lem, no_nan}
use Rattle.laws.proofs.Turn.{over_next}
use Rattle.figures.specs.Levels.{adding, sum_of, away}
use Rattle.figures.proofs.NanSums.{nan_sum}
use Rattle.figures.proofs.levels.ripple.Goals as goal

pub loop-sample-init : goal.loop-sample-init
unfolding over
loop-sample-init c = refl

pub returns-then-away : goal.returns-then-away
unfolding square_of mul div of_bits
returns-then-away c =
    let l = c.loop-sample in
    let a = c.args in
    sym (nan_sum (away a.average) a.samples.now l.sample-index (ap square_of (is_nan_lem _ c.if-away.true)) (omega arith))

pub float_to_float-x : goal.float_to_float-x
float_to_float-x c =
    let a = c.args in
    let x = sub binary32 (get_or a.samples.now c.loop-sample.sample-index nan) a.average in
    and_i (fits binary64 x) (not (is_nan x)) (fits_widens x c.row_known-1.given) (no_nan x c.if-away.false)

pub loop-sample-preserved : goal.loop-sample-preserved
unfolding square_of
loop-sample-preserved c =
    let l = c.loop-sample in
    let a = c.args in
    over_next (adding (away a.average)) zero64 a.samples.now l.sample-index l.invariant refl

pub returns : goal.returns
unfolding sum_of
returns c =
    let l = c.loop-sample in
    let e : l.sample-index ≡ length c.args.samples.now = omega arith in
    rw (l.invariant, e)

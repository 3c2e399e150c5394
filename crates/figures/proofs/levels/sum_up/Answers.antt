use mathlib.Core.Path.{◌≡◌, refl, sym, ap, subst, ◌∙◌}
use mathlib.Core.Bool.{not}
use native.Mathlib.Omega.{arith}
use lib.Dec.{T}
use lib.ListN.{length, get_or}
use lib.Ieee.{Float, nan, binary64, fits, is_nan, add, mul, div, of_bits}
use lib.Ieee.Fits.{and_i, fits_widens}
use Rattle.laws.specs.Literals.{zero64}
use Rattle.laws.specs.Samples.{square_of}
use Rattle.laws.specs.Walks.{over}
use Rattle.laws.proofs.Numbers.{is_nan_lem, no_nan}
use Rattle.laws.proofs.Turn.{over_next}
use Rattle.number.specs.Number.{abs}
use Rattle.timing.specs.Timing.{total_of}
use Rattle.figures.specs.Levels.{adding, sum_of}
use Rattle.figures.proofs.NanSums.{nan_sum, size_number}
use Rattle.figures.proofs.levels.sum_up.Goals as goal

pub loop-sample-init : goal.loop-sample-init
unfolding over
loop-sample-init c = record { total = refl; squares = refl; sizes = refl }

pub returns-then-sample : goal.returns-then-sample
unfolding total_of sum_of square_of mul div abs of_bits
returns-then-sample c =
    let k = c.loop-sample.sample-index in
    let xs = c.args.samples.now in
    let met : (f : Float → Float) → f nan ≡ nan → sum_of f xs ≡ nan = λ f h. nan_sum f xs k (ap f (is_nan_lem _ c.if-sample.true) ∙ h) (omega arith) in
    rw (met (λ (x : Float). x) refl, met square_of refl, met abs refl)

pub float_to_float-x : goal.float_to_float-x
float_to_float-x c =
    let x = get_or c.args.samples.now c.loop-sample.sample-index nan in
    and_i (fits binary64 x) (not (is_nan x)) (fits_widens x c.row_known-1.given) (no_nan x c.if-sample.false)

pub float_to_float-sizes : goal.float_to_float-sizes
float_to_float-sizes c =
    let x = get_or c.args.samples.now c.loop-sample.sample-index nan in
    let y = c.abs32-size.result in
    and_i (fits binary64 y) (not (is_nan y)) (fits_widens y c.row_known-in-loop-sample-1.given)
    (subst (λ (z : Float). T (not (is_nan z))) (sym c.abs32-size.ensures) (size_number x (no_nan x c.if-sample.false)))

pub loop-sample-preserved : goal.loop-sample-preserved
unfolding square_of
loop-sample-preserved c =
    let l = c.loop-sample in
    let xs = c.args.samples.now in
    record {
      total = over_next (add binary64) zero64 xs l.sample-index l.invariant.total refl;
      squares = over_next (adding square_of) zero64 xs l.sample-index l.invariant.squares refl;
      sizes = rw c.abs32-size.ensures (over_next (adding abs) zero64 xs l.sample-index l.invariant.sizes refl);
    }

pub returns : goal.returns
unfolding total_of sum_of
returns c =
    let l = c.loop-sample in
    let e : l.sample-index ≡ length c.args.samples.now = omega arith in
    rw (l.invariant.total, l.invariant.squares, l.invariant.sizes, e)

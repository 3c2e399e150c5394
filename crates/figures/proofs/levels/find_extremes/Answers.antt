use borrow.Author.Rules.{rules}
use mathlib.Core.Path.{◌≡◌, refl, ◌∙◌}
use mathlib.Core.Bool.{true, false}
use native.Mathlib.Omega.{arith}
use lib.ListN.{length}
use lib.Ieee.{inf, of_bits, nan_bits}
use Rattle.laws.specs.Walks.{over}
use Rattle.laws.proofs.Turn.{over_next}
use Rattle.laws.specs.Samples.{higher, lower}
use Rattle.figures.specs.Levels.{max_of, min_of}
use Rattle.figures.proofs.levels.find_extremes.Goals as goal

pub float_from_bits-max : goal.float_from_bits-max
unfolding nan_bits
float_from_bits-max c = search rules

pub float_from_bits-min : goal.float_from_bits-min
unfolding nan_bits
float_from_bits-min c = search rules

pub loop-k-init : goal.loop-k-init
unfolding over of_bits
loop-k-init c = (omega arith, refl, refl)

pub next_extreme-k-requires : goal.next_extreme-k-requires
next_extreme-k-requires c =
    let l = c.loop-k in
    let xs = c.args.samples.now in
    (omega arith, c.raised-max.ensures ∙ over_next higher (inf true) xs l.k l.invariant.1 refl, c.lowered-min.ensures ∙ over_next lower (inf false) xs l.k l.invariant.2 refl)

pub loop-k-smaller : goal.loop-k-smaller
loop-k-smaller c =
    let e = c.next_extreme-k.ensures in
    omega (arith, e.0, e.1)

pub loop-k-preserved : goal.loop-k-preserved
loop-k-preserved c = let e = c.next_extreme-k.ensures in (e.1, e.2, e.3)

pub returns : goal.returns
unfolding max_of min_of
returns c =
    let l = c.loop-k in
    let e : l.k ≡ length c.args.samples.now = omega arith in
    rw (l.invariant.1, l.invariant.2, e)

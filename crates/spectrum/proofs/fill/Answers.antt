use Rattle.std.proofs.Common.{◌≡◌, ◌/◌, ◌<◌, length, arith}
use Rattle.laws.proofs.Filling.{filled_none, filled_next}
use Rattle.spectrum.proofs.Turns.{bin_is}
use Rattle.spectrum.proofs.fill.Goals as goal

pub loop-k-init : goal.loop-k-init
loop-k-init c = filled_none _ _

pub loop-k-preserved : goal.loop-k-preserved
loop-k-preserved c =
    let l = c.loop-k in
    let lt : l.k < length c.args.output.now = omega arith in
    filled_next _ l.k _ _ _ lt (bin_is c.args.samples.now l.k c.bin_magnitude.ensures c.first_halved.ensures) l.invariant

pub returns : goal.returns
returns c =
    let e : c.loop-k.k ≡ length c.args.samples.now / 2 = omega arith in
    rw e at c.loop-k.invariant

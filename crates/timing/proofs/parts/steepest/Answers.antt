use Rattle.std.proofs.Common.{◌≡◌, ◌-◌, length, refl, arith}
use Rattle.laws.specs.Literals.{zero32}
use Rattle.laws.specs.Walks.{pairs}
use Rattle.timing.specs.Timing.{steepest_of}
use Rattle.timing.proofs.Steepness.{covered_none}
use Rattle.timing.proofs.SteepestSteps.{known, turned}
use Rattle.timing.proofs.parts.steepest.Goals as goal

pub loop-i-init : goal.loop-i-init
unfolding pairs
loop-i-init c =
    let a = c.args in
    known a.dt a.samples.now zero32 zero32 1 c.next_above-i.result (covered_none a.dt c.requires) (omega arith) refl c.next_above-i.ensures

pub loop-i-preserved : goal.loop-i-preserved
loop-i-preserved c =
    let a = c.args in
    let l = c.loop-i in
    turned a.dt a.samples.now l.m _ _ l.i _ c.requires l.invariant (omega arith) c.step-w.ensures
    c.raised-m.ensures
    c.next_above-i-in-loop-i.ensures

pub returns : goal.returns
unfolding steepest_of
returns c =
    let l = c.loop-i in
    let k = l.invariant in
    let e : l.i - 1 ≡ length c.args.samples.now - 1 = omega (arith, k.inside) in
    rw (k.largest, e)

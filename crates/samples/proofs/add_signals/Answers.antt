use Rattle.std.proofs.Common.{◌≡◌, ◌<◌, length, refl, arith}
use Rattle.laws.proofs.Filling.{filled_none}
use Rattle.samples.specs.Samples.{shortest}
use Rattle.samples.proofs.Adding.{both_fit, one_store}
use Rattle.samples.proofs.add_signals.Goals as goal

pub loop-block-init : goal.loop-block-init
loop-block-init c = filled_none _ _

pub loop-j-preserved : goal.loop-j-preserved
loop-j-preserved c =
    let lt : c.loop-j.j < length c.args.output.now = omega arith in
    one_store _ _ _ _ _ _ _ c.sum_at.ensures (omega arith) refl lt c.loop-j.invariant

pub returns : goal.returns
returns c =
    let s = c.args in
    let e : c.loop-j.j ≡ shortest s.a.now s.b.now s.output.now = omega arith in
    both_fit s.a.now s.b.now s.output.now _ (omega arith) (omega arith) (rw e at c.loop-j.invariant)

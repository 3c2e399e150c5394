use mathlib.Core.Path.{◌≡◌}
use native.Mathlib.Omega.{arith}
use lib.ListN.{length}
use Rattle.laws.proofs.Filling.{filled_none, filled_length, filled_next}
use Rattle.generator.proofs.Whole.{not_long}
use Rattle.generator.proofs.generate_samples.Goals as goal

pub loop-i-init : goal.loop-i-init
loop-i-init c = (omega arith, filled_none _ _)

pub bounds-samples-i : goal.bounds-samples-i
bounds-samples-i c = rw (c.loop-i.invariant.1, filled_length) (omega arith)

pub loop-i-preserved : goal.loop-i-preserved
loop-i-preserved c =
    let at-loop = c.loop-i in
    (omega arith, filled_next _ _ _ _ _ (omega arith) c.sample_at.ensures at-loop.invariant.1)

pub returns : goal.returns
returns c =
    let at-loop = c.loop-i in
    let e : at-loop.i ≡ length c.args.samples.now = omega arith in
    not_long _ _ _ (omega arith) (rw e at at-loop.invariant.1)

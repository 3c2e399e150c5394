use Rattle.std.proofs.Common.{refl, arith}
use Rattle.laws.proofs.Harmonics.{within}
use Rattle.quality.proofs.Orders.{summed_next, summed_all}
use Rattle.quality.proofs.parts.power.Goals as goal

pub loop-h-preserved : goal.loop-h-preserved
loop-h-preserved c =
    let l = c.loop-h in
    let i = l.invariant.inside in
    let w = within _ _ l.h i.bin (omega (arith, i.end)) in
    summed_next _ _ _ l.h l.invariant (w.only (omega arith)) refl c.square-sum.ensures

pub returns : goal.returns
returns c = summed_all _ _ _ c.loop-h.h c.loop-h.invariant (omega arith)

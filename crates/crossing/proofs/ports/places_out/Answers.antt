use Rattle.std.proofs.Common.{◌≡◌, length, sym, ◌∙◌, arith}
use Rattle.laws.proofs.Filling.{filled_none, filled_next}
use Rattle.crossing.proofs.PortCrossing.{filled_maps}
use Rattle.crossing.specs.PortCrossing.{reading_out}
use Rattle.crossing.proofs.ports.places_out.Goals as goal

pub loop-i-init : goal.loop-i-init
loop-i-init c = filled_none _ _

pub loop-i-preserved : goal.loop-i-preserved
loop-i-preserved c = filled_next _ _ _ _ _ (omega arith) c.into.ensures c.loop-i.invariant

pub returns : goal.returns
returns c =
    let at-loop = c.loop-i in
    let l : length c.args.harmonics ≡ 16 = c.well_formed.0.1.0.1 in
    let e : at-loop.i ≡ length c.args.harmonics = omega arith in
    (rw e at at-loop.invariant) ∙ filled_maps reading_out _ c.args.harmonics _ (sym l)

use Rattle.std.proofs.Common.{refl, ◌∙◌, arith}
use Rattle.laws.specs.Literals.{zero32}
use Rattle.laws.proofs.Turn.{pairs_next}
use Rattle.quality.specs.Quality.{spur_at}
use Rattle.quality.proofs.spurs.largest_spur.Goals as goal

pub loop-i-preserved : goal.loop-i-preserved
unfolding spur_at
loop-i-preserved c =
    let l = c.loop-i in
    let a = c.args in
    (omega arith, c.spur-best.ensures ∙ pairs_next (spur_at a.bin) zero32 a.spectrum.now l.i (omega arith) l.invariant.1 refl refl)

use Rattle.std.proofs.Common.{◌≡◌, ◌+◌, ◌-◌, sym, ◌∙◌, arith}
use Rattle.timing.proofs.Crossing.{none_at, first_at}
use Rattle.timing.proofs.parts.first_crossing.Goals as goal

pub returns-then-rises : goal.returns-then-rises
returns-then-rises c =
    let l = c.loop-i in
    let a = c.args in
    first_at a.mean a.samples.now l.i l.auto.i (omega arith) l.invariant.1 (sym c.rises.ensures ∙ c.if-rises.true)

pub loop-i-preserved : goal.loop-i-preserved
loop-i-preserved c =
    let l = c.loop-i in
    let a = c.args in
    let e : l.i + 1 - 1 ≡ l.i = omega arith in
    (omega arith, rw e (none_at a.mean a.samples.now l.i l.auto.i (sym c.rises.ensures ∙ c.if-rises.false) ∙ l.invariant.1))

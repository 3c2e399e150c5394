use Rattle.std.proofs.Common.{◌-◌, sym, ap, ◌∙◌, arith}
use Rattle.timing.specs.declared.parts.Crossings.{Crossings}
use Rattle.timing.proofs.Crossing.{none_at, one_at}
use Rattle.timing.proofs.parts.last_crossing.Goals as goal

pub returns-then-rises : goal.returns-then-rises
returns-then-rises c =
    let l = c.loop-i in
    let a = c.args in
    sym (l.invariant ∙ ap (λ (s : Crossings). s.last) (one_at a.mean a.samples.now (l.i - 1) (omega arith) (sym c.rises.ensures ∙ c.if-rises.true)))

pub loop-i-preserved : goal.loop-i-preserved
loop-i-preserved c =
    let l = c.loop-i in
    let a = c.args in
    l.invariant ∙ ap (λ (s : Crossings). s.last) (none_at a.mean a.samples.now (l.i - 1) (omega arith) (sym c.rises.ensures ∙ c.if-rises.false))

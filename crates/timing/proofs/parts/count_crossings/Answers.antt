use Rattle.std.proofs.Common.{◌≡◌, ◌+◌, ◌-◌, arith}
use Rattle.timing.proofs.Bounds.{within}
use Rattle.timing.proofs.Crossing.{count_at}
use Rattle.timing.proofs.parts.count_crossings.Goals as goal

pub tallied-n-requires : goal.tallied-n-requires
tallied-n-requires c =
    let l = c.loop-i in
    let a = c.args in
    rw l.invariant.1 (omega (arith, (within a.mean a.samples.now (l.i - 1)).count))

pub loop-i-preserved : goal.loop-i-preserved
loop-i-preserved c =
    let l = c.loop-i in
    let a = c.args in
    let e : l.i + 1 - 1 ≡ l.i = omega arith in
    (omega arith, rw (c.tallied-n.ensures, c.rises.ensures, e) (count_at a.mean a.samples.now l.i l.n l.auto.i l.invariant.1))

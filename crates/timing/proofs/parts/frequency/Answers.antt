-- `timing::parts::frequency` meets its contract: the crossings found lie among the samples. Assumes nothing.
use Rattle.std.proofs.Common.{arith}
use Rattle.timing.specs.Timing.{frequency_about}
use Rattle.timing.proofs.Bounds.{found}
use Rattle.timing.proofs.parts.frequency.Goals as goal

pub frequency_from-requires : goal.frequency_from-requires
frequency_from-requires c =
    let a = c.args in
    let w = found a.mean a.samples.now in
    let e = c.count_crossings-count.ensures in
    rw (c.last_crossing-last.ensures, c.first_crossing-first.ensures) (omega arith, omega (arith, e, w.count), w.order, omega (arith, w.place))

pub returns : goal.returns
unfolding frequency_about
returns c = rw (c.frequency_from.ensures, c.last_crossing-last.ensures, c.first_crossing-first.ensures, c.count_crossings-count.ensures)

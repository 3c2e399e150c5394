use mathlib.Core.Path.{refl}
use native.Mathlib.Omega.{arith}
use lib.Ieee.{is_nan}
use Rattle.laws.specs.HowMany.{counting}
use Rattle.laws.proofs.Turn.{over_next}
use Rattle.laws.proofs.HowMany.{counted_le}
use Rattle.counts.specs.Counts.{is_infinite}
use Rattle.counts.proofs.parts.count.Goals as goal

pub tallied-not_numbers-requires : goal.tallied-not_numbers-requires
tallied-not_numbers-requires c =
    let l = c.loop-x in
    rw l.invariant.0 (omega (arith, counted_le is_nan c.args.samples.now l.x-index))

pub tallied-infinite-requires : goal.tallied-infinite-requires
tallied-infinite-requires c =
    let l = c.loop-x in
    rw l.invariant.1 (omega (arith, counted_le is_infinite c.args.samples.now l.x-index))

pub loop-x-preserved : goal.loop-x-preserved
loop-x-preserved c =
    let l = c.loop-x in
    let xs = c.args.samples.now in (
      rw (c.tallied-not_numbers.ensures, c.is_no_number.ensures) (over_next (counting is_nan) 0 xs l.x-index l.invariant.0 refl),
      rw (c.tallied-infinite.ensures, c.is_infinite.ensures) (over_next (counting is_infinite) 0 xs l.x-index l.invariant.1 refl),
    )

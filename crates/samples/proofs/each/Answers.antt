use Rattle.std.proofs.Common.{ap, arith, ◌≡◌, ◌+◌, ◌*◌, ◌/◌, ◌-◌, length}
use borrow.Author.Tests.{le-ltb, lt-ltb}
use Rattle.answers.specs.Numbers.{done}
use Rattle.answers.specs.Left.{left}
use Rattle.samples.specs.Samples.{each}
use Rattle.samples.proofs.Blocks.{block_next, run_last}
use Rattle.samples.proofs.each.Goals as goal

pub returns-then-n-gt-LONGEST : goal.returns-then-n-gt-LONGEST
unfolding each
returns-then-n-gt-LONGEST g c = simp (lt-ltb _ _ c.if-n-gt-LONGEST.true)

pub loop-block-preserved : goal.loop-block-preserved
loop-block-preserved g c =
    let l = c.loop-block in
    block_next g.one c.args.samples.now l.samples _ (l.block * 32) _ ((l.block + 1) * 32) (omega arith) (omega arith) l.invariant c.each_of.ensures

pub returns : goal.returns
unfolding each
returns g c =
    let l = c.loop-block in
    let s = c.args.samples.now in
    let p = length s / 32 * 32 in
    let e : l.block * 32 ≡ p = omega arith in
    simp (le-ltb _ _ c.if-n-gt-LONGEST.false) (ap (left done) (run_last g.one s l.samples _ p (length l.samples - p) (omega arith) (rw e at l.invariant) c.each_of-2.ensures))

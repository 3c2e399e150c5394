use Rattle.std.proofs.Common.{arith, ◌<◌, ◌≤◌, length}
use Rattle.std.proofs.lemmas.List.{append-nil, get_or_default, take_all, drop_all}
use Rattle.std.proofs.lemmas.List.Edits.{map_over_more}
use Rattle.samples.proofs.each_of.Goals as goal

pub loop-x-preserved : goal.loop-x-preserved
loop-x-preserved g c =
    let lt : c.loop-x.x-index < length c.loop-x.run = omega arith in
    rw (c.requires.1.1 _ _ c.f.ensures) (map_over_more g.one c.args.run.now c.loop-x.run c.loop-x.x-index _ c.loop-x-test.true c.loop-x.invariant (get_or_default _ _ _ _ lt))

pub returns : goal.returns
returns g c =
    let h : length c.args.run.now ≤ c.loop-x.x-index = c.loop-x-test.false in
    rw (take_all _ _ h, drop_all _ _ h, append-nil) at c.loop-x.invariant

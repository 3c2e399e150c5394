use Rattle.std.proofs.Common.{◌≡◌, ◌<◌, length, sym, ap, ◌∙◌, arith}
use Rattle.laws.proofs.Filling.{filled_none, filled_next}
use Rattle.quarter.specs.Turn.{sine_of}
use Rattle.spectrum.specs.Sines.{sine_at}
use Rattle.spectrum.proofs.Grid.{grid_le}
use Rattle.spectrum.proofs.Angle.{step_is, step_lt}
use Rattle.spectrum.proofs.several.fill_sines.Goals as goal

pub loop-j-init : goal.loop-j-init
loop-j-init c = filled_none _ _

pub overflow_mul-j : goal.overflow_mul-j
overflow_mul-j c = omega (arith, step_lt c.args.n c.requires.n_value (omega arith) c.loop-j-test.true)

pub sine-requires : goal.sine-requires
sine-requires c = step_lt c.args.n c.requires.n_value (omega arith) c.loop-j-test.true

pub offset_bounds-scratch-j : goal.offset_bounds-scratch-j
offset_bounds-scratch-j c = omega (arith, grid_le c.requires.n_value)

pub loop-j-preserved : goal.loop-j-preserved
unfolding sine_at
loop-j-preserved c =
    let l = c.loop-j in
    let n = c.args.n in
    let lt : l.j < length c.args.scratch.now = omega arith in
    filled_next _ l.j _ _ _ lt (c.sine.ensures ∙ ap sine_of (sym (step_is n c.requires.n_value (omega arith) l.j))) l.invariant

pub returns : goal.returns
returns c =
    let e : c.loop-j.j ≡ c.args.n = omega arith in
    rw e at c.loop-j.invariant

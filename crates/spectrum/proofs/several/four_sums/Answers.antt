use Rattle.std.proofs.Common.{◌≡◌, ◌+◌, length, refl, arith}
use Rattle.spectrum.specs.Bin.{sums_to}
use Rattle.spectrum.proofs.Grid.{grid_le}
use Rattle.spectrum.proofs.Running.{running_none, running_next, running_at, running_all}
use Rattle.spectrum.proofs.several.four_sums.Goals as goal

pub loop-sample-init : goal.loop-sample-init
unfolding sums_to
loop-sample-init c =
    let xs = c.args.samples.now in
    let k = c.args.k in
    (running_none xs k _ refl, running_none xs (k + 1) _ refl, running_none xs (k + 2) _ refl, running_none xs (k + 3) _ refl)

pub step-first-requires : goal.step-first-requires
step-first-requires c =
    let l = c.loop-sample in
    record { sines = c.requires.sines; n_value = c.requires.samples_value; le_n = c.requires.in_bounds; at_lt_n = running_at c.args.samples.now c.args.k l.sample-index l.invariant.0 (omega arith); k_lt_n = omega arith }

pub step-second-requires : goal.step-second-requires
step-second-requires c =
    let l = c.loop-sample in
    record { sines = c.requires.sines; n_value = c.requires.samples_value; le_n = c.requires.in_bounds; at_lt_n = running_at c.args.samples.now (c.args.k + 1) l.sample-index l.invariant.1 (omega arith); k_lt_n = omega arith }

pub step-third-requires : goal.step-third-requires
step-third-requires c =
    let l = c.loop-sample in
    record { sines = c.requires.sines; n_value = c.requires.samples_value; le_n = c.requires.in_bounds; at_lt_n = running_at c.args.samples.now (c.args.k + 2) l.sample-index l.invariant.2 (omega arith); k_lt_n = omega arith }

pub overflow_add-k-in-loop-sample-2 : goal.overflow_add-k-in-loop-sample-2
overflow_add-k-in-loop-sample-2 c = omega (arith, c.requires.k_in_bounds, grid_le c.requires.samples_value)

pub step-fourth-requires : goal.step-fourth-requires
step-fourth-requires c =
    let l = c.loop-sample in
    record { sines = c.requires.sines; n_value = c.requires.samples_value; le_n = c.requires.in_bounds; at_lt_n = running_at c.args.samples.now (c.args.k + 3) l.sample-index l.invariant.3 (omega arith); k_lt_n = omega arith }

pub loop-sample-preserved : goal.loop-sample-preserved
loop-sample-preserved c =
    let l = c.loop-sample in
    let xs = c.args.samples.now in
    let k = c.args.k in
    let read = c.f32_to_f64_with_nan-x.ensures in (
      running_next xs k l.sample-index l.invariant.0 read c.step-first.ensures,
      running_next xs (k + 1) l.sample-index l.invariant.1 read c.step-second.ensures,
      running_next xs (k + 2) l.sample-index l.invariant.2 read c.step-third.ensures,
      running_next xs (k + 3) l.sample-index l.invariant.3 read c.step-fourth.ensures,
    )

pub returns : goal.returns
returns c =
    let l = c.loop-sample in
    let xs = c.args.samples.now in
    let k = c.args.k in
    let all : l.sample-index ≡ length xs = omega arith in (
      running_all xs k l.sample-index l.invariant.0 all,
      running_all xs (k + 1) l.sample-index l.invariant.1 all,
      running_all xs (k + 2) l.sample-index l.invariant.2 all,
      running_all xs (k + 3) l.sample-index l.invariant.3 all,
    )

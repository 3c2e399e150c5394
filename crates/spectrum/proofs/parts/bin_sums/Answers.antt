use Rattle.std.proofs.Common.{◌≡◌, ℕ, ◌+◌, ◌*◌, ◌/◌, ◌%◌, length, sym, refl, ap, ◌∙◌, mod-lt, arith, lit<}
use Rattle.quarter.specs.Turn.{sine_of, cosine_of}
use Rattle.spectrum.specs.Bin.{sums_to, sums_of}
use Rattle.spectrum.proofs.Angle.{step_lt, angle_first, angle_next}
use Rattle.spectrum.proofs.Turns.{sums_next}
use Rattle.spectrum.proofs.parts.bin_sums.Goals as goal

pub overflow_mul-by : goal.overflow_mul-by
overflow_mul-by c = omega (arith, step_lt _ c.requires.samples_value (omega arith) c.requires.k_in_bounds)

pub loop-sample-init : goal.loop-sample-init
unfolding sums_to
loop-sample-init c = (sym (angle_first (length c.args.samples.now) c.args.k), omega arith, refl)

pub overflow_add-angle : goal.overflow_add-angle
overflow_add-angle c = omega (arith, step_lt _ c.requires.samples_value (omega arith) c.requires.k_in_bounds)

pub loop-sample-preserved : goal.loop-sample-preserved
loop-sample-preserved c =
    let l = c.loop-sample in
    let xs = c.args.samples.now in
    let n = length xs in
    let k = c.args.k in (
      ap (λ (x : ℕ). (x + k * (4096 / n)) % 4096) l.invariant.0 ∙ sym (angle_next n c.requires.samples_value (omega arith) k l.sample-index),
      mod-lt _ (lit< tt),
      sums_next xs k l.sample-index l.invariant.2 c.f32_to_f64_with_nan-x.ensures (c.cosine-cosine.ensures ∙ ap cosine_of l.invariant.0)
          (c.sine-sine.ensures ∙ ap sine_of l.invariant.0) c.turn-sums.ensures,
    )

pub returns : goal.returns
unfolding sums_of
returns c =
    let l = c.loop-sample in
    let xs = c.args.samples.now in
    let e : l.sample-index ≡ length xs = omega arith in
    l.invariant.2 ∙ ap (sums_to xs c.args.k) e

use Rattle.std.proofs.Common.{◌≡◌, ℕ, ◌+◌, ◌*◌, ◌/◌, ◌%◌, length, sym, refl, ap, ◌∙◌, mod-lt, arith, rules, length-append, lit<}
use Rattle.quarter.specs.Turn.{sine_of, cosine_of}
use Rattle.spectrum.specs.Bin.{angle_of, sums_to, sums_of}
use Rattle.spectrum.proofs.Angle.{step_lt, angle_first, angle_next}
use Rattle.spectrum.proofs.Turns.{sums_next}
use lib.Ieee.{nan}
use Rattle.std.proofs.lemmas.Slice.Zip.{zip_turn, zip_end}
use Rattle.fundamental.proofs.both_sums.Goals as goal

pub overflow_mul-by : goal.overflow_mul-by
overflow_mul-by c = omega (arith, step_lt _ c.requires.voltage_value (omega arith) c.requires.k_in_bounds)

pub loop-volt-init : goal.loop-volt-init
unfolding sums_to
loop-volt-init c = (sym (angle_first (length c.args.voltage.now) c.args.k), omega arith, refl, refl)

pub overflow_add-angle : goal.overflow_add-angle
overflow_add-angle c =
    omega (arith, step_lt _ c.requires.voltage_value (omega arith) c.requires.k_in_bounds)

pub loop-volt-preserved : goal.loop-volt-preserved
loop-volt-preserved c =
    let l = c.loop-volt in
    let v = c.args.voltage.now in
    let i = c.args.current.now in
    let n = length v in
    let k = c.args.k in
    let j = length l.yielded in
    let read = zip_turn v i l.yielded c.into_iter-volt-iterator.result l.volt-iterator c.next.new.self c.next.result (search rules) (search rules) l.yielded_by (c.in-Some.volt, c.in-Some.amp) c.in-Some.is c.next.ensures.steps in
    let e : n ≡ length i = c.requires.voltage_len in
    let cosine = c.cosine-cosine.ensures ∙ ap cosine_of l.invariant.0 in
    let sine = c.sine-sine.ensures ∙ ap sine_of l.invariant.0 in
    rw length-append (
      ap (λ (x : ℕ). (x + k * (4096 / n)) % 4096) l.invariant.0 ∙ sym (angle_next n c.requires.voltage_value (omega arith) k j),
      mod-lt _ (lit< tt),
      sums_next v k j l.invariant.2 (c.f32_to_f64_with_nan-x.ensures ∙ read.2 nan) cosine sine c.turn-v.ensures,
      sums_next i k j l.invariant.3 (c.f32_to_f64_with_nan-y.ensures ∙ read.3 nan) (cosine ∙ ap (λ (m : ℕ). cosine_of (angle_of m k j)) e)
          (sine ∙ ap (λ (m : ℕ). sine_of (angle_of m k j)) e) c.turn-i.ensures,
    )

pub returns : goal.returns
unfolding sums_of
returns c =
    let l = c.loop-volt in
    let v = c.args.voltage.now in
    let i = c.args.current.now in
    let all = zip_end v i l.yielded c.into_iter-volt-iterator.result l.volt-iterator c.next.new.self c.next.result (search rules) (search rules) l.yielded_by c.in-None.is c.next.ensures.steps in
    let e : length l.yielded ≡ length v = omega arith in
    let d : length l.yielded ≡ length i = omega arith in
    (l.invariant.2 ∙ ap (sums_to v c.args.k) e, l.invariant.3 ∙ ap (sums_to i c.args.k) d)

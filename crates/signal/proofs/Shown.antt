-- Sequences of calls, computed from the definitions; of the sawtooth and the pulses the bits are those that the Rust gives when it is run. Assumes nothing.
use Prim.Native.Nat.{ℕ}
use mathlib.Core.Path.{◌≡◌, refl}
use mathlib.Core.Bool.{cond}
use mathlib.Core.List.{List, [], ◌∷◌, map}
use lib.Count.{count_trailing_zeros}
use lib.Dec.{eqb}
use lib.Ieee.{Float, nan, binary32, add, sub, mul, div, rem, neg, lt, le, sum, round, units, odd, size, span, climb, of_int, of_bits, of_fields, to_unsigned}
use Rattle.answers.specs.Numbers.{number_of, if_done}
use Rattle.laws.specs.Filled.{filled}
use Rattle.laws.specs.Literals.{zero32, zero64, count32, count64}
use Rattle.laws.specs.Harmonics.{harmonics_of, harmonic_power, last_up_to}
use Rattle.laws.specs.Samples.{square_of}
use Rattle.laws.specs.Walks.{over}
use Rattle.number.specs.Number.{narrow, root, narrowed_root, whole_root, root_in, round_away}
use Rattle.generator.specs.declared.Wave.TheVariants.{PWM, Sawtooth}
use Rattle.generator.specs.Sample.{samples_per_period, pwm_at, period_seconds, shift, t_mod, sawtooth_at, sample_at, generated}
use Rattle.quarter.specs.Table.{quarter_table}
use Rattle.quarter.specs.Turn.{fraction, quadrant, sine_of, cosine_of}
use Rattle.spectrum.specs.Grid.{lengths, on_grid}
use Rattle.spectrum.specs.Bin.{step_of, angle_of, turned, sums_to, sums_of, size_of, magnitude_of}
use Rattle.spectrum.specs.Spectrum.{outcome_of}
use Rattle.timing.specs.Timing.{total_of, narrowed_mean}
use Rattle.figures.specs.Levels.{sum_of, average_of, dc_rms_of}
use Rattle.figures.specs.Figures.{figures_of, answer_of}
use Rattle.distortion.specs.Thd.{fundamental_bin, usable, thd_from, thd_at, thd_of}
use Rattle.distortion.specs.Editions.{by_edition, highest_order}
use Rattle.signal.specs.State.{fresh, with_phase, clamped, with_duty, voltage_of, levelled, with_measured, silenced}
use Rattle.signal.specs.Calls.{SignalLeft, unless_refused, made, remade, reset_of}
use Rattle.signal.specs.Editions.{remade_by, new_by, next_by}
use Rattle.signal.specs.Sequence.{phase, duty, Later, setting, reset}

abbrev b : ℕ → Float
b x = of_bits binary32 x

-- some of what a call leaves behind
pub record Seen : Type 0 where
  pub number : ℕ
  pub samples : List Float
  pub phase : Float
  pub duty : Float
  pub average : Float
  pub voltage : Float
  pub thd : Float
  pub edition : ℕ

abbrev seen : SignalLeft → Seen
seen l = record {
  number = number_of l.answer.outcome;
  samples = l.places;
  phase = l.answer.state.shape.phase;
  duty = l.answer.state.shape.duty_cycle;
  average = l.answer.state.metrics.figures.average;
  voltage = l.answer.state.port.voltage;
  thd = l.answer.state.metrics.thd;
  edition = l.answer.state.metrics.edition;
}

-- the first call and each later one
abbrev pub each : SignalLeft → List Later → List Seen
each l [] = seen l ∷ []
each l (c ∷ cs) = seen l ∷ each (next_by l c) cs

-- a sawtooth of amplitude 2 and frequency 1 over 4 samples: a duty cycle of a quarter, a phase of 90 degrees, a reset.
-- The duty cycle leaves a sawtooth's samples; the phase moves them on by one.
pub sawtooth : each (new_by Sawtooth (b 0x40000000) (b 0x3F800000) 1 (b 7 ∷ b 7 ∷ b 7 ∷ b 7 ∷ [])) (setting (duty (b 0x3E800000)) ∷ setting (phase (b 0x42B40000)) ∷ reset ∷ [])
    ≡ record { number = 0; samples = b 0xC0000000 ∷ b 0xBF800000 ∷ b 0 ∷ b 0x3F800000 ∷ []; phase = b 0; duty = b 0x3F000000; average = b 0xBF000000; voltage = b 0x3F9CC471; thd = b 0; edition = 1 }
    ∷ record { number = 0; samples = b 0xC0000000 ∷ b 0xBF800000 ∷ b 0 ∷ b 0x3F800000 ∷ []; phase = b 0; duty = b 0x3E800000; average = b 0xBF000000; voltage = b 0x3F9CC471; thd = b 0; edition = 1 }
    ∷ record {
      number = 0;
      samples = b 0xBF800000 ∷ b 0 ∷ b 0x3F800000 ∷ b 0xC0000000 ∷ [];
      phase = b 0x42B40000;
      duty = b 0x3E800000;
      average = b 0xBF000000;
      voltage = b 0x3F9CC471;
      thd = b 0;
      edition = 1;
    }
    ∷ record { number = 0; samples = b 0 ∷ b 0 ∷ b 0 ∷ b 0 ∷ []; phase = b 0x42B40000; duty = b 0x3E800000; average = b 0; voltage = b 0; thd = b 0; edition = 1 }
    ∷ []
unfolding remade_by by_edition remade unless_refused outcome_of if_done made reset_of generated sample_at period_seconds shift t_mod sawtooth_at filled on_grid lengths fresh
    with_phase clamped with_duty voltage_of levelled with_measured silenced over total_of narrowed_mean sum_of average_of dc_rms_of figures_of answer_of
    fundamental_bin usable square_of harmonics_of harmonic_power last_up_to thd_from thd_at thd_of magnitude_of size_of sums_of sums_to turned angle_of step_of
    sine_of cosine_of quadrant fraction quarter_table narrowed_root narrow root whole_root root_in round_away add sub mul div rem neg lt le sum round units
    odd size span climb count_trailing_zeros of_int of_bits of_fields to_unsigned
sawtooth = refl

-- PWM of amplitude 2 and frequency 1 over 8 samples: THD follows the duty cycle; a NaN duty cycle is 0, silence keeps THD, and a reset clears it
pub pulses : each (new_by PWM (b 0x40000000) (b 0x3F800000) 1 (b 7 ∷ b 7 ∷ b 7 ∷ b 7 ∷ b 7 ∷ b 7 ∷ b 7 ∷ b 7 ∷ [])) (setting (duty (b 0x3E800000)) ∷ setting (duty nan) ∷ reset ∷ [])
    ≡ record {
      number = 0;
      samples = b 0x40000000 ∷ b 0x40000000 ∷ b 0x40000000 ∷ b 0x40000000 ∷ b 0 ∷ b 0 ∷ b 0 ∷ b 0 ∷ [];
      phase = b 0;
      duty = b 0x3F000000;
      average = b 0x3F800000;
      voltage = b 0x3FB504F3;
      thd = b 0x4225AF77;
      edition = 1;
    }
    ∷ record {
      number = 0;
      samples = b 0x40000000 ∷ b 0x40000000 ∷ b 0 ∷ b 0 ∷ b 0 ∷ b 0 ∷ b 0 ∷ b 0 ∷ [];
      phase = b 0;
      duty = b 0x3E800000;
      average = b 0x3F000000;
      voltage = b 0x3F800000;
      thd = b 0x42AE0D83;
      edition = 1;
    }
    ∷ record { number = 0; samples = b 0 ∷ b 0 ∷ b 0 ∷ b 0 ∷ b 0 ∷ b 0 ∷ b 0 ∷ b 0 ∷ []; phase = b 0; duty = b 0; average = b 0; voltage = b 0; thd = b 0x42AE0D83; edition = 1 }
    ∷ record { number = 0; samples = b 0 ∷ b 0 ∷ b 0 ∷ b 0 ∷ b 0 ∷ b 0 ∷ b 0 ∷ b 0 ∷ []; phase = b 0; duty = b 0; average = b 0; voltage = b 0; thd = b 0; edition = 1 }
    ∷ []
unfolding remade_by by_edition remade unless_refused outcome_of if_done made reset_of generated sample_at samples_per_period pwm_at filled on_grid lengths fresh with_phase clamped
    with_duty voltage_of levelled with_measured silenced over total_of narrowed_mean sum_of average_of dc_rms_of figures_of answer_of fundamental_bin usable
    square_of harmonics_of harmonic_power last_up_to thd_from thd_at thd_of magnitude_of size_of sums_of sums_to turned angle_of step_of sine_of cosine_of quadrant
    fraction quarter_table narrowed_root narrow root whole_root root_in round_away add sub mul div rem neg lt le sum round units odd size span climb
    count_trailing_zeros of_int of_bits of_fields to_unsigned
pulses = refl

-- an edition that is neither 1 nor 2: 9, and nothing written; a setting finds the zero state, whose edition is 0; a reset knows no 9
pub no_edition : each (new_by PWM (b 0x40000000) (b 0x3F800000) 3 (b 7 ∷ b 7 ∷ [])) (setting (phase (b 0x42B40000)) ∷ reset ∷ [])
    ≡ record { number = 9; samples = b 7 ∷ b 7 ∷ []; phase = b 0; duty = b 0; average = b 0; voltage = b 0; thd = b 0; edition = 0 }
    ∷ record { number = 9; samples = b 7 ∷ b 7 ∷ []; phase = b 0; duty = b 0; average = b 0; voltage = b 0; thd = b 0; edition = 0 }
    ∷ record { number = 0; samples = b 0 ∷ b 0 ∷ []; phase = b 0; duty = b 0; average = b 0; voltage = b 0; thd = b 0; edition = 0 }
    ∷ []
unfolding remade_by by_edition unless_refused outcome_of if_done reset_of filled on_grid lengths levelled silenced of_bits of_fields
no_edition = refl

-- ---- which orders count

-- 01, "orders up to 16 and bins below half": the last order at some bins of 64 and of 4,096 samples
pub last_orders : map (last_up_to (highest_order 1) 32) (1 ∷ 2 ∷ 3 ∷ 16 ∷ 31 ∷ []) ∷ map (last_up_to (highest_order 1) 2048) (1 ∷ 100 ∷ 127 ∷ 128 ∷ 2047 ∷ []) ∷ []
    ≡ (16 ∷ 15 ∷ 10 ∷ 1 ∷ 1 ∷ []) ∷ (16 ∷ 16 ∷ 16 ∷ 15 ∷ 1 ∷ []) ∷ []
unfolding last_up_to by_edition
last_orders = refl

-- and in edition 2: bins where orders 40, 39, 16 and 15 are the last below half
pub last_orders_2 : map (last_up_to (highest_order 2) 32) (1 ∷ 2 ∷ 3 ∷ 16 ∷ 31 ∷ []) ∷ map (last_up_to (highest_order 2) 2048) (1 ∷ 51 ∷ 52 ∷ 127 ∷ 128 ∷ []) ∷ []
    ≡ (31 ∷ 15 ∷ 10 ∷ 1 ∷ 1 ∷ []) ∷ (40 ∷ 40 ∷ 39 ∷ 16 ∷ 15 ∷ []) ∷ []
unfolding last_up_to by_edition
last_orders_2 = refl

-- the power of one harmonic that is heard alone, of size 1: orders 16, 17, 40 and 41 of bin 1 in 4,096 samples
abbrev heard : ℕ → ℕ → Float
heard edition order = harmonic_power (λ (k : ℕ). cond (eqb k order) (count32 1) zero32) 1 2 (last_up_to (highest_order edition) 2048 1)

pub orders_heard : map (heard 1) (16 ∷ 17 ∷ 40 ∷ 41 ∷ []) ∷ map (heard 2) (16 ∷ 17 ∷ 40 ∷ 41 ∷ []) ∷ []
    ≡ (count64 1 ∷ zero64 ∷ zero64 ∷ zero64 ∷ []) ∷ (count64 1 ∷ count64 1 ∷ count64 1 ∷ zero64 ∷ []) ∷ []
unfolding last_up_to by_edition harmonic_power harmonics_of square_of add mul sum round units odd size span climb count_trailing_zeros of_int of_bits of_fields
orders_heard = refl

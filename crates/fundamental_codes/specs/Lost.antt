-- Where rounding ends what can be said: two captures of eight codes whose exact difference is above 0 and whose reactive figure is a zero. The two products, whose sizes add up to
-- less than 2^54 times their difference, round to the same f64. Beside them 02's example. Computed over the definitions. Assumes nothing.
use Rattle.std.specs.Prelude.{◌*◌, ◌^◌, ◌<◌, ◌≡◌, refl, List, [], ◌∷◌, ℤ, pos, negsuc, nat_abs, Result}
use Rattle.std.proofs.Common.{lit<}
use Rattle.std.specs.Float.{binary32}
use Rattle.std.specs.Float.Ieee.{add, sub, mul, div, neg, of_int, of_bits}
use Rattle.laws.specs.Products.{code_at, products}
use Rattle.answers.specs.Numbers.{done}
use Rattle.answers.specs.Answers.{ended, told}
use Rattle.answers.specs.declared.Refusal.{Refusal}
use Rattle.number.specs.Number.{narrow}
use Rattle.quarter.specs.Table.{quarter_table}
use Rattle.quarter.specs.Turn.{fraction, quadrant, sine_of, cosine_of}
use Rattle.spectrum.specs.Grid.{lengths, on_grid}
use Rattle.spectrum.specs.Bin.{step_of, angle_of, turned, sums_to, sums_of}
use Rattle.accuracy.specs.Accuracy.{none, plus, sign, samples_of}
use Rattle.fundamental.specs.declared.FundamentalPower.{FundamentalPower}
use Rattle.fundamental.specs.Fundamental.{in_phase, across, scaled_of, fundamental_figures, fundamental_of, zero_fundamental, fundamental_outcome, fundamental_answer}
use Rattle.fundamental_codes.specs.Exact.{by_quadrant, whole_sine, whole_cosine, real_sum, imag_sum, exact_active, exact_reactive, reactive_size}

abbrev volts : List ℤ
volts = pos 108 ∷ negsuc 2 ∷ pos 105 ∷ pos 0 ∷ pos 0 ∷ pos 0 ∷ pos 0 ∷ pos 0 ∷ []

abbrev amps : List ℤ
amps = pos 5110 ∷ pos 0 ∷ pos 4968 ∷ negsuc 1 ∷ pos 0 ∷ pos 0 ∷ pos 0 ∷ pos 0 ∷ []

abbrev found : Result FundamentalPower Refusal
found = fundamental_answer (samples_of volts) (samples_of amps) 1

pub lost :
    (ended found ≡ done)
    × (sign (exact_reactive (code_at volts) (code_at amps) 8 1) ≡ plus)
    × ((told zero_fundamental found).reactive ≡ of_bits binary32 0)
    × (reactive_size (code_at volts) (code_at amps) 8 1 < 2 ^ 54 * nat_abs (exact_reactive (code_at volts) (code_at amps) 8 1))
unfolding fundamental_answer fundamental_outcome fundamental_of fundamental_figures in_phase across scaled_of on_grid lengths sums_of sums_to turned angle_of
    step_of sine_of cosine_of quadrant fraction quarter_table narrow add sub mul div neg of_int of_bits exact_reactive reactive_size real_sum imag_sum whole_sine
    whole_cosine by_quadrant products
lost = (refl, refl, refl, lit< tt)

-- 02, c: "(1, 0, -1, 0) and (0, 1, 0, -1) at bin 1 give 0 and 0.5", in exact arithmetic: twice 4 over 4² is 0.5
abbrev peaks : List ℤ
peaks = pos 1 ∷ pos 0 ∷ negsuc 0 ∷ pos 0 ∷ []

abbrev late : List ℤ
late = pos 0 ∷ pos 1 ∷ pos 0 ∷ negsuc 0 ∷ []

pub lagging : (sign (exact_active (code_at peaks) (code_at late) 4 1) ≡ none) × (exact_reactive (code_at peaks) (code_at late) 4 1 ≡ pos (4 * 2 ^ 60))
unfolding angle_of step_of quarter_table exact_active exact_reactive real_sum imag_sum whole_sine whole_cosine by_quadrant products
lagging = (refl, refl)

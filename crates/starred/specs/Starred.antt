-- 01, 'Examples to hold it against': "Starred ones are proved." One row for each star, in 01's order and words, and behind them those of document 02; and one
-- statement: the definitions that the contracts cite give what the table says. Assumes nothing.
use Rattle.std.specs.Prelude.{ℕ, ◌≡◌, refl, List, [], ◌∷◌, ◌++◌, map, ℤ, pos, negsuc, Float, Result, Ok, Err}
use Rattle.std.specs.Int.Count.{count_trailing_zeros}
use Rattle.std.specs.Float.{nan, binary32}
use Rattle.std.specs.Float.Ieee.{add, sub, mul, div, neg, sum, round, units, odd, size, span, climb, lt, le, of_int, of_bits, of_fields}
use Rattle.answers.specs.declared.Refusal.{Refusal}
use Rattle.answers.specs.Numbers.{Outcome, done}
use Rattle.answers.specs.declared.Refusal.TheVariants.{LengthsDiffer}
use Rattle.answers.specs.Numbers.{if_done}
use Rattle.answers.specs.Left.{Left, left}
use Rattle.laws.specs.Filled.{filled}
use Rattle.laws.specs.Front.{onto}
use Rattle.laws.specs.Literals.{count32}
use Rattle.laws.specs.Quotients.{ratio_or_zero}
use Rattle.laws.specs.Samples.{higher, lower}
use Rattle.laws.specs.Walks.{over, pairs}
use Rattle.number.specs.Number.{narrow, root, whole_root, root_in, abs, narrowed_root}
use Rattle.power.specs.declared.Power.{Power}
use Rattle.power.specs.Power.{sum_to, mean64, active_of, apparent_of, above_zero, nonactive_of, record_of, power_of, outcome_of as powerOutcome, answer_of}
use Rattle.timing.specs.Timing.{total_of, narrowed_mean, rises_at, first_of, crossing_at, crossings_of, frequency_from, frequency_about, frequency_answer, slew_at, steepest_of, slew_of, slew_answer}
use Rattle.figures.specs.Levels.{max_of, min_of}
use Rattle.figures.specs.Edges.{rise_starts, rise_grows, fall_starts, fall_grows, four_tests, rise_fall_of}
use Rattle.figures.specs.Figures.{edges_in}
use Rattle.quarter.specs.Table.{quarter_table}
use Rattle.quarter.specs.Turn.{fraction, quadrant, sine_of, cosine_of}
use Rattle.spectrum.specs.Grid.{lengths, on_grid}
use Rattle.spectrum.specs.Bin.{step_of, angle_of, turned, sums_to, sums_of, size_of, magnitude_of}
use Rattle.spectrum.specs.Spectrum.{halved, bin_of, outcome_of, spectrum_of}
use Rattle.fundamental.specs.declared.FundamentalPower.{FundamentalPower}
use Rattle.fundamental.specs.Fundamental.{in_phase, across, scaled_of, fundamental_with, fundamental_figures, fundamental_of, fundamental_outcome, fundamental_answer}
use Rattle.hexadecimal.specs.Digit.{within, is_digit, digit_of}
use Rattle.hexadecimal.specs.Code.{code_of}
use Rattle.frame.specs.Line.{after, pair_at, word_at, all_digits, sequence_of, count_of, right_form, sum_of, right_sum, line_of, run_codes, codes_by, line_codes}
use Rattle.capture.specs.Lines.{add as addLine, cut, codes_of}
use Rattle.capture.specs.Reading.{follows, weigh, judge, verdict_of, ReadLeft, settle, read_capture}

-- ---- what is called, and what it answers

-- the inputs, lent slices among them
pub data Call : Type 0 where
  power : List Float → List Float → Call
  frequency : List Float → Float → Call
  slew : List Float → Float → Call
  rise : List Float → Call
  spectrum : List Float → List Float → Call
  capture : List ℕ → List ℤ → List ℤ → Call
  fundamental : List Float → List Float → ℕ → Call

-- the answers, lent slices as they are left among them
pub data Answer : Type 0 where
  powers : Result Power Refusal → Answer
  value : Result Float Refusal → Answer
  count : ℕ → Answer
  bins : Left Outcome (List Float) → Answer
  codes : ReadLeft → Answer
  fundamentals : Result FundamentalPower Refusal → Answer

-- how many samples the last rise has, of the edges that the time figures' rise and fall are worked out from
abbrev pub rise_samples : List Float → ℕ
rise_samples xs = (edges_in xs).rise

-- each call by the definition that its contract cites
abbrev pub answer_to : Call → Answer
answer_to (power v i) = powers (answer_of v i)
answer_to (frequency xs rate) = value (frequency_answer xs rate)
answer_to (slew xs rate) = value (slew_answer xs rate)
answer_to (rise xs) = count (rise_samples xs)
answer_to (spectrum xs out) = bins (spectrum_of xs out)
answer_to (capture text volts amps) = codes (read_capture text volts amps)
answer_to (fundamental v i k) = fundamentals (fundamental_answer v i k)

pub record Row : Type 0 where
  pub call : Call
  pub answer : Answer

-- ---- how the rows are written

abbrev row : Call → Answer → Row
row c a = record { call = c; answer = a }

-- the f32 n
abbrev p : ℕ → Float
p n = count32 n

-- and -n
abbrev m : ℕ → Float
m n = neg (count32 n)

-- p, nonactive, which 01 calls q, s and pf
abbrev figures : Float → Float → Float → Float → Answer
figures p nonactive s pf = powers (Ok (record { p = p; nonactive = nonactive; s = s; pf = pf }))

abbrev number : Float → Answer
number x = value (Ok x)

abbrev ramp : List Float
ramp = map p (0 ∷ 1 ∷ 2 ∷ 3 ∷ 4 ∷ 5 ∷ 6 ∷ 7 ∷ 8 ∷ 9 ∷ 10 ∷ [])

-- `0000010001FFFF00` and a line feed
abbrev text : List ℕ
text = 48 ∷ 48 ∷ 48 ∷ 48 ∷ 48 ∷ 49 ∷ 48 ∷ 48 ∷ 48 ∷ 49 ∷ 70 ∷ 70 ∷ 70 ∷ 70 ∷ 48 ∷ 48 ∷ 10 ∷ []

-- what stood in a lent place before the call
abbrev old : Float
old = p 7

-- ---- the table

abbrev pub starred : List Row
starred =
    -- "Power of voltage 3, current -3: p -9, q 0, s 9, pf -1."
    row (power (p 3 ∷ []) (m 3 ∷ [])) (figures (m 9) (p 0) (p 9) (m 1))
    -- "Power of (1, 0) and (0, 1): p 0, pf 0, s and q both 3EFFFFFF, not one half."
    ∷ row (power (p 1 ∷ p 0 ∷ []) (p 0 ∷ p 1 ∷ [])) (figures (p 0) (of_bits binary32 0x3EFFFFFF) (of_bits binary32 0x3EFFFFFF) (p 0))
    -- "Power of NaN and 1: p and s NaN, q and pf 0."
    ∷ row (power (nan ∷ []) (p 1 ∷ [])) (figures nan (p 0) nan (p 0))
    -- "Lengths 2 and 1: 1."
    ∷ row (power (p 1 ∷ p 1 ∷ []) (p 1 ∷ [])) (powers (Err LengthsDiffer))
    -- "Frequency of -1, 1, -1, 1, -1, 1 at rate 6: 3."
    ∷ row (frequency (m 1 ∷ p 1 ∷ m 1 ∷ p 1 ∷ m 1 ∷ p 1 ∷ []) (p 6)) (number (p 3))
    -- "Of -1, 1: 0."
    ∷ row (frequency (m 1 ∷ p 1 ∷ []) (p 6)) (number (p 0))
    -- "Slew of 0, 3, 1 at rate 2: 6."
    ∷ row (slew (p 0 ∷ p 3 ∷ p 1 ∷ []) (p 2)) (number (p 6))
    -- "Samples 0 to 10 rise in 8 samples."
    ∷ row (rise ramp) (count 8)
    -- "With one more 0 after them, 9."
    ∷ row (rise (ramp ++ (p 0 ∷ []))) (count 9)
    -- "Spectrum of 1, 0, -1, 0: 0 and 1."; a third place of output stays
    ∷ row (spectrum (p 1 ∷ p 0 ∷ m 1 ∷ p 0 ∷ []) (old ∷ old ∷ old ∷ [])) (bins (left done (p 0 ∷ p 1 ∷ old ∷ [])))
    -- "Of 3, 1: 2."
    ∷ row (spectrum (p 3 ∷ p 1 ∷ []) (old ∷ [])) (bins (left done (p 2 ∷ [])))
    -- "`0000010001FFFF00` holds the pair 1, -1."; places past the pair stay
    ∷ row (capture text (pos 7 ∷ pos 7 ∷ []) (pos 8 ∷ pos 8 ∷ [])) (codes (left (Ok 1) (pos 1 ∷ pos 7 ∷ [], negsuc 0 ∷ pos 8 ∷ [])))
    -- 02, c: "(1, 0, -1, 0) and (0, 1, 0, -1) at bin 1 give 0 and 0.5"
    ∷ row (fundamental (p 1 ∷ p 0 ∷ m 1 ∷ p 0 ∷ []) (p 0 ∷ p 1 ∷ p 0 ∷ m 1 ∷ []) 1) (fundamentals (Ok (fundamental_with (p 0) (of_bits binary32 0x3F000000))))
    ∷ []

-- ---- the statement

pub starred_hold : map (λ (r : Row). answer_to r.call) starred ≡ map (λ (r : Row). r.answer) starred
unfolding answer_of powerOutcome power_of record_of sum_to mean64 active_of narrowed_root apparent_of ratio_or_zero above_zero nonactive_of over pairs total_of
    narrowed_mean higher lower rises_at first_of crossing_at crossings_of frequency_from frequency_about slew_at steepest_of slew_of frequency_answer slew_answer max_of
    min_of rise_starts rise_grows fall_starts fall_grows four_tests rise_fall_of spectrum_of outcome_of on_grid lengths if_done filled bin_of halved magnitude_of size_of
    sums_of sums_to turned angle_of step_of sine_of cosine_of quadrant fraction quarter_table onto within is_digit digit_of code_of pair_at word_at all_digits sequence_of
    count_of right_form sum_of right_sum line_of run_codes codes_by line_codes addLine cut codes_of follows after weigh judge verdict_of settle read_capture
    fundamental_answer fundamental_outcome fundamental_of fundamental_figures scaled_of in_phase across narrow root whole_root root_in abs add sub mul div neg sum
    round units odd size span climb count_trailing_zeros lt le of_int of_bits of_fields
starred_hold = refl

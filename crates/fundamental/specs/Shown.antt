-- Examples, computed from the definitions: lag and lead, other lengths and bins, what becomes of a zero's sign, a NaN, and refusals. Assumes nothing.
use Rattle.std.specs.Prelude.{◌≡◌, ℕ, List, [], ◌∷◌, map, from_bits, refl, Float, Result}
use Rattle.std.specs.Int.Count.{count_trailing_zeros}
use Rattle.std.specs.Float.{binary32}
use Rattle.std.specs.Float.Ieee.{add, sub, mul, div, neg, sum, round, units, odd, size, span, climb, of_int, of_bits, of_fields}
use Rattle.answers.specs.Numbers.{number_of}
use Rattle.answers.specs.declared.Refusal.{Refusal}
use Rattle.answers.specs.Answers.{ended, told}
use Rattle.number.specs.Number.{narrow}
use Rattle.quarter.specs.Table.{quarter_table}
use Rattle.quarter.specs.Turn.{fraction, quadrant, sine_of, cosine_of}
use Rattle.spectrum.specs.Grid.{lengths, on_grid}
use Rattle.spectrum.specs.Bin.{step_of, angle_of, turned, sums_to, sums_of}
use Rattle.fundamental.specs.declared.FundamentalPower.{FundamentalPower}
use Rattle.fundamental.specs.Fundamental.{in_phase, across, scaled_of, fundamental_figures, fundamental_of, zero_fundamental, fundamental_outcome, fundamental_answer}

-- by bit patterns: those of 1, -1, 0.5, -0.5, -0 and a NaN are 3F800000, BF800000, 3F000000, BF000000, 80000000 and 7FC00000
abbrev floats : List ℕ → List Float
floats bits = map (from_bits binary32) bits

abbrev cosine : List ℕ
cosine = 0x3F800000 ∷ 0 ∷ 0xBF800000 ∷ 0 ∷ []

abbrev sine : List ℕ
sine = 0 ∷ 0x3F800000 ∷ 0 ∷ 0xBF800000 ∷ []

abbrev opposed : List ℕ
opposed = 0xBF800000 ∷ 0 ∷ 0x3F800000 ∷ 0 ∷ []

-- 3, 1, -4, 1, -5, 9, 2, -6 and 2, 7, 1, -8, 2, 8, -1, 8
abbrev eight : List ℕ
eight = 0x40400000 ∷ 0x3F800000 ∷ 0xC0800000 ∷ 0x3F800000 ∷ 0xC0A00000 ∷ 0x41100000 ∷ 0x40000000 ∷ 0xC0C00000 ∷ []

abbrev others : List ℕ
others = 0x40000000 ∷ 0x40E00000 ∷ 0x3F800000 ∷ 0xC1000000 ∷ 0x40000000 ∷ 0x41000000 ∷ 0xBF800000 ∷ 0x41000000 ∷ []

abbrev broken : List ℕ
broken = 0x3F800000 ∷ 0x7FC00000 ∷ 0xBF800000 ∷ 0 ∷ []

pub record Row : Type 0 where
  pub volts : List ℕ
  pub amps : List ℕ
  pub bin : ℕ
  pub number : ℕ
  pub figures : List ℕ

abbrev row : List ℕ → List ℕ → ℕ → ℕ → ℕ → ℕ → Row
row v i k o p q = record { volts = v; amps = i; bin = k; number = o; figures = p ∷ q ∷ [] }

abbrev pub rows : List Row
rows =
    -- a current that lags, and one that leads
    row cosine sine 1 0 0 0x3F000000
    ∷ row sine cosine 1 0 0 0xBF000000
    -- eight samples: at bin 2 7.03125 and -1.875, and at bin 3 with sines that are no whole numbers
    ∷ row eight others 2 0 0x40E10000 0xBFF00000
    ∷ row eight others 3 0 0xC107C821 0xC0CCBD78
    -- in phase the zero is +0 both ways; opposed it is -0, and +0 with the two swapped
    ∷ row cosine cosine 1 0 0x3F000000 0
    ∷ row cosine opposed 1 0 0xBF000000 0x80000000
    ∷ row opposed cosine 1 0 0xBF000000 0
    -- no current at all: the active figure is -0 here
    ∷ row (0xBF800000 ∷ 0x3F800000 ∷ 0x3F800000 ∷ 0xBF800000 ∷ []) (0 ∷ 0 ∷ 0 ∷ 0 ∷ []) 1 0 0x80000000 0
    -- a NaN in either makes both figures NaN
    ∷ row broken sine 1 0 0x7FC00000 0x7FC00000
    ∷ row cosine broken 1 0 0x7FC00000 0x7FC00000
    -- 8: bin 0, the bin of half, a bin past the end, and bin 1 of no samples, of one and of two
    ∷ row cosine sine 0 8 0 0
    ∷ row cosine sine 2 8 0 0
    ∷ row cosine sine 5 8 0 0
    ∷ row [] [] 1 8 0 0
    ∷ row (0 ∷ []) (0 ∷ []) 1 8 0 0
    ∷ row (0 ∷ 0 ∷ []) (0 ∷ 0 ∷ []) 1 8 0 0
    -- 4 before 8, and 1 before 4
    ∷ row (0 ∷ 0 ∷ 0 ∷ []) (0 ∷ 0 ∷ 0 ∷ []) 0 4 0 0
    ∷ row (0 ∷ 0 ∷ 0 ∷ []) (0 ∷ 0 ∷ []) 0 1 0 0
    ∷ []

abbrev number_and : Result FundamentalPower Refusal → ℕ × List Float
number_and a = (number_of (ended a), (told zero_fundamental a).active ∷ (told zero_fundamental a).reactive ∷ [])

abbrev answer_to : Row → ℕ × List Float
answer_to r = number_and (fundamental_answer (floats r.volts) (floats r.amps) r.bin)

abbrev wanted : Row → ℕ × List Float
wanted r = (r.number, floats r.figures)

pub rows_hold : map answer_to rows ≡ map wanted rows
unfolding fundamental_answer fundamental_outcome fundamental_of fundamental_figures scaled_of in_phase across on_grid lengths sums_of sums_to turned angle_of step_of sine_of
    cosine_of quadrant fraction quarter_table narrow add sub mul div neg sum round units odd size span climb count_trailing_zeros of_int of_bits of_fields
rows_hold = refl

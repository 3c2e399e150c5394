-- Examples, computed from the definitions: what infinities in the voltage and the current do to p, nonactive, s and pf. (The laws are in proofs/Incident.antt.) Assumes nothing.
use Rattle.std.specs.Prelude.{◌≡◌, ℕ, List, [], ◌∷◌, map, refl, Result, Ok, Err, Float}
use Rattle.std.specs.Float.{binary32}
use Rattle.std.specs.Float.Ieee.{add, sub, mul, div, neg, lt, of_int, of_bits}
use Rattle.answers.specs.declared.Refusal.{Refusal}
use Rattle.laws.specs.Quotients.{ratio_or_zero}
use Rattle.number.specs.Number.{narrow, root, narrowed_root}
use Rattle.power.specs.declared.Power.{Power}
use Rattle.power.specs.Power.{sum_to, mean64, active_of, apparent_of, above_zero, nonactive_of, record_of, power_of, outcome_of, answer_of}

-- by bit patterns: those of 1, 2, plus and minus infinity and a NaN are 3F800000, 40000000, 7F800000, FF800000 and 7FC00000
abbrev floats : List ℕ → List Float
floats bits = map (of_bits binary32) bits

abbrev figures : Result Power Refusal → List Float
figures (Ok w) = w.p ∷ w.nonactive ∷ w.s ∷ w.pf ∷ []
figures (Err r) = []

-- volts, amps, and p, nonactive, s and pf
pub record Row : Type 0 where
  pub volts : List ℕ
  pub amps : List ℕ
  pub powers : List ℕ

abbrev row : List ℕ → List ℕ → List ℕ → Row
row v i w = record { volts = v; amps = i; powers = w }

-- 1, x, 2
abbrev among : ℕ → List ℕ
among x = 0x3F800000 ∷ x ∷ 0x40000000 ∷ []

abbrev silence : List ℕ
silence = 0 ∷ 0 ∷ 0 ∷ []

abbrev four : ℕ → ℕ → ℕ → ℕ → List ℕ
four p nonactive s pf = p ∷ nonactive ∷ s ∷ pf ∷ []

abbrev pub rows : List Row
rows =
    -- an infinity in the voltage, at a current of 1, -1, 0, and with no current at all
    row (among 0x7F800000) (among 0x3F800000) (four 0x7F800000 0 0x7F800000 0x7FC00000)
    ∷ row (among 0x7F800000) (among 0xBF800000) (four 0xFF800000 0 0x7F800000 0x7FC00000)
    ∷ row (among 0x7F800000) (among 0) (four 0x7FC00000 0 0x7F800000 0x7FC00000)
    ∷ row (among 0x7F800000) silence (four 0x7FC00000 0 0x7FC00000 0)
    -- minus infinity
    ∷ row (among 0xFF800000) (among 0x3F800000) (four 0xFF800000 0 0x7F800000 0x7FC00000)
    ∷ row (among 0xFF800000) (among 0xBF800000) (four 0x7F800000 0 0x7F800000 0x7FC00000)
    ∷ row (among 0xFF800000) (among 0) (four 0x7FC00000 0 0x7F800000 0x7FC00000)
    ∷ row (among 0xFF800000) silence (four 0x7FC00000 0 0x7FC00000 0)
    -- in the current, at a voltage of 1, -1, 0, and with no voltage at all
    ∷ row (among 0x3F800000) (among 0x7F800000) (four 0x7F800000 0 0x7F800000 0x7FC00000)
    ∷ row (among 0xBF800000) (among 0x7F800000) (four 0xFF800000 0 0x7F800000 0x7FC00000)
    ∷ row (among 0) (among 0x7F800000) (four 0x7FC00000 0 0x7F800000 0x7FC00000)
    ∷ row silence (among 0x7F800000) (four 0x7FC00000 0 0x7FC00000 0)
    ∷ row (among 0x3F800000) (among 0xFF800000) (four 0xFF800000 0 0x7F800000 0x7FC00000)
    ∷ row (among 0xBF800000) (among 0xFF800000) (four 0x7F800000 0 0x7F800000 0x7FC00000)
    ∷ row (among 0) (among 0xFF800000) (four 0x7FC00000 0 0x7F800000 0x7FC00000)
    ∷ row silence (among 0xFF800000) (four 0x7FC00000 0 0x7FC00000 0)
    -- in both at one place, of one sign and of both
    ∷ row (among 0x7F800000) (among 0x7F800000) (four 0x7F800000 0 0x7F800000 0x7FC00000)
    ∷ row (among 0x7F800000) (among 0xFF800000) (four 0xFF800000 0 0x7F800000 0x7FC00000)
    -- in the voltage twice, of both signs: at currents of one sign, and at currents whose signs follow
    ∷ row (0x7F800000 ∷ 0xFF800000 ∷ []) (0x3F800000 ∷ 0x3F800000 ∷ []) (four 0x7FC00000 0 0x7F800000 0x7FC00000)
    ∷ row (0x7F800000 ∷ 0xFF800000 ∷ []) (0x3F800000 ∷ 0xBF800000 ∷ []) (four 0x7F800000 0 0x7F800000 0x7FC00000)
    -- a current that is not 0 but whose root mean square is: the smallest f32 in one place of five
    ∷ row (0x7F800000 ∷ 0 ∷ 0 ∷ 0 ∷ 0 ∷ []) (1 ∷ 0 ∷ 0 ∷ 0 ∷ 0 ∷ []) (four 0x7F800000 0 0x7FC00000 0)
    -- p and s are infinite too where every sample is finite and the power is beyond f32: 1e30 and 1e30
    ∷ row (0x7149F2CA ∷ []) (0x7149F2CA ∷ []) (four 0x7F800000 0 0x7F800000 0x7FC00000)
    ∷ []

pub rows_hold : map (λ (r : Row). figures (answer_of (floats r.volts) (floats r.amps))) rows ≡ map (λ (r : Row). floats r.powers) rows
unfolding answer_of outcome_of power_of record_of sum_to mean64 active_of narrowed_root apparent_of ratio_or_zero above_zero nonactive_of narrow root add sub mul div neg lt of_int of_bits
rows_hold = refl

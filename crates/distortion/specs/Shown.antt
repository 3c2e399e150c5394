-- Examples, computed from the definitions: what an infinity does to the THD that a signal keeps, by the place where it stands. (The laws are in proofs/Infinite.antt.) Assumes nothing.
use Rattle.std.specs.Prelude.{◌≡◌, ℕ, true, false, cond, List, [], ◌∷◌, map, ◌==◌, refl, Float}
use Rattle.std.specs.Int.Count.{count_trailing_zeros}
use Rattle.std.specs.Float.{nan, inf}
use Rattle.std.specs.Float.Ieee.{add, sub, mul, div, neg, sum, round, units, odd, size, span, climb, lt, of_int, of_bits, of_fields, to_unsigned}
use Rattle.laws.specs.Harmonics.{harmonics_of, harmonic_power, last_up_to}
use Rattle.laws.specs.Literals.{zero32, count32}
use Rattle.laws.specs.Samples.{square_of}
use Rattle.number.specs.Number.{narrow, root, narrowed_root, whole_root, root_in, round_away}
use Rattle.quarter.specs.Table.{quarter_table}
use Rattle.quarter.specs.Turn.{fraction, quadrant, sine_of, cosine_of}
use Rattle.spectrum.specs.Bin.{step_of, angle_of, turned, sums_to, sums_of, size_of, magnitude_of}
use Rattle.distortion.specs.Thd.{fundamental_bin, usable, thd_from, thd_at, thd_of}

abbrev eight : List ℕ
eight = 0 ∷ 1 ∷ 2 ∷ 3 ∷ 4 ∷ 5 ∷ 6 ∷ 7 ∷ []

abbrev sixteen : List ℕ
sixteen = 0 ∷ 1 ∷ 2 ∷ 3 ∷ 4 ∷ 5 ∷ 6 ∷ 7 ∷ 8 ∷ 9 ∷ 10 ∷ 11 ∷ 12 ∷ 13 ∷ 14 ∷ 15 ∷ []

-- the THD before
abbrev e : Float
e = count32 7

-- the samples 0, 1, 2, .., with x at one place: THD at this frequency, and so at this bin, over orders up to 16
abbrev with : List ℕ → Float → ℕ → ℕ → Float
with places x frequency place = thd_of 16 (count32 frequency) e (map (λ (k : ℕ). cond (k == place) x (count32 k)) places)

-- of 8 samples, at each place: bin 1, whose harmonics 2 and 3 lie below half; bin 2, which has a sine or cosine of 0 everywhere; bin 3, which has no harmonic below half
pub of_eight :
    map (with eight (inf false) 1) eight ∷ map (with eight (inf true) 1) eight ∷ map (with eight (inf false) 2) eight ∷ map (with eight (inf false) 3) eight ∷ []
    ≡ (e ∷ nan ∷ e ∷ nan ∷ e ∷ nan ∷ e ∷ nan ∷ []) ∷ (e ∷ nan ∷ e ∷ nan ∷ e ∷ nan ∷ e ∷ nan ∷ [])
    ∷ (e ∷ e ∷ e ∷ e ∷ e ∷ e ∷ e ∷ e ∷ []) ∷ (e ∷ zero32 ∷ e ∷ zero32 ∷ e ∷ zero32 ∷ e ∷ zero32 ∷ []) ∷ []
unfolding thd_of thd_at thd_from usable fundamental_bin square_of harmonics_of harmonic_power last_up_to magnitude_of size_of sums_of sums_to turned angle_of step_of sine_of
    cosine_of quadrant fraction quarter_table narrowed_root narrow root whole_root root_in round_away add sub mul div neg lt sum round units odd size span climb
    count_trailing_zeros of_int of_bits of_fields to_unsigned
of_eight = refl

-- of 16 samples, at bin 1: each fourth place keeps the THD before
pub of_sixteen :
    map (with sixteen (inf false) 1) sixteen
    ≡ e ∷ nan ∷ nan ∷ nan ∷ e ∷ nan ∷ nan ∷ nan ∷ e ∷ nan ∷ nan ∷ nan ∷ e ∷ nan ∷ nan ∷ nan ∷ []
unfolding thd_of thd_at thd_from usable fundamental_bin square_of harmonics_of harmonic_power last_up_to magnitude_of size_of sums_of sums_to turned angle_of step_of sine_of
    cosine_of quadrant fraction quarter_table narrowed_root narrow root whole_root root_in round_away add sub mul div neg lt sum round units odd size span climb
    count_trailing_zeros of_int of_bits of_fields to_unsigned
of_sixteen = refl

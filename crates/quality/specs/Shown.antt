-- What a bin that is no number, or infinite, does to THD, computed over the definition. Assumes nothing.
use Rattle.std.specs.Prelude.{◌≡◌, false, [], ◌∷◌, refl, Float}
use Rattle.std.specs.Int.Count.{count_trailing_zeros}
use Rattle.std.specs.Float.{nan, inf}
use Rattle.std.specs.Float.Ieee.{add, mul, div, sum, round, units, odd, size, span, climb, lt, of_int, of_bits, of_fields}
use Rattle.laws.specs.Harmonics.{harmonics_of, harmonic_power}
use Rattle.laws.specs.Literals.{zero32, count32}
use Rattle.laws.specs.Samples.{square_of}
use Rattle.number.specs.Number.{narrow, root, narrowed_root, whole_root, root_in}
use Rattle.quality.specs.Powers.{power_in}
use Rattle.quality.specs.Quality.{thd_of_spectrum}

-- at the fundamental in bin 2 and its harmonic in bin 4, among other bins
abbrev thd : Float → Float → Float → Float
thd fundamental harmonic other = thd_of_spectrum (zero32 ∷ other ∷ fundamental ∷ other ∷ harmonic ∷ other ∷ []) 2

abbrev n : Float
n = nan

abbrev i : Float
i = inf false

pub unusual_bins : (thd (count32 4) (count32 3) (count32 1) ∷ thd n (count32 3) (count32 1) ∷ thd (count32 4) n (count32 1) ∷ thd (count32 4) (count32 3) n ∷ thd n n n
    ∷ thd i (count32 3) (count32 1) ∷ thd (count32 4) i (count32 1) ∷ thd (count32 4) (count32 3) i ∷ [])
    ≡ (count32 75 ∷ n ∷ n ∷ count32 75 ∷ n ∷ zero32 ∷ i ∷ count32 75 ∷ [])
unfolding thd_of_spectrum power_in harmonic_power harmonics_of square_of narrowed_root narrow root whole_root root_in add mul div sum round units odd size span climb count_trailing_zeros lt of_int of_bits of_fields
unusual_bins = refl

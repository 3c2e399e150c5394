-- 01's example of a slew rate that has no star, computed from the definition. Assumes nothing.
use Rattle.std.specs.Prelude.{◌≡◌, [], ◌∷◌, map, refl, Ok}
use Rattle.std.specs.Float.{nan}
use Rattle.std.specs.Float.Ieee.{add, sub, mul, div, lt, le, of_int, of_bits}
use Rattle.laws.specs.Literals.{count32, zero32}
use Rattle.laws.specs.Samples.{higher}
use Rattle.laws.specs.Walks.{pairs}
use Rattle.number.specs.Number.{abs}
use Rattle.timing.specs.Timing.{slew_at, steepest_of, slew_of, slew_answer}

-- "Slew of 0, 3, 1 [..] At a NaN rate: 0."
pub nan_rate : slew_answer (map count32 (0 ∷ 3 ∷ 1 ∷ [])) nan ≡ Ok zero32
unfolding pairs higher slew_at steepest_of slew_of slew_answer abs add sub mul div lt le of_int of_bits
nan_rate = refl

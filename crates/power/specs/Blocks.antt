-- What the loops over a block of pairs work out. `compute_power`'s contract doesn't cite it. Definitions only.
use Rattle.std.specs.Prelude.{ℕ, ◌+◌, List, slice_index_or, Float}
use Rattle.std.specs.Float.{nan, binary64}
use Rattle.std.specs.Float.Ieee.{add, mul}
use Rattle.laws.specs.Walks.{over}
use Rattle.power.specs.declared.parts.Sums.{Sums}

-- the product of the samples at the place j behind a first place
abbrev pub product_from : List Float → List Float → ℕ → ℕ → Float
product_from x y from j = mul binary64 (slice_index_or x (from + j) nan) (slice_index_or y (from + j) nan)

-- from t, the first k products of each list added in turn
abbrev pub added : Sums → ℕ → List Float → List Float → List Float → Sums
added t k vi vv ii = record { vi = over (add binary64) t.vi vi k; vv = over (add binary64) t.vv vv k; ii = over (add binary64) t.ii ii k; count = t.count + k }

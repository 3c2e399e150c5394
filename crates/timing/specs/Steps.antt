-- The search for a larger step between neighbours. It serves that loop alone: `slew_rate`'s contract doesn't cite it. Definitions only.
use Rattle.std.specs.Prelude.{◌≡◌, ℕ, ◌-◌, ◌<◌, ◌≤◌, true, false, List, length, slice_index_or, Float}
use Rattle.std.specs.Float.{nan}
use Rattle.std.specs.Float.Ieee.{lt}
use Rattle.timing.specs.Timing.{slew_step}

-- the step to the sample at i
abbrev pub step_at : List Float → ℕ → Float
step_at xs i = slew_step (slice_index_or xs (i - 1) nan) (slice_index_or xs i nan)

-- r is the first place from `from` on whose step is above w, or the end
pub record NextAbove (xs : List Float) (w : Float) (from r : ℕ) : Type 0 where
  pub reached : from ≤ r
  pub inside : r - 1 ≤ length xs - 1
  pub none : (i : ℕ) → from ≤ i → i < r → lt w (step_at xs i) ≡ false
  pub found : r < length xs → lt w (step_at xs r) ≡ true

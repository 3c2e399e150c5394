-- The crossings that were found up to the place k lie among the places up to k. Assumes nothing.
use Rattle.std.proofs.Common.{ℕ, zero, suc, ◌-◌, ◌≤◌, Bool, true, false, cond, eqb, List, length, arith}
use lib.Ieee.{Float}
use Rattle.laws.specs.Walks.{pairs}
use Rattle.timing.specs.declared.parts.Crossings.{Crossings}
use Rattle.timing.specs.Timing.{rises_at, first_of, one_more, crossing_at, no_crossing, crossings_of}

pub record Within (k : ℕ) (s : Crossings) : Type 0 where
  pub count : s.count ≤ k
  pub order : s.first ≤ s.last
  pub place : s.last ≤ k

first_le : (s : Crossings) (k i : ℕ) → Within k s → k ≤ i → first_of s i ≤ i
unfolding first_of
first_le s k i w h = go (eqb s.count 0)
  where
    go : (b : Bool) → cond b i s.first ≤ i
    go true = omega arith
    go false = omega (arith, w.order, w.place)

step : (mean p c : Float) (s : Crossings) (k : ℕ) → Within k s → Within (suc k) (crossing_at mean s (suc k) p c)
unfolding crossing_at
step mean p c s k w = go (rises_at mean p c)
  where
    go : (b : Bool) → Within (suc k) (cond b (one_more s (suc k)) s)
    go true = record { count = omega (arith, w.count); order = first_le s k (suc k) w (omega arith); place = omega arith }
    go false = record { count = omega (arith, w.count); order = w.order; place = omega (arith, w.place) }

pub within : (mean : Float) (xs : List Float) (k : ℕ) → Within k (pairs (crossing_at mean) no_crossing xs k)
unfolding pairs
within mean xs zero = record { count = omega arith; order = omega arith; place = omega arith }
within mean xs (suc k) = step mean _ _ _ k (within mean xs k)

pub found : (mean : Float) (xs : List Float) → Within (length xs - 1) (crossings_of mean xs)
unfolding crossings_of
found mean xs = within mean xs (length xs - 1)

-- A rise and a fall have at most as many samples as were looked at. Assumes nothing.
use mathlib.Core.Bool.{Bool, true, false, cond, ◌&&◌}
use mathlib.Core.List.{List}
use Prim.Native.Nat.{ℕ, zero, suc, ◌+◌, ◌-◌, ◌≤◌}
use native.Mathlib.Omega.{arith}
use lib.Dec.{eqb}
use lib.ListN.{length}
use lib.Ieee.{Float, lt, le}
use Rattle.laws.specs.Walks.{pairs}
use Rattle.figures.specs.declared.edges.Edges.{Edges}
use Rattle.figures.specs.Edges.{rise_number, fall_number, no_edge, rise_begins, rise_counts, fall_begins, fall_counts, edge_at, edges_of}

-- at most k and at most l samples of a rise and a fall
pub record Within (k l : ℕ) (s : Edges) : Type 0 where
  pub rise : s.rise ≤ k
  pub fall : s.fall ≤ l

module _ (k l : ℕ) (s : Edges) (w : Within k l s) where
  pub rise_begins_lem : (low prev curr : Float) → Within k l (rise_begins low s prev curr)
  unfolding rise_begins
  rise_begins_lem low prev curr = go (le prev low && lt low curr)
    where
      go : (b : Bool) → Within k l (cond b (record { edge = rise_number; rise = 0; fall = s.fall }) s)
      go true = record { rise = omega arith; fall = w.fall }
      go false = w

  pub rise_counts_lem : (high curr : Float) → Within (suc k) l (rise_counts high s curr)
  unfolding rise_counts
  rise_counts_lem high curr = go (eqb s.edge rise_number && le curr high)
    where
      go : (b : Bool) → Within (suc k) l (cond b (record { edge = s.edge; rise = s.rise + 1; fall = s.fall }) s)
      go true = record { rise = omega (arith, w.rise); fall = w.fall }
      go false = record { rise = omega (arith, w.rise); fall = w.fall }

  pub fall_begins_lem : (high prev curr : Float) → Within k l (fall_begins high s prev curr)
  unfolding fall_begins
  fall_begins_lem high prev curr = go (le high prev && lt curr high)
    where
      go : (b : Bool) → Within k l (cond b (record { edge = fall_number; rise = s.rise; fall = 0 }) s)
      go true = record { rise = w.rise; fall = omega arith }
      go false = w

  pub fall_counts_lem : (low curr : Float) → Within k (suc l) (fall_counts low s curr)
  unfolding fall_counts
  fall_counts_lem low curr = go (eqb s.edge fall_number && le low curr)
    where
      go : (b : Bool) → Within k (suc l) (cond b (record { edge = s.edge; rise = s.rise; fall = s.fall + 1 }) s)
      go true = record { rise = w.rise; fall = omega (arith, w.fall) }
      go false = record { rise = w.rise; fall = omega (arith, w.fall) }

-- before the fourth test, and after it
pub three : (k l : ℕ) (low high prev curr : Float) (s : Edges) → Within k l s
    → Within (suc k) l (fall_begins high (rise_counts high (rise_begins low s prev curr) curr) prev curr)
three k l low high prev curr s w = fall_begins_lem (suc k) l _ (rise_counts_lem k l _ (rise_begins_lem k l s w low prev curr) high curr) high prev curr

four : (k : ℕ) (low high prev curr : Float) (i : ℕ) (s : Edges) → Within k k s → Within (suc k) (suc k) (edge_at low high s i prev curr)
unfolding edge_at
four k low high prev curr i s w = fall_counts_lem (suc k) k _ (three k k low high prev curr s w) low curr

module _ (low high : Float) (xs : List Float) where
  pub within : (k : ℕ) → Within k k (pairs (edge_at low high) no_edge xs k)
  unfolding pairs
  within zero = record { rise = omega arith; fall = omega arith }
  within (suc k) = four k low high _ _ _ _ (within k)

  pub edges_le : Within (length xs) (length xs) (edges_of low high xs)
  unfolding edges_of
  edges_le =
      let w = within (length xs - 1) in
      record { rise = omega (arith, w.rise); fall = omega (arith, w.fall) }

  pub rise_le : (edges_of low high xs).rise ≤ length xs
  rise_le = edges_le.rise

  pub fall_le : (edges_of low high xs).fall ≤ length xs
  fall_le = edges_le.fall

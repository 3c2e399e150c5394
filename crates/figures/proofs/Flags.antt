-- The number that the code keeps stands for the Rust's two flags: each of its four steps is the test of the definition, and so are all of them over the samples. Assumes nothing.
use Prim.Native.Nat.{ℕ, zero, suc, ◌+◌, ◌-◌}
use mathlib.Core.Path.{◌≡◌, refl, ap, ◌∙◌}
use mathlib.Core.Bool.{Bool, true, false, cond, ◌&&◌}
use mathlib.Core.List.{List}
use lib.Dec.{eqb}
use lib.ListN.{length, get_or}
use lib.Ieee.{Float, nan, lt, le}
use Rattle.laws.specs.Walks.{pairs}
use Rattle.figures.specs.declared.edges.Edges.{Edges}
use Rattle.figures.specs.Edges.{RiseFall, nothing_yet, rise_starts, rise_grows, fall_starts, fall_grows, four_tests, rise_fall_of, rise_fall_between, edge_time_of, rise_number, fall_number}
use Rattle.figures.specs.Edges.{no_edge, rise_begins, rise_counts, fall_begins, fall_counts, edge_at, edges_of, edges_between, low_threshold, high_threshold, times_of}

-- what the number says of the flags
abbrev pub flags : Edges → RiseFall
flags s = record { rising = eqb s.edge rise_number; falling = eqb s.edge fall_number; rise = s.rise; fall = s.fall }

module _ (s : Edges) where
  first : (low prev curr : Float) → flags (rise_begins low s prev curr) ≡ rise_starts low (flags s) prev curr
  unfolding rise_begins rise_starts
  first low prev curr = go (le prev low && lt low curr)
    where
      go : (b : Bool) → flags (cond b (record { edge = rise_number; rise = 0; fall = s.fall }) s) ≡ cond b (record { rising = true; falling = false; rise = 0; fall = s.fall }) (flags s)
      go true = refl
      go false = refl

  second : (high curr : Float) → flags (rise_counts high s curr) ≡ rise_grows high (flags s) curr
  unfolding rise_counts rise_grows
  second high curr = go (eqb s.edge rise_number && le curr high)
    where
      go : (b : Bool)
          → flags (cond b (record { edge = s.edge; rise = s.rise + 1; fall = s.fall }) s)
          ≡ cond b (record { rising = eqb s.edge rise_number; falling = eqb s.edge fall_number; rise = s.rise + 1; fall = s.fall }) (flags s)
      go true = refl
      go false = refl

  third : (high prev curr : Float) → flags (fall_begins high s prev curr) ≡ fall_starts high (flags s) prev curr
  unfolding fall_begins fall_starts
  third high prev curr = go (le high prev && lt curr high)
    where
      go : (b : Bool) → flags (cond b (record { edge = fall_number; rise = s.rise; fall = 0 }) s) ≡ cond b (record { rising = false; falling = true; rise = s.rise; fall = 0 }) (flags s)
      go true = refl
      go false = refl

  fourth : (low curr : Float) → flags (fall_counts low s curr) ≡ fall_grows low (flags s) curr
  unfolding fall_counts fall_grows
  fourth low curr = go (eqb s.edge fall_number && le low curr)
    where
      go : (b : Bool)
          → flags (cond b (record { edge = s.edge; rise = s.rise; fall = s.fall + 1 }) s)
          ≡ cond b (record { rising = eqb s.edge rise_number; falling = eqb s.edge fall_number; rise = s.rise; fall = s.fall + 1 }) (flags s)
      go true = refl
      go false = refl

one_sample : (low high : Float) (s : Edges) (i : ℕ) (prev curr : Float) → flags (edge_at low high s i prev curr) ≡ four_tests low high (flags s) prev curr
unfolding edge_at four_tests
one_sample low high s i prev curr =
    fourth _ low curr
    ∙ ap (λ (t : RiseFall). fall_grows low t curr)
    (third _ high prev curr ∙ ap (λ (t : RiseFall). fall_starts high t prev curr) (second _ high curr ∙ ap (λ (t : RiseFall). rise_grows high t curr) (first s low prev curr)))

module _ (low high : Float) (xs : List Float) where
  by_then : (k : ℕ) → flags (pairs (edge_at low high) no_edge xs k) ≡ pairs (λ (s : RiseFall) (i : ℕ). four_tests low high s) nothing_yet xs k
  unfolding pairs
  by_then zero = refl
  by_then (suc k) = one_sample low high (pairs (edge_at low high) no_edge xs k) (suc k) _ _ ∙ ap (λ (s : RiseFall). four_tests low high s (get_or xs k nan) (get_or xs (suc k) nan)) (by_then k)

  pub same_edges : flags (edges_of low high xs) ≡ rise_fall_of low high xs
  unfolding edges_of rise_fall_of
  same_edges = by_then (length xs - 1)

-- so its times are those of the definition
module _ (min swing : Float) (xs : List Float) (frequency : Float) where
  pub rise_time_lem : (times_of (edges_between min swing xs) frequency (length xs)).rise ≡ edge_time_of frequency (length xs) (rise_fall_between min swing xs).rise
  unfolding times_of edge_time_of
  rise_time_lem = ap (λ (s : RiseFall). edge_time_of frequency (length xs) s.rise) (same_edges (low_threshold min swing) (high_threshold min swing) xs)

  pub fall_time_lem : (times_of (edges_between min swing xs) frequency (length xs)).fall ≡ edge_time_of frequency (length xs) (rise_fall_between min swing xs).fall
  unfolding times_of edge_time_of
  fall_time_lem = ap (λ (s : RiseFall). edge_time_of frequency (length xs) s.fall) (same_edges (low_threshold min swing) (high_threshold min swing) xs)

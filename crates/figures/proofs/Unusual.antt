-- What samples that are no numbers do to the figures, from the definitions: one NaN among any samples, and nothing but NaN. Assumes nothing.
-- (What one infinity does is computed in specs/Shown.antt.)
use Prim.Native.Nat.{ℕ, zero, suc, ◌+◌, ◌-◌, ◌<◌}
use native.Mathlib.Nat.{zero-lt-suc}
use native.Mathlib.Omega.{arith}
use mathlib.Core.Path.{◌≡◌, refl, sym, ap, ◌∙◌}
use mathlib.Core.Bool.{Bool, true, false, cond, ◌&&◌}
use mathlib.Core.List.{List, [], ◌∷◌, ◌++◌}
use lib.ListN.{length, get_or}
use lib.Ieee.{Float, nan, inf, binary32, add, sub, mul, div, neg, lt, le, of_bits}
use Rattle.generator.specs.declared.Wave.{Wave}
use Rattle.generator.specs.declared.Wave.TheVariants.{DC, PWM, Triangular, Sawtooth}
use Rattle.laws.specs.Literals.{zero32, zero64, count32}
use Rattle.laws.specs.Quotients.{ratio_or_zero}
use Rattle.laws.specs.Samples.{higher, lower, square_of}
use Rattle.laws.specs.Walks.{over, pairs}
use Rattle.laws.specs.HowMany.{counting, how_many}
use Rattle.laws.proofs.Turn.{over_front}
use Rattle.laws.proofs.NotNumber.{sub_nan, nan_sub, lt_nan, nan_lt, le_nan, nan_le}
use Rattle.number.specs.Number.{narrow, root, abs}
use Rattle.timing.specs.Timing.{total_of, narrowed_mean, rises_at, crossing_at, no_crossing, crossings_of, frequency_from, frequency_about, slew_at, steepest_of, slew_of}
use Rattle.figures.specs.Levels.{max_of, min_of, adding, sum_of, away, average_of, rectified_of, dc_rms_of, ac_rms_of}
use Rattle.figures.specs.Duty.{millionth, near, is_high, highs_of}
use Rattle.figures.specs.Edges.{RiseFall, nothing_yet, rise_starts, rise_grows, fall_starts, fall_grows, four_tests, rise_fall_of}
use Rattle.figures.specs.Ratios.{crest_of, period_of, excess_of}
use Rattle.figures.proofs.NanSums.{by_then}
use Rattle.figures.specs.Figures.{peak_to_peak_of, positive_peak_of, negative_peak_of, crest_factor_of, form_factor_of, hertz_of, slew_rate_of, overshoot_of, undershoot_of}

and_false : (b : Bool) → (b && false) ≡ false
and_false true = refl
and_false false = refl

-- ---- a walk over the samples, from the front
module _ {A : Type 0} (f : A → Float → A) where
  -- a step that takes no notice of a NaN: the walk is that of the other samples
  pub left_out : ((a : A) → f a nan ≡ a) → (a : A) (xs ys : List Float) → over f a (xs ++ nan ∷ ys) (length (xs ++ nan ∷ ys)) ≡ over f a (xs ++ ys) (length (xs ++ ys))
  left_out h a [] ys = over_front f a nan ys (length ys) ∙ ap (λ (t : A). over f t ys (length ys)) (h a)
  left_out h a (x ∷ xs) ys = over_front f a x (xs ++ nan ∷ ys) _ ∙ (left_out h (f a x) xs ys ∙ sym (over_front f a x (xs ++ ys) _))

-- ---- one NaN among any samples: xs before it, ys after it
abbrev pub with_nan : List Float → List Float → List Float
with_nan xs ys = xs ++ nan ∷ ys

nan_at : (xs ys : List Float) → get_or (with_nan xs ys) (length xs) nan ≡ nan
nan_at [] ys = refl
nan_at (x ∷ xs) ys = nan_at xs ys

nan_inside : (xs ys : List Float) → length xs < length (with_nan xs ys)
nan_inside [] ys = zero-lt-suc (length ys)
nan_inside (x ∷ xs) ys = grown (nan_inside xs ys)
  where
    grown : {a b : ℕ} → a < b → suc a < suc b
    grown h = omega arith

-- an f64 sum that meets it is a NaN
sum_nan : (f : Float → Float) → f nan ≡ nan → (xs ys : List Float) → over (adding f) zero64 (with_nan xs ys) (length (with_nan xs ys)) ≡ nan
sum_nan f h xs ys = by_then f (with_nan xs ys) (length xs) (ap f (nan_at xs ys) ∙ h) (length (with_nan xs ys)) (nan_inside xs ys)

module _ (xs ys : List Float) where
  -- extremes, and the count of high samples, are those of the others
  pub nan_max : max_of (with_nan xs ys) ≡ max_of (xs ++ ys)
  unfolding max_of higher
  nan_max = left_out higher (λ (m : Float). ap (λ (b : Bool). cond b nan m) (lt_nan m)) (inf true) xs ys

  pub nan_min : min_of (with_nan xs ys) ≡ min_of (xs ++ ys)
  unfolding min_of lower
  nan_min = left_out lower (λ (m : Float). ap (λ (b : Bool). cond b nan m) (nan_lt m)) (inf false) xs ys

  not_high : (wave : Wave) (amplitude : Float) → is_high wave amplitude nan ≡ false
  unfolding near abs
  not_high DC amplitude = lt_nan zero32
  not_high PWM amplitude = ap (λ (x : Float). lt (abs x) millionth) (nan_sub binary32 amplitude) ∙ nan_lt millionth
  not_high Triangular amplitude = lt_nan zero32
  not_high Sawtooth amplitude = lt_nan zero32

  pub nan_highs : (wave : Wave) (amplitude : Float) → highs_of wave amplitude (with_nan xs ys) ≡ highs_of wave amplitude (xs ++ ys)
  unfolding highs_of how_many
  nan_highs wave amplitude = left_out (counting (is_high wave amplitude)) (λ (n : ℕ). ap (λ (b : Bool). cond b (n + 1) n) (not_high wave amplitude)) 0 xs ys

  -- the means and RMS values are NaN
  pub nan_average : average_of (with_nan xs ys) ≡ nan
  unfolding average_of total_of narrowed_mean div narrow
  nan_average = ap (λ (t : Float). narrowed_mean t (length (with_nan xs ys))) (sum_nan (λ (x : Float). x) refl xs ys)

  mean_nan : (f : Float → Float) → f nan ≡ nan → narrowed_mean (sum_of f (with_nan xs ys)) (length (with_nan xs ys)) ≡ nan
  unfolding sum_of narrowed_mean div narrow
  mean_nan f h = ap (λ (t : Float). narrowed_mean t (length (with_nan xs ys))) (sum_nan f h xs ys)

  square_nan : square_of nan ≡ nan
  unfolding square_of mul
  square_nan = refl

  pub nan_dc_rms : dc_rms_of (with_nan xs ys) ≡ nan
  unfolding dc_rms_of root
  nan_dc_rms = ap (root binary32) (mean_nan square_of square_nan)

  pub nan_ac_rms : ac_rms_of (with_nan xs ys) ≡ nan
  unfolding ac_rms_of root
  nan_ac_rms = ap (root binary32) (mean_nan (away (average_of (with_nan xs ys))) (ap square_of (nan_sub binary32 _) ∙ square_nan))

  pub nan_rectified : rectified_of (with_nan xs ys) ≡ nan
  unfolding rectified_of abs
  nan_rectified = mean_nan abs refl

  pub nan_positive_peak : positive_peak_of (with_nan xs ys) ≡ nan
  nan_positive_peak = rw nan_average (sub_nan binary32 _)

  pub nan_negative_peak : negative_peak_of (with_nan xs ys) ≡ nan
  nan_negative_peak = rw nan_average (nan_sub binary32 _)

  -- what is divided by one of them, or counts crossings of one, is 0
  pub nan_crest : crest_factor_of (with_nan xs ys) ≡ zero32
  unfolding crest_of ratio_or_zero
  nan_crest = rw (nan_dc_rms, lt_nan)

  pub nan_form : form_factor_of (with_nan xs ys) ≡ zero32
  unfolding ratio_or_zero
  nan_form = rw (nan_rectified, lt_nan)

  no_crossing_lem : (zs : List Float) (k : ℕ) → pairs (crossing_at nan) no_crossing zs k ≡ no_crossing
  unfolding pairs crossing_at rises_at
  no_crossing_lem zs zero = refl
  no_crossing_lem zs (suc k) = rw (sub_nan, nan_lt) (no_crossing_lem zs k)

  pub nan_hertz : hertz_of (with_nan xs ys) ≡ zero32
  unfolding frequency_about crossings_of frequency_from
  nan_hertz = rw (nan_average, no_crossing_lem)

  pub nan_period : period_of (hertz_of (with_nan xs ys)) ≡ zero32
  unfolding period_of lt of_bits
  nan_period = rw nan_hertz

-- a step into a NaN neither begins an edge nor counts for one, and is no slew; a step out of one begins no edge, and is no slew
pub edge_into : (low high : Float) (s : RiseFall) (prev : Float) → four_tests low high s prev nan ≡ s
unfolding four_tests rise_starts rise_grows fall_starts fall_grows
edge_into low high s prev = simp (lt_nan, nan_lt, le_nan, nan_le, and_false)

pub rise_out : (low : Float) (s : RiseFall) (curr : Float) → rise_starts low s nan curr ≡ s
unfolding rise_starts
rise_out low s curr = rw nan_le

pub fall_out : (high : Float) (s : RiseFall) (curr : Float) → fall_starts high s nan curr ≡ s
unfolding fall_starts
fall_out high s curr = rw le_nan

pub slew_into : (dt m : Float) (i : ℕ) (prev : Float) → slew_at dt m i prev nan ≡ m
unfolding slew_at higher abs div
slew_into dt m i prev = rw (nan_sub, lt_nan)

pub slew_out : (dt m : Float) (i : ℕ) (curr : Float) → slew_at dt m i nan curr ≡ m
unfolding slew_at higher abs div
slew_out dt m i curr = rw (sub_nan, lt_nan)

-- ---- nothing but NaN, which is one NaN after no samples and before NaN: so what is said above holds here too
abbrev pub nans : ℕ → List Float
nans zero = []
nans (suc n) = nan ∷ nans n

nans_at : (n k : ℕ) → get_or (nans n) k nan ≡ nan
nans_at zero k = refl
nans_at (suc n) zero = refl
nans_at (suc n) (suc k) = nans_at n k

pub nans_max : (n : ℕ) → max_of (nans n) ≡ inf true
unfolding max_of over
nans_max zero = refl
nans_max (suc n) = nan_max [] (nans n) ∙ nans_max n

pub nans_min : (n : ℕ) → min_of (nans n) ≡ inf false
unfolding min_of over
nans_min zero = refl
nans_min (suc n) = nan_min [] (nans n) ∙ nans_min n

pub nans_highs : (wave : Wave) (amplitude : Float) (n : ℕ) → highs_of wave amplitude (nans n) ≡ 0
unfolding highs_of how_many over
nans_highs wave amplitude zero = refl
nans_highs wave amplitude (suc n) = nan_highs [] (nans n) wave amplitude ∙ nans_highs wave amplitude n

pub nans_swing : (n : ℕ) → peak_to_peak_of (nans n) ≡ inf true
unfolding sub add neg
nans_swing n = rw (nans_max n, nans_min n)

pub nans_overshoot : (amplitude : Float) (n : ℕ) → overshoot_of amplitude (nans n) ≡ zero32
unfolding excess_of lt of_bits
nans_overshoot amplitude n = rw (nans_swing n)

pub nans_undershoot : (amplitude : Float) (n : ℕ) → undershoot_of amplitude (nans n) ≡ zero32
unfolding excess_of lt of_bits
nans_undershoot amplitude n = rw (nans_swing n)

pub nans_edges : (low high : Float) (n : ℕ) → rise_fall_of low high (nans n) ≡ nothing_yet
unfolding rise_fall_of pairs
nans_edges low high n = none (length (nans n) - 1)
  where
    none : (k : ℕ) → pairs (λ (s : RiseFall) (i : ℕ). four_tests low high s) nothing_yet (nans n) k ≡ nothing_yet
    none zero = refl
    none (suc k) = rw (nans_at n (suc k), edge_into) (none k)

nans_steepest : (dt : Float) (n : ℕ) → steepest_of dt (nans n) ≡ zero32
unfolding steepest_of pairs
nans_steepest dt n = none (length (nans n) - 1)
  where
    none : (k : ℕ) → pairs (slew_at dt) zero32 (nans n) k ≡ zero32
    none zero = refl
    none (suc k) = rw (nans_at n (suc k), slew_into) (none k)

pub nans_slew : (n : ℕ) → slew_rate_of (nans n) ≡ zero32
unfolding slew_of
nans_slew n = rw nans_steepest (either (le (count32 (length (nans n))) zero32))
  where
    either : (b : Bool) → cond b zero32 zero32 ≡ zero32
    either true = refl
    either false = refl

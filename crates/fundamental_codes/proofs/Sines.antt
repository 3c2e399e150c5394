-- The sine and the cosine of a step are whole numbers over 2^30, of size at most 1. Assumes nothing.
use mathlib.Core.Bool.{Bool}
use Prim.Native.Nat.{ℕ, zero, suc, ◌+◌, ◌-◌, ◌/◌, ◌%◌, ◌^◌, ◌≤◌}
use native.Mathlib.Nat.{le_trans, le_of_eq}
use native.Mathlib.Omega.{arith}
use lib.Dec.{T, leb, leb→le}
use lib.IntN.{pos, nat_abs}
use lib.Ieee.{Float}
use Rattle.laws.proofs.Signs.{size_neg}
use Rattle.laws.proofs.Tested.{all_below, at}
use Rattle.laws.proofs.Over.{Over, over_of_value, neg_over}
use Rattle.laws.proofs.Bounded.{Bounded, over_bounded}
use Rattle.quarter.specs.Table.{quarter_table}
use Rattle.quarter.specs.Wave.{t}
use Rattle.quarter.specs.Turn.{fraction, quadrant, sine_of, cosine_of}
use Rattle.quarter.proofs.Fraction.{entry_exact}
use Rattle.fundamental_codes.specs.Exact.{by_quadrant, whole_sine, whole_cosine}

entry_over : (j : ℕ) → j ≤ 1024 → Over 30 (fraction (t j)) (pos (t j))
entry_over j h = over_of_value 30 (fraction (t j)) _ (t j) (entry_exact j h)

quadrant_over : (q a b : ℕ) (x y : Float) → Over 30 x (pos a) → Over 30 y (pos b) → Over 30 (quadrant q x y) (by_quadrant q a b)
unfolding quadrant by_quadrant
quadrant_over zero a b x y o u = o
quadrant_over (suc zero) a b x y o u = u
quadrant_over (suc (suc zero)) a b x y o u = neg_over 30 x (pos a) o
quadrant_over (suc (suc (suc q))) a b x y o u = neg_over 30 y (pos b) u

pub sine_over : (s : ℕ) → Over 30 (sine_of s) (whole_sine s)
unfolding sine_of whole_sine
sine_over s =
    let r = s % 1024 in
    quadrant_over (s / 1024) (t r) (t (1024 - r)) (fraction (t r)) (fraction (t (1024 - r))) (entry_over r (omega arith)) (entry_over (1024 - r) (omega arith))

pub cosine_over : (s : ℕ) → Over 30 (cosine_of s) (whole_cosine s)
unfolding cosine_of whole_cosine
cosine_over s = sine_over ((s + 1024) % 4096)

-- ---- none is above 1
small : ℕ → Bool
small j = leb (t j) (2 ^ 30)

all_small : T (all_below small 1025)
unfolding quarter_table small
all_small = tt

entry_small : (j : ℕ) → j ≤ 1024 → t j ≤ 2 ^ 30
unfolding small
entry_small j h = leb→le (t j) (2 ^ 30) (at small 1025 all_small j (omega arith))

quadrant_small : (q a b : ℕ) → a ≤ 2 ^ 30 → b ≤ 2 ^ 30 → nat_abs (by_quadrant q a b) ≤ 2 ^ 30
unfolding by_quadrant
quadrant_small zero a b h l = h
quadrant_small (suc zero) a b h l = l
quadrant_small (suc (suc zero)) a b h l = le_trans (le_of_eq (size_neg (pos a))) h
quadrant_small (suc (suc (suc q))) a b h l = le_trans (le_of_eq (size_neg (pos b))) l

pub sine_small : (s : ℕ) → nat_abs (whole_sine s) ≤ 2 ^ 30
unfolding whole_sine
sine_small s = let r = s % 1024 in quadrant_small (s / 1024) (t r) (t (1024 - r)) (entry_small r (omega arith)) (entry_small (1024 - r) (omega arith))

pub cosine_small : (s : ℕ) → nat_abs (whole_cosine s) ≤ 2 ^ 30
unfolding whole_cosine
cosine_small s = sine_small ((s + 1024) % 4096)

pub sine_bounded : (s : ℕ) → Bounded 1 (sine_of s)
sine_bounded s = over_bounded 30 (sine_of s) (whole_sine s) 1 (sine_over s) (sine_small s)

pub cosine_bounded : (s : ℕ) → Bounded 1 (cosine_of s)
cosine_bounded s = over_bounded 30 (cosine_of s) (whole_cosine s) 1 (cosine_over s) (cosine_small s)

-- A NaN anywhere in a capture makes p and s NaN, and nonactive and pf 0. Assumes nothing.
use Rattle.std.proofs.Common.{◌≡◌, ℕ, zero, suc, Bool, true, false, not, ◌&&◌, T, List, length, get_or, refl, subst}
use lib.Ieee.{Float, nan, binary32, binary64, is_nan, add, sub, mul, div, lt, of_bits}
use Rattle.laws.specs.Quotients.{ratio_or_zero}
use Rattle.laws.specs.Walks.{over}
use Rattle.laws.specs.Samples.{still_numbers, numbers_in, all_numbers}
use Rattle.laws.proofs.NotNumber.{tested_nan, add_nan, nan_add, mul_nan, nan_mul}
use Rattle.number.specs.Number.{narrow, root, narrowed_root}
use Rattle.power.specs.Power.{sum_to, capture_sums, mean64, active_of, apparent_of, above_zero, nonactive_of, record_with, record_of, nan_power}

-- ---- in a sum: of x with any other samples, on either side
pub sum_nan : (x y : List Float) (n : ℕ) → over still_numbers true x n ≡ false → (sum_to x y n ≡ nan) × (sum_to y x n ≡ nan)
unfolding over still_numbers sum_to
sum_nan x y zero e = absurd (subst T e tt)
sum_nan x y (suc n) e = go (over still_numbers true x n) (sum_to x y n) (sum_to y x n) (get_or x n nan) (get_or y n nan) e (λ h. sum_nan x y n h)
  where
    go : (t : Bool) (a b u w : Float) → (t && not (is_nan u)) ≡ false → (t ≡ false → (a ≡ nan) × (b ≡ nan)) → (add binary64 a (mul binary64 u w) ≡ nan) × (add binary64 b (mul binary64 w u) ≡ nan)
    go false a b u w e h = let p = h refl in (rw p.0 (nan_add binary64 _), rw p.1 (nan_add binary64 _))
    go true a b u w e h = let q = tested_nan u e in (rw (q, nan_mul binary64 w) (add_nan binary64 a), rw (q, mul_nan binary64 w) (add_nan binary64 b))

-- ---- in the record
both_nan : record_with nan nan ≡ nan_power
unfolding nonactive_of narrowed_root above_zero ratio_or_zero narrow root mul sub add lt of_bits
both_nan = refl

root_nan : (n : ℕ) → narrowed_root (mean64 nan n) ≡ nan
unfolding narrowed_root mean64 narrow root div
root_nan n = refl

mean_nan : (n : ℕ) → narrow (mean64 nan n) ≡ nan
unfolding mean64 narrow div
mean_nan n = refl

pub nan_voltage : (v i : List Float) → all_numbers v ≡ false → record_of (capture_sums v i (length v)) ≡ nan_power
unfolding all_numbers numbers_in record_of active_of apparent_of
nan_voltage v i e =
    rw ((sum_nan v i (length v) e).0, (sum_nan v v (length v) e).0, mean_nan (length v), root_nan (length v), nan_mul binary32 (narrowed_root (mean64 (sum_to i i (length v)) (length v)))) both_nan

pub nan_current : (v i : List Float) → length v ≡ length i → all_numbers i ≡ false → record_of (capture_sums v i (length v)) ≡ nan_power
unfolding all_numbers numbers_in record_of active_of apparent_of
nan_current v i l e =
    rw (l, (sum_nan i v (length i) e).1, (sum_nan i i (length i) e).0, mean_nan (length i), root_nan (length i), mul_nan binary32 (narrowed_root (mean64 (sum_to v v (length i)) (length i)))) both_nan

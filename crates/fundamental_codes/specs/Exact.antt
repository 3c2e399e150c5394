-- Exact arithmetic over whole codes and the table's sines, which the signs of the figures are held against. Definitions only.
use Rattle.std.specs.Prelude.{ℕ, zero, suc, ◌+◌, ◌-◌, ◌/◌, ◌%◌, ℤ, pos, neg_ℤ, nat_abs, ◌+ℤ◌, ◌-ℤ◌, ◌*ℤ◌}
use Rattle.laws.specs.Products.{products}
use Rattle.quarter.specs.Wave.{t}
use Rattle.spectrum.specs.Bin.{angle_of}

-- ---- 01, "sine and cosine come from the table by quadrant, divided by 2^30": the same before that division, for steps from 0 to 4095

unfoldable pub by_quadrant : ℕ → ℕ → ℕ → ℤ
by_quadrant zero rising falling = pos rising
by_quadrant (suc zero) rising falling = pos falling
by_quadrant (suc (suc zero)) rising falling = neg_ℤ (pos rising)
by_quadrant (suc (suc (suc q))) rising falling = neg_ℤ (pos falling)

unfoldable pub whole_sine : ℕ → ℤ
whole_sine s = by_quadrant (s / 1024) (t (s % 1024)) (t (1024 - s % 1024))

unfoldable pub whole_cosine : ℕ → ℤ
whole_cosine s = whole_sine ((s + 1024) % 4096)

-- ---- 02, c: "With real and imaginary sums a, b of voltage and c, d of current, taken as in 01": 2^30 times the sums of bin k over n codes

unfoldable pub real_sum : (ℕ → ℤ) → ℕ → ℕ → ℤ
real_sum x n k = products x (λ (j : ℕ). whole_cosine (angle_of n k j)) n

unfoldable pub imag_sum : (ℕ → ℤ) → ℕ → ℕ → ℤ
imag_sum x n k = neg_ℤ (products x (λ (j : ℕ). whole_sine (angle_of n k j)) n)

-- 02, c, "2(ac + bd)/n² and 2(bc - ad)/n²": 2^60 times ac + bd and bc - ad, x being the codes of the voltage and y those of the current
unfoldable pub exact_active : (ℕ → ℤ) → (ℕ → ℤ) → ℕ → ℕ → ℤ
exact_active x y n k = real_sum x n k *ℤ real_sum y n k +ℤ imag_sum x n k *ℤ imag_sum y n k

unfoldable pub exact_reactive : (ℕ → ℤ) → (ℕ → ℤ) → ℕ → ℕ → ℤ
exact_reactive x y n k = imag_sum x n k *ℤ real_sum y n k -ℤ real_sum x n k *ℤ imag_sum y n k

-- the sizes of the two products, added up
unfoldable pub active_size : (ℕ → ℤ) → (ℕ → ℤ) → ℕ → ℕ → ℕ
active_size x y n k = nat_abs (real_sum x n k *ℤ real_sum y n k) + nat_abs (imag_sum x n k *ℤ imag_sum y n k)

unfoldable pub reactive_size : (ℕ → ℤ) → (ℕ → ℤ) → ℕ → ℕ → ℕ
reactive_size x y n k = nat_abs (imag_sum x n k *ℤ real_sum y n k) + nat_abs (real_sum x n k *ℤ imag_sum y n k)

-- the sizes of the first n codes, added up
unfoldable pub sizes : (ℕ → ℤ) → ℕ → ℕ
sizes x zero = 0
sizes x (suc n) = sizes x n + nat_abs (x n)

-- The rules that the quarter wave's table keeps, over whole numbers alone. Definitions only.
use Rattle.std.specs.Prelude.{◌≡◌, ℕ, ◌+◌, ◌-◌, ◌*◌, ◌^◌, ◌<◌, ◌≤◌, length, get_or}
use Rattle.laws.specs.Whole.{gap}
use Rattle.quarter.specs.Table.{quarter_table}

-- t(j), for j from 0 to 1024
abbrev pub t : ℕ → ℕ
t j = get_or quarter_table j 0

-- 01, "Proved once over the whole table". In the last, what 01 subtracts stands on the other side: 2^30·(2t(j) - t(j-1) - t(j+1)) against 2527·t(j)
pub record Rules : Type 0 where
  pub entries : length quarter_table ≡ 1025
  pub first : t 0 ≡ 0
  pub middle : t 512 ≡ 759250125
  pub last : t 1024 ≡ 2 ^ 30
  pub rises : (j : ℕ) → j < 1024 → t j < t (j + 1)
  pub circle : (j : ℕ) → j ≤ 1024 → gap (t j * t j + t (1024 - j) * t (1024 - j)) (2 ^ 60) ≤ 2 ^ 31
  pub bends : (j : ℕ) → 1 ≤ j → j ≤ 1023 → gap (2 ^ 30 * (2 * t j)) (2 ^ 30 * (t (j - 1) + t (j + 1)) + 2527 * t j) ≤ 3 * 2 ^ 30

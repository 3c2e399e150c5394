-- The rules of the quarter wave's table: one test, computed at each entry, and the law `at` that carries it to the entry. Assumes nothing.
use mathlib.Core.Path.{◌≡◌, refl}
use mathlib.Core.Bool.{Bool, true, ◌&&◌}
use Prim.Native.Nat.{ℕ, ◌+◌, ◌-◌, ◌*◌, ◌^◌, ◌<◌, ◌≤◌}
use lib.Dec.{T, leb, ltb, leb→le, ltb→lt}
use lib.ListN.{length}
use native.Mathlib.Omega.{arith}
use borrow.Author.Tests.{lt-ltb, le-leb}
use Rattle.laws.specs.Whole.{gap}
use Rattle.laws.proofs.Tested.{both_left, both_right, asked, asked_at, all_below, at}
use Rattle.quarter.specs.Table.{quarter_table}
use Rattle.quarter.specs.Wave.{t, Rules}

-- the three tests at the place j
abbrev rise : ℕ → Bool
rise j = asked (ltb j 1024) (ltb (t j) (t (j + 1)))

abbrev circles : ℕ → Bool
circles j = leb (gap (t j * t j + t (1024 - j) * t (1024 - j)) (2 ^ 60)) (2 ^ 31)

abbrev bend : ℕ → Bool
bend j = asked (leb 1 j && leb j 1023) (leb (gap (2 ^ 30 * (2 * t j)) (2 ^ 30 * (t (j - 1) + t (j + 1)) + 2527 * t j)) (3 * 2 ^ 30))

right : ℕ → Bool
right j = rise j && (circles j && bend j)

passes : T (all_below right 1025)
unfolding quarter_table right
passes = tt

right_at : (j : ℕ) → j ≤ 1024 → T (right j)
right_at j h = at right 1025 passes j (omega arith)

entries : length quarter_table ≡ 1025
unfolding quarter_table
entries = refl

first : t 0 ≡ 0
unfolding quarter_table
first = refl

middle : t 512 ≡ 759250125
unfolding quarter_table
middle = refl

last : t 1024 ≡ 2 ^ 30
unfolding quarter_table
last = refl

rises : (j : ℕ) → j < 1024 → t j < t (j + 1)
unfolding right
rises j h =
    ltb→lt (t j) (t (j + 1))
    (asked_at (ltb j 1024) (ltb (t j) (t (j + 1))) (lt-ltb j 1024 h)
    (both_left (rise j) (circles j && bend j) (right_at j (omega arith))))

circle : (j : ℕ) → j ≤ 1024 → gap (t j * t j + t (1024 - j) * t (1024 - j)) (2 ^ 60) ≤ 2 ^ 31
unfolding right
circle j h =
    leb→le (gap (t j * t j + t (1024 - j) * t (1024 - j)) (2 ^ 60)) (2 ^ 31)
    (both_left (circles j) (bend j) (both_right (rise j) (circles j && bend j) (right_at j h)))

inside : (j : ℕ) → 1 ≤ j → j ≤ 1023 → (leb 1 j && leb j 1023) ≡ true
inside j l h = rw (le-leb 1 j l, le-leb j 1023 h)

bends : (j : ℕ) → 1 ≤ j → j ≤ 1023 → gap (2 ^ 30 * (2 * t j)) (2 ^ 30 * (t (j - 1) + t (j + 1)) + 2527 * t j) ≤ 3 * 2 ^ 30
unfolding right
bends j l h =
    let a = gap (2 ^ 30 * (2 * t j)) (2 ^ 30 * (t (j - 1) + t (j + 1)) + 2527 * t j) in
    leb→le a (3 * 2 ^ 30)
    (asked_at (leb 1 j && leb j 1023) (leb a (3 * 2 ^ 30)) (inside j l h)
    (both_right (circles j) (bend j) (both_right (rise j) (circles j && bend j) (right_at j (omega arith)))))

pub rules : Rules
rules = record { entries = entries; first = first; middle = middle; last = last; rises = rises; circle = circle; bends = bends }

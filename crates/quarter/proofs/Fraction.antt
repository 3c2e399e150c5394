-- An entry over 2^30: as an f64 times 2^-30 it is n / 2^30 rounded once, since the product is exact before it is rounded; and nothing is lost by rounding. Assumes nothing.
use mathlib.Core.Path.{◌≡◌, sym, ap, ◌∙◌}
use mathlib.Core.Bool.{Bool, false}
use Prim.Native.Nat.{ℕ, ◌*◌, ◌^◌, ◌≤◌, ◌<◌}
use native.Mathlib.Nat.{mul_assoc, mul-pos, lt_of_lt_of_le}
use lib.IntN.{pos, negsuc}
use lib.Dec.{T, ltb, ltb→lt, lit<, lit≤}
use lib.Pow.{pow-add, shl_lt}
use lib.Ieee.{Float, nan, inf, fin, binary64, up, down, round, mul, of_int, unlike}
use lib.Ieee.Fits.{down_pos}
use lib.Ieee.Exact.{HasValue, round_exact}
use lib.Ieee.Back.{round_whole}
use lib.Ieee.Scale.{round_same}
use native.Mathlib.Omega.{arith}
use Rattle.laws.proofs.Tested.{all_below, at}
use Rattle.quarter.specs.Table.{quarter_table}
use Rattle.quarter.specs.Wave.{t}
use Rattle.quarter.specs.Turn.{fraction}

scaled : (x : Float) (n : ℕ) → HasValue x false n 1 → mul binary64 x (fin false 1 (negsuc 29)) ≡ round binary64 false n (2 ^ 30)
unfolding mul
scaled nan n h = absurd h
scaled (inf s) n h = absurd h
scaled (fin s m e) n h =
    ap (λ (b : Bool). round binary64 (unlike b false) (m * up e * 1) (down e * 2 ^ 30)) h.0
    ∙ round_same binary64 false (m * up e * 1) (down e * 2 ^ 30) n (2 ^ 30) (mul-pos (down_pos e) (lit< tt)) (lit< tt)
    (ap (λ (a : ℕ). a * 2 ^ 30) h.1 ∙ mul_assoc n (down e) (2 ^ 30))

pub times : (n : ℕ) → n ≤ 2 ^ 53 → mul binary64 (of_int binary64 (pos n)) (fin false 1 (negsuc 29)) ≡ fraction n
unfolding of_int fraction
times n h = scaled (round binary64 false n 1) n (round_whole binary64 false n h)

-- the division by 2^30 is exact
exact : (n : ℕ) → n < 2 ^ 53 → HasValue (fraction n) false n (2 ^ 30)
unfolding fraction
exact n h =
    round_exact binary64 false n (2 ^ 30) n 1044 (lit< tt) h
    (lt_of_lt_of_le (shl_lt 53 1044 h) (lit≤ tt))
    (ap (λ (x : ℕ). n * x) (pow-add 2 1044 30) ∙ sym (mul_assoc n (2 ^ 1044) (2 ^ 30)))

small : ℕ → Bool
small j = ltb (t j) (2 ^ 53)

all_small : T (all_below small 1025)
unfolding quarter_table small
all_small = tt

-- so the fraction of each entry is the entry over 2^30, and no other number
pub entry_exact : (j : ℕ) → j ≤ 1024 → HasValue (fraction (t j)) false (t j) (2 ^ 30)
unfolding small
entry_exact j h = exact (t j) (ltb→lt (t j) (2 ^ 53) (at small 1025 all_small j (omega arith)))

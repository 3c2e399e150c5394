-- A block's products, added to the sums before it, give the sums behind it. Assumes nothing.
use Rattle.std.proofs.Common.{◌≡◌, ℕ, zero, suc, ◌+◌, ◌≤◌, List, length, get_or, refl, ap, ◌∙◌, arith}
use lib.Ieee.{Float, nan, binary64, add, mul}
use Rattle.laws.specs.Walks.{over}
use Rattle.laws.specs.Filled.{filled}
use Rattle.laws.proofs.Filling.{filled_at, filled_length}
use Rattle.power.specs.declared.parts.Sums.{Sums}
use Rattle.power.specs.Power.{sum_to, capture_sums}
use Rattle.power.specs.Blocks.{product_from, added}

next : (x y : List Float) (j : ℕ) → add binary64 (sum_to x y j) (mul binary64 (get_or x j nan) (get_or y j nan)) ≡ sum_to x y (suc j)
unfolding sum_to
next x y j = refl

block_sum : (x y : List Float) (from m : ℕ) (out : List Float) (k : ℕ) → k ≤ m → m ≤ length out
    → over (add binary64) (sum_to x y from) (filled (product_from x y from) m out) k ≡ sum_to x y (from + k)
unfolding over
block_sum x y from m out zero h l = let e : from ≡ from + 0 = omega arith in ap (sum_to x y) e
block_sum x y from m out (suc k) h l =
    let e : suc (from + k) ≡ from + suc k = omega arith in
    rw (block_sum x y from m out k (omega arith) l, filled_at (product_from x y from) m out nan k (omega arith) (omega arith)) (next x y (from + k) ∙ ap (sum_to x y) e)

-- the three sums behind a block of m pairs, whose products were put into buffers
pub block_sums : (v i : List Float) (from m : ℕ) (a b c a₁ b₁ c₁ : List Float) {t r : Sums} → m ≤ length a → m ≤ length b → m ≤ length c → t ≡ capture_sums v i from
    → a₁ ≡ filled (product_from v i from) m a → b₁ ≡ filled (product_from v v from) m b → c₁ ≡ filled (product_from i i from) m c → r ≡ added t m a₁ b₁ c₁ → r ≡ capture_sums v i (from + m)
block_sums v i from m a b c a₁ b₁ c₁ p q s e x y z h =
    rw (h, e, x, y, z, block_sum v i from m a m (omega arith) p, block_sum v v from m b m (omega arith) q, block_sum i i from m c m (omega arith) s)

-- a buffer keeps its length
pub kept : (f : ℕ → Float) (m n : ℕ) (a a₁ : List Float) → a₁ ≡ filled f m a → length a ≡ n → length a₁ ≡ n
kept f m n a a₁ e h = ap length e ∙ filled_length f m a ∙ h

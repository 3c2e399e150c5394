-- The power factor where s is above 1e-12: its square against W² / V I. Assumes nothing.
use mathlib.Core.Path.{◌≡◌, refl, ap, ◌∙◌, subst}
use mathlib.Core.Bool.{Bool, true, false, true≢false}
use Prim.Native.Nat.{ℕ, ◌+◌, ◌-◌, ◌*◌, ◌^◌, ◌≤◌, ◌<◌}
use native.Mathlib.Nat.{mul_assoc, mul-mul-mul_comm, mul-pos}
use native.Mathlib.Omega.{arith}
use borrow.Author.Tests.{lt-ltb}
use lib.Dec.{lit≤, lit<}
use lib.IntN.{negsuc}
use lib.Ieee.{Float, nan, inf, fin, binary32, up, down, unlike, div, lt, of_bits}
use lib.Ieee.Positive.{num, den, den_pos}
use Rattle.laws.specs.Literals.{tiny32}
use Rattle.laws.proofs.Ratio.{after, times, squared, flipped, weaken, respell, renamed}
use Rattle.laws.proofs.Size.{size_pos, size_over, size_near, Signed, SizeOf, div_close}
use Rattle.accuracy.proofs.Figures.{Found, FoundSquare, p_l, p_h, p_k}

pub tiny_is : tiny32 ≡ fin false 2305843 (negsuc 60)
unfolding of_bits
tiny_is = refl

small : (a c : ℕ) → 0 < a → c ≤ a * 2 ^ 23 → 2305843 * c < a * 2 ^ 61
small a c p l = omega arith

above_number : (s : Float) (B : ℕ) → Signed s false → SizeOf s (2 ^ 23) B → lt (fin false 2305843 (negsuc 60)) s ≡ true
unfolding lt
above_number nan B h z = absurd h
above_number (inf t) B h z = absurd h
above_number (fin true n d) B h z = absurd (true≢false h.0)
above_number (fin false n d) B h z =
    lt-ltb (2305843 * down d) (n * up d * 2 ^ 61) (small (n * up d) (down d) (size_pos (n * up d) (down d) (2 ^ 23) B z) z.least)

pub above_tiny : (s : Float) (B : ℕ) → Signed s false → SizeOf s (2 ^ 23) B → lt tiny32 s ≡ true
above_tiny s B h z = ap (λ (x : Float). lt x s) tiny_is ∙ above_number s B h z

-- ---- the square of active power
pub p_square : (p : Float) (s : Bool) (a n : ℕ) → Found p s a n p_l p_h p_k (2 ^ 18) (2 ^ 48) → FoundSquare p s (a * a) (n * n) (2 ^ 28 - 33) (2 ^ 28 + 33) (2 ^ 28) (2 ^ 18) (2 ^ 48)
p_square p s a n f =
    record {
      is = f.is;
      ratio = weaken (num p * num p) (den p * den p) (a * a) (n * n) _ _ _ (2 ^ 28 - 33) (2 ^ 28 + 33) (2 ^ 28) (lit< tt) (lit< tt) (lit≤ tt) (lit≤ tt) (squared (num p) (den p) a n _ _ _ f.ratio);
      size = f.size;
    }

over_same : (s : Bool) → unlike s false ≡ s
over_same false = refl
over_same true = refl

-- ---- p / s
pub factor_found : (p s : Float) (b : Bool) (w v n : ℕ) → 0 < n → 0 < v
    → FoundSquare p b w n (2 ^ 28 - 33) (2 ^ 28 + 33) (2 ^ 28) (2 ^ 18) (2 ^ 48)
    → FoundSquare s false v n (2 ^ 28 - 101) (2 ^ 28 + 101) (2 ^ 28) (2 ^ 23) (2 ^ 53)
    → FoundSquare (div binary32 p s) b w v (2 ^ 28 - 168) (2 ^ 28 + 168) (2 ^ 28) (2 ^ 72) (2 ^ 72)
factor_found p s b w v n N V+ f g =
    let r = div binary32 p s in
    let c = div_close binary32 p s b false (2 ^ 18) (2 ^ 48) (2 ^ 23) (2 ^ 53) f.is g.is f.size g.size (lit≤ tt) (lit< tt) in
    let S : 0 < num s = size_pos (num s) (den s) (2 ^ 23) (2 ^ 53) g.size in
    let D : 0 < den p * num s = mul-pos (den_pos p) S in
    let z = size_over (num p) (den p) (2 ^ 18) (2 ^ 48) (num s) (den s) (2 ^ 23) (2 ^ 53) f.size g.size in
    let both =
    times (num p * num p) (den p * den p) w n _ _ _ (den s * den s) (num s * num s) n v _ _ _ f.ratio (flipped (num s * num s) (den s * den s) v n _ _ _ g.ratio) in
    let exact = respell (num p * num p * (den s * den s)) (den p * den p * (num s * num s)) (w * n) (n * v) w v _ _ _ (mul-pos N V+) (mul_assoc w n v) both in
    let e : num p * num p * (den s * den s) ≡ num p * den s * (num p * den s) = mul-mul-mul_comm (num p) (num p) (den s) (den s) in
    let e' : den p * den p * (num s * num s) ≡ den p * num s * (den p * num s) = mul-mul-mul_comm (den p) (den p) (num s) (num s) in
    let near = renamed e e' exact in
    record {
      is = subst (λ (t : Bool). Signed r t) (over_same b) c.is;
      ratio =
          weaken (num r * num r) (den r * den r) w v _ _ _ (2 ^ 28 - 168) (2 ^ 28 + 168) (2 ^ 28) (lit< tt) (lit< tt) (lit≤ tt) (lit≤ tt)
          (after (num r * num r) (den r * den r) (num p * den s * (num p * den s)) (den p * num s * (den p * num s)) w v _ _ _ _ _ _ (mul-pos D D)
          (squared (num r) (den r) (num p * den s) (den p * num s) _ _ _ c.ratio) near);
      size = size_near (num r) (den r) (num p * den s) (den p * num s) (2 ^ 24 - 1) (2 ^ 24 + 1) (2 ^ 24) (2 ^ 71) (2 ^ 71) (den_pos r) (lit< tt) (lit< tt) (lit≤ tt) (lit≤ tt) c.ratio z;
    }

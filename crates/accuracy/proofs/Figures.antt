-- The numbers of a power record where none of the exact sums is 0: each against the exact sums, with room to spare, in parts of 2 ^ 28. Assumes nothing.
use mathlib.Core.Path.{◌≡◌, sym, subst}
use mathlib.Core.Bool.{Bool, false}
use Prim.Native.Nat.{ℕ, ◌+◌, ◌-◌, ◌*◌, ◌^◌, ◌≤◌, ◌<◌}
use native.Mathlib.Nat.{le_trans, mul-mul-mul_comm, mul-pos, le-mul_of_pos_right}
use native.Mathlib.Omega.{arith}
use lib.Dec.{T, lit≤, lit<}
use lib.IntN.{ℤ, nat_abs}
use lib.Ieee.{Float, binary32, binary64, round, mul, fits}
use lib.Ieee.Positive.{num, den, den_pos}
use Rattle.number.specs.Number.{narrow, root, narrowed_root}
use Rattle.power.specs.Power.{mean64}
use Rattle.laws.specs.Whole.{Is}
use Rattle.laws.proofs.Ratio.{Ratio, after, times, squared, weaken, renamed}
use Rattle.laws.proofs.Close.{round_close}
use Rattle.accuracy.proofs.Mean.{sign_bit, mean_is, mean_fits}
use Rattle.laws.proofs.Size.{Size, size_times, size_pos, size_near, size_more, size_near_root, normal, Signed, SizeOf, mul_close}
use Rattle.number.proofs.Narrowing.{narrow_close}
use Rattle.number.proofs.Rooting.{root_near}

-- x, or the square of x, is near a / c, one part in so many; and its own size is known
pub record Found (x : Float) (s : Bool) (a c l h k A B : ℕ) : Type 0 where
  pub is : Signed x s
  pub ratio : Ratio (num x) (den x) a c l h k
  pub size : SizeOf x A B

pub record FoundSquare (x : Float) (s : Bool) (a c l h k A B : ℕ) : Type 0 where
  pub is : Signed x s
  pub ratio : Ratio (num x * num x) (den x * den x) a c l h k
  pub size : SizeOf x A B

-- ---- the mean of an exact sum
pub mean_size : (a n : ℕ) → 0 < a → a ≤ 2 ^ 46 → 0 < n → n ≤ 65536 → Size a n 65536 (2 ^ 46)
mean_size a n A h N l =
    record {
      whole = N;
      least = le_trans l (omega arith);
      most = le_trans h (le-mul_of_pos_right (2 ^ 46) N);
    }

pub mean_found : (t : Float) (z : ℤ) (n : ℕ) → 0 < n → n ≤ 65536 → Is t z → 0 < nat_abs z → nat_abs z ≤ 2 ^ 46
    → Found (mean64 t n) (sign_bit t) (nat_abs z) n (2 ^ 53 - 1) (2 ^ 53 + 1) (2 ^ 53) (2 ^ 17) (2 ^ 47)
mean_found t z n N l p Z h =
    let s = mean_size (nat_abs z) n Z h N l in
    let x = round binary64 (sign_bit t) (nat_abs z) n in
    let c = round_close binary64 (sign_bit t) (nat_abs z) n (normal binary64 (nat_abs z) n 65536 (2 ^ 46) s (lit≤ tt) (lit< tt)) in
    subst (λ (y : Float). Found y (sign_bit t) (nat_abs z) n (2 ^ 53 - 1) (2 ^ 53 + 1) (2 ^ 53) (2 ^ 17) (2 ^ 47)) (sym (mean_is t z n N l p))
    (record {
      is = c.is;
      ratio = c.ratio;
      size = size_near (num x) (den x) (nat_abs z) n (2 ^ 53 - 1) (2 ^ 53 + 1) (2 ^ 53) 65536 (2 ^ 46) (den_pos x) (lit< tt) (lit< tt) (lit≤ tt) (lit≤ tt) c.ratio s;
    })

-- ---- active power
abbrev pub p_l : ℕ
p_l = (2 ^ 53 - 1) * (2 ^ 24 - 1)

abbrev pub p_h : ℕ
p_h = (2 ^ 53 + 1) * (2 ^ 24 + 1)

abbrev pub p_k : ℕ
p_k = 2 ^ 53 * 2 ^ 24

pub active_found : (t : Float) (z : ℤ) (n : ℕ) → 0 < n → n ≤ 65536 → Is t z → 0 < nat_abs z → nat_abs z ≤ 2 ^ 46
    → Found (narrow (mean64 t n)) (sign_bit t) (nat_abs z) n p_l p_h p_k (2 ^ 18) (2 ^ 48)
active_found t z n N l p Z h =
    let m = mean64 t n in
    let f = mean_found t z n N l p Z h in
    let y = narrow m in
    let c = narrow_close m (sign_bit t) (2 ^ 17) (2 ^ 47) f.is f.size (lit≤ tt) (lit< tt) in
    record {
      is = c.is;
      ratio = after (num y) (den y) (num m) (den m) (nat_abs z) n _ _ _ _ _ _ (den_pos m) c.ratio f.ratio;
      size = size_near (num y) (den y) (num m) (den m) (2 ^ 24 - 1) (2 ^ 24 + 1) (2 ^ 24) (2 ^ 17) (2 ^ 47) (den_pos y) (lit< tt) (lit< tt) (lit≤ tt) (lit≤ tt) c.ratio f.size;
    }

-- ---- a root mean square
pub rms_found : (x : Float) (A B : ℕ) → T (fits binary64 x) → Signed x false → SizeOf x (A * A) (B * B) → A * 2 ≤ 2 ^ 126 → B * 2 < 2 ^ 127
    → FoundSquare (narrowed_root x) false (num x) (den x) (2 ^ 28 - 33) (2 ^ 28 + 33) (2 ^ 28) (A * 2 * 2) (B * 2 * 2)
unfolding narrowed_root
rms_found x A B t h z a b =
    let y = root binary64 x in
    let r = root_near binary64 x t h (size_pos (num x) (den x) (A * A) (B * B) z) in
    let s = size_near_root (num y) (den y) (num x) (den x) _ _ _ A B (den_pos y) (lit< tt) (lit< tt) (lit≤ tt) (lit≤ tt) r.1 z in
    let v = narrow y in
    let c = narrow_close y false (A * 2) (B * 2) r.0 s a b in
    record {
      is = c.is;
      ratio =
          weaken (num v * num v) (den v * den v) (num x) (den x) _ _ _ (2 ^ 28 - 33) (2 ^ 28 + 33) (2 ^ 28) (lit< tt) (lit< tt) (lit≤ tt) (lit≤ tt)
          (after (num v * num v) (den v * den v) (num y * num y) (den y * den y) (num x) (den x) _ _ _ _ _ _ (mul-pos (den_pos y) (den_pos y))
          (squared (num v) (den v) (num y) (den y) _ _ _ c.ratio) r.1);
      size = size_near (num v) (den v) (num y) (den y) (2 ^ 24 - 1) (2 ^ 24 + 1) (2 ^ 24) (A * 2) (B * 2) (den_pos v) (lit< tt) (lit< tt) (lit≤ tt) (lit≤ tt) c.ratio s;
    }

-- of a number that is itself near a / n
pub rms_near : (x : Float) (a n A B : ℕ) → T (fits binary64 x) → Found x false a n (2 ^ 53 - 1) (2 ^ 53 + 1) (2 ^ 53) (A * A) (B * B) → A * 2 ≤ 2 ^ 126 → B * 2 < 2 ^ 127
    → FoundSquare (narrowed_root x) false a n (2 ^ 28 - 34) (2 ^ 28 + 34) (2 ^ 28) (A * 2 * 2) (B * 2 * 2)
rms_near x a n A B t f g h =
    let v = narrowed_root x in
    let r = rms_found x A B t f.is f.size g h in
    record {
      is = r.is;
      ratio =
          weaken (num v * num v) (den v * den v) a n _ _ _ (2 ^ 28 - 34) (2 ^ 28 + 34) (2 ^ 28) (lit< tt) (lit< tt) (lit≤ tt) (lit≤ tt)
          (after (num v * num v) (den v * den v) (num x) (den x) a n _ _ _ _ _ _ (den_pos x) r.ratio f.ratio);
      size = r.size;
    }

-- of an exact sum of squares
pub rms_of_sum : (t : Float) (z : ℤ) (n : ℕ) → 0 < n → n ≤ 65536 → Is t z → sign_bit t ≡ false → 0 < nat_abs z → nat_abs z ≤ 2 ^ 46
    → FoundSquare (narrowed_root (mean64 t n)) false (nat_abs z) n (2 ^ 28 - 34) (2 ^ 28 + 34) (2 ^ 28) (2 ^ 11) (2 ^ 26)
rms_of_sum t z n N l p s Z h =
    let m = mean64 t n in
    let f = mean_found t z n N l p Z h in
    rms_near m (nat_abs z) n (2 ^ 9) (2 ^ 24) (mean_fits t n)
    (record {
      is = subst (λ (b : Bool). Signed m b) s f.is;
      ratio = f.ratio;
      size = size_more (num m) (den m) (2 ^ 17) (2 ^ 47) (2 ^ 9 * 2 ^ 9) (2 ^ 24 * 2 ^ 24) (lit≤ tt) (lit≤ tt) f.size;
    })
    (lit≤ tt) (lit< tt)

-- ---- apparent power: v and i near the roots of a / n and b / n
pub apparent_found : (v i : Float) (a b n : ℕ)
    → FoundSquare v false a n (2 ^ 28 - 34) (2 ^ 28 + 34) (2 ^ 28) (2 ^ 11) (2 ^ 26)
    → FoundSquare i false b n (2 ^ 28 - 34) (2 ^ 28 + 34) (2 ^ 28) (2 ^ 11) (2 ^ 26)
    → FoundSquare (mul binary32 v i) false (a * b) (n * n) (2 ^ 28 - 101) (2 ^ 28 + 101) (2 ^ 28) (2 ^ 23) (2 ^ 53)
apparent_found v i a b n p q =
    let s = mul binary32 v i in
    let c = mul_close binary32 v i false false (2 ^ 11) (2 ^ 26) (2 ^ 11) (2 ^ 26) p.is q.is p.size q.size (lit≤ tt) (lit< tt) in
    let z = size_times (num v) (den v) (2 ^ 11) (2 ^ 26) (num i) (den i) (2 ^ 11) (2 ^ 26) p.size q.size in
    let both = times (num v * num v) (den v * den v) a n _ _ _ (num i * num i) (den i * den i) b n _ _ _ p.ratio q.ratio in
    let D : 0 < den v * den i = mul-pos (den_pos v) (den_pos i) in
    let e : num v * num i * (num v * num i) ≡ num v * num v * (num i * num i) = mul-mul-mul_comm (num v) (num i) (num v) (num i) in
    let e' : den v * den i * (den v * den i) ≡ den v * den v * (den i * den i) = mul-mul-mul_comm (den v) (den i) (den v) (den i) in
    record {
      is = c.is;
      ratio =
          weaken (num s * num s) (den s * den s) (a * b) (n * n) _ _ _ (2 ^ 28 - 101) (2 ^ 28 + 101) (2 ^ 28) (lit< tt) (lit< tt) (lit≤ tt) (lit≤ tt)
          (after (num s * num s) (den s * den s) (num v * num i * (num v * num i)) (den v * den i * (den v * den i)) (a * b) (n * n) _ _ _ _ _ _ (mul-pos D D)
          (squared (num s) (den s) (num v * num i) (den v * den i) _ _ _ c.ratio)
          (renamed (sym e) (sym e') both));
      size = size_near (num s) (den s) (num v * num i) (den v * den i) (2 ^ 24 - 1) (2 ^ 24 + 1) (2 ^ 24) (2 ^ 22) (2 ^ 52) (den_pos s) (lit< tt) (lit< tt) (lit≤ tt) (lit≤ tt) c.ratio z;
    }

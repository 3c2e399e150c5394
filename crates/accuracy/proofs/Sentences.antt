-- Each sentence of the accuracy from what is known of the figure that it speaks of. Assumes nothing.
use mathlib.Core.Path.{◌≡◌, refl, sym, ap, ap₂, ◌∙◌, subst, subst₂}
use mathlib.Core.Bool.{Bool, true, false, not, cond}
use Prim.Native.Nat.{ℕ, zero, suc, ◌+◌, ◌-◌, ◌*◌, ◌^◌, ◌≤◌, ◌<◌, zero-le}
use native.Mathlib.Nat.{le_trans, le_of_eq, le_of_lt, lt_irrefl, mul_comm, mul_assoc, mul_right_comm, mul-mul-mul_comm, mul-pos, mul-zero, zero-mul, mul-le-mul_right, le_of_mul-le-mul_right}
use native.Mathlib.Nat.{le-mul_of_pos_right}
use native.Mathlib.Omega.{arith}
use lib.Dec.{T, leb, leb→le, nleb→lt, eqb→eq, lit≤, lit<}
use lib.IntN.{ℤ, pos, negsuc, nat_abs, ◌-ℤ◌, ◌*ℤ◌, *ℤ_comm}
use lib.Ieee.{Float, nan, inf, fin, Format, binary32, binary64, up, down, unlike, round, mul, div, sub, lt, fits, of_bits}
use lib.Ieee.Fits.{mul-fits, up_pos, down_pos}
use lib.Ieee.Scale.{finite}
use lib.Ieee.Positive.{num, den, den_pos}
use Rattle.number.specs.Number.{narrowed_root}
use Rattle.power.specs.Power.{above_zero}
use Rattle.laws.specs.Quotients.{ratio_or_zero}
use Rattle.laws.specs.Whole.{gap, signed, value}
use Rattle.accuracy.specs.Accuracy.{Within, sign, ActiveNear, AtMost, near_p, most_pf}
use Rattle.laws.proofs.Ratio.{Ratio, after, weaken}
use Rattle.laws.proofs.Signs.{signed_scale, minus_le}
use Rattle.laws.proofs.Squares.{root_le}
use Rattle.laws.proofs.Distance.{dist_pos, dist_signed, value_is}
use Rattle.laws.proofs.Close.{own}
use Rattle.laws.proofs.Size.{size_times, size_near, Signed, SizeOf, mul_close}
use Rattle.laws.proofs.Zero.{Null, Number, null_num, null_number, signed_number, null_mul, round_null, lt_null}
use Rattle.accuracy.proofs.Figures.{Found, FoundSquare, p_l, p_h, p_k}
use Rattle.accuracy.proofs.Factor.{above_tiny, tiny_is}
use Rattle.accuracy.proofs.Difference.{grain, difference_none, difference_some}
use Rattle.accuracy.proofs.Linear.{ratio_gap, none_bound, some_bound}

pub value_null : (x : Float) → Null x → value x ≡ pos 0
value_null nan h = absurd h
value_null (inf s) h = absurd h
value_null (fin s m e) h = ap (λ (k : ℕ). signed s k) (ap (λ (k : ℕ). k * up e) h ∙ zero-mul (up e)) ∙ nothing s
  where
    nothing : (s : Bool) → signed s 0 ≡ pos 0
    nothing false = refl
    nothing true = refl

-- ---- active power
pub active_bound : (p : Float) (s : Bool) (w : ℤ) (n : ℕ) → signed s (nat_abs w) ≡ w → Found p s (nat_abs w) n p_l p_h p_k (2 ^ 18) (2 ^ 48)
    → ActiveNear near_p n w p
active_bound p s w n e f =
    let r = weaken (num p) (den p) (nat_abs w) n p_l p_h p_k (2 ^ 23 - 1) (2 ^ 23 + 1) (2 ^ 23) (lit< tt) (lit< tt) (lit≤ tt) (lit≤ tt) f.ratio in
    let a : pos n *ℤ value p ≡ signed s (num p * n) = ap (λ (z : ℤ). pos n *ℤ z) (value_is p s f.is) ∙ *ℤ_comm (pos n) (signed s (num p)) ∙ signed_scale s (num p) n in
    let b : w *ℤ pos (den p) ≡ signed s (nat_abs w * den p) = ap (λ (z : ℤ). z *ℤ pos (den p)) (sym e) ∙ signed_scale s (nat_abs w) (den p) in
    subst (λ (k : ℕ). k * 2 ^ 23 ≤ nat_abs w * den p) (sym (ap₂ (λ (x y : ℤ). nat_abs (x -ℤ y)) a b ∙ dist_signed s (num p * n) (nat_abs w * den p))) (ratio_gap (num p) (den p) (nat_abs w) n (2 ^ 23) r)

pub active_null : (p : Float) (w : ℤ) (n : ℕ) → w ≡ pos 0 → Null p → ActiveNear near_p n w p
active_null p w n e h =
    subst (λ (k : ℤ). nat_abs k * 2 ^ near_p ≤ nat_abs w * den p)
    (sym (ap₂ (λ (x y : ℤ). pos n *ℤ x -ℤ y *ℤ pos (den p)) (value_null p h) e ∙ ap₂ (λ (x y : ℕ). pos x -ℤ pos y) (mul-zero n) (zero-mul (den p))))
    zero-le

-- ---- apparent power
pub gap_none : (a b k c : ℕ) → a ≡ 0 → b ≡ 0 → gap a b * k ≤ c
gap_none a b k c p q = subst₂ (λ (x y : ℕ). gap x y * k ≤ c) (sym p) (sym q) (le_trans (le_of_eq (zero-mul k)) zero-le)

pub apparent_bound : (s : Float) (v n : ℕ) → FoundSquare s false v (n * n) (2 ^ 28 - 101) (2 ^ 28 + 101) (2 ^ 28) (2 ^ 23) (2 ^ 53)
    → gap (n * n * (num s * num s)) (v * (den s * den s)) * 2 ^ 21 ≤ v * (den s * den s)
apparent_bound s v n f =
    subst (λ (x : ℕ). gap x (v * (den s * den s)) * 2 ^ 21 ≤ v * (den s * den s)) (mul_comm (num s * num s) (n * n))
    (ratio_gap (num s * num s) (den s * den s) v (n * n) (2 ^ 21)
    (weaken (num s * num s) (den s * den s) v (n * n) _ _ _ (2 ^ 21 - 1) (2 ^ 21 + 1) (2 ^ 21) (lit< tt) (lit< tt) (lit≤ tt) (lit≤ tt) f.ratio))

-- ---- the f64 square of s or p
unlike_self : (s : Bool) → unlike s s ≡ false
unlike_self false = refl
unlike_self true = refl

pub square_found : (x : Float) (b : Bool) (a n l h k l' h' k' A B : ℕ) → FoundSquare x b a n l h k A B → A * A ≤ 2 ^ 1022 → B * B < 2 ^ 1023
    → 0 < k * 2 ^ 53 → 0 < h * (2 ^ 53 + 1) → l' * (k * 2 ^ 53) ≤ l * (2 ^ 53 - 1) * k' → h * (2 ^ 53 + 1) * k' ≤ h' * (k * 2 ^ 53)
    → Found (mul binary64 x x) false a n l' h' k' (A * A * 2) (B * B * 2)
square_found x b a n l h k l' h' k' A B f g g' c₁ c₂ c₃ c₄ =
    let y = mul binary64 x x in
    let c = mul_close binary64 x x b b A B A B f.is f.is f.size f.size g g' in
    record {
      is = subst (λ (t : Bool). Signed y t) (unlike_self b) c.is;
      ratio =
          weaken (num y) (den y) a n (l * (2 ^ 53 - 1)) (h * (2 ^ 53 + 1)) (k * 2 ^ 53) l' h' k' c₁ c₂ c₃ c₄
          (after (num y) (den y) (num x * num x) (den x * den x) a n l h k (2 ^ 53 - 1) (2 ^ 53 + 1) (2 ^ 53) (mul-pos (den_pos x) (den_pos x)) c.ratio f.ratio);
      size =
          size_near (num y) (den y) (num x * num x) (den x * den x) (2 ^ 53 - 1) (2 ^ 53 + 1) (2 ^ 53) (A * A) (B * B) (den_pos y) (lit< tt) (lit< tt) (lit≤ tt) (lit≤ tt) c.ratio
          (size_times (num x) (den x) A B (num x) (den x) A B f.size f.size);
    }

-- ---- nonactive power: v is V I, w is W², and N is n²
-- what is known of p²: near w / N, also where both are 0
pub record Minus (y : Float) (w N : ℕ) : Type 0 where
  pub is : Signed y false
  pub ratio : Ratio (num y) (den y) w N (2 ^ 28 - 34) (2 ^ 28 + 34) (2 ^ 28)
  pub few : den y ≤ 2 ^ 90

-- q is a number, and its square is near v - w
abbrev pub Nonactive : Float → ℕ → ℕ → ℕ → Type 0
Nonactive q v w N = Number q × (gap (N * (num q * num q) + w * (den q * den q)) (v * (den q * den q)) * 2 ^ 20 ≤ v * (den q * den q))

pub nonactive_none : (v w N : ℕ) → gap w v * 2 ^ 20 ≤ v → Nonactive (fin false 0 (pos 0)) v w N
nonactive_none v w N h = (tt, omega arith)

pub nonactive_bound : (x y : Float) (v w N : ℕ) → Found x false v N (2 ^ 28 - 102) (2 ^ 28 + 102) (2 ^ 28) (2 ^ 47) (2 ^ 107) → den x ≤ 2 ^ 100 → Minus y w N → w ≤ v
    → Nonactive (narrowed_root (above_zero (sub binary64 x y))) v w N
nonactive_bound x y v w N f g m l = go (leb (num x * den y) (num y * den x)) (leb→le (num x * den y) (num y * den x)) (nleb→lt (num x * den y) (num y * den x))
  where
    go : (t : Bool) → (T t → num x * den y ≤ num y * den x) → (T (not t) → num y * den x < num x * den y) → Nonactive (narrowed_root (above_zero (sub binary64 x y))) v w N
    go true a b =
        subst (λ (q : Float). Nonactive q v w N) (sym (difference_none x y f.is m.is (a tt)))
        (nonactive_none v w N (none_bound (num x) (den x) (num y) (den y) v w N (den_pos x) (den_pos y) f.ratio m.ratio (a tt) l))
    go false a b =
        let d = difference_some x y f.is m.is g m.few f.size.most (b tt) in
        let q = narrowed_root (above_zero (sub binary64 x y)) in (
          signed_number q false d.is,
          some_bound (num x) (den x) (num y) (den y) v w N (num q * num q) (den q * den q) (den_pos x) (den_pos y) f.ratio m.ratio (le_of_lt (b tt)) d.ratio l,
        )

-- p is not 0
pub minus_some : (p : Float) (b : Bool) (w N : ℕ) → FoundSquare p b w N (2 ^ 28 - 33) (2 ^ 28 + 33) (2 ^ 28) (2 ^ 18) (2 ^ 48) → Minus (mul binary64 p p) w N
minus_some p b w N f =
    let r = square_found p b w N (2 ^ 28 - 33) (2 ^ 28 + 33) (2 ^ 28) (2 ^ 28 - 34) (2 ^ 28 + 34) (2 ^ 28) (2 ^ 18) (2 ^ 48) f (lit≤ tt) (lit< tt) (lit< tt) (lit< tt) (lit≤ tt) (lit≤ tt) in
    record { is = r.is; ratio = r.ratio; few = le_trans (grain binary64 (mul binary64 p p) (2 ^ 37) (2 ^ 97) (mul-fits binary64 p p) r.size) (lit≤ tt) }

-- p is 0
pub null_square : (p : Float) → Null p → Signed (mul binary64 p p) false
unfolding mul
null_square nan h = absurd h
null_square (inf s) h = absurd h
null_square (fin s m e) h =
    let z : m * up e * (m * up e) ≡ 0 = ap (λ (k : ℕ). k * up e * (k * up e)) h ∙ ap (λ (k : ℕ). k * k) (zero-mul (up e)) in
    let D : 0 < down e * down e = mul-pos (down_pos e) (down_pos e) in
    subst₂ (λ (t : Bool) (k : ℕ). Signed (round binary64 t k (down e * down e)) false) (sym (unlike_self s)) (sym z)
    (own (round binary64 false 0 (down e * down e)) false 0 (down e * down e) (round_null binary64 false (down e * down e) D))

null_den : (f : Format) (x : Float) → T (fits f x) → Null x → den x ≤ 1
unfolding fits
null_den f nan t h = absurd h
null_den f (inf s) t h = absurd h
null_den f (fin s zero e) t h = le_trans (le_trans (le-mul_of_pos_right (down e) (up_pos e)) (le_of_eq (mul_comm (down e) (up e)))) (le_of_eq (eqb→eq (up e * down e) 1 t))
null_den f (fin s (suc m) e) t h = absurd (no m h)
  where
    no : (k : ℕ) → suc k ≡ 0 → ⊥
    no k e = omega arith

ratio_none : (n d a c l h k : ℕ) → n ≡ 0 → a ≡ 0 → Ratio n d a c l h k
ratio_none n d a c l h k p q =
    record {
      low = le_trans (le_of_eq (ap (λ (x : ℕ). x * d * l) q ∙ ap (λ (x : ℕ). x * l) (zero-mul d) ∙ zero-mul l)) zero-le;
      high = le_trans (le_of_eq (ap (λ (x : ℕ). x * c * k) p ∙ ap (λ (x : ℕ). x * k) (zero-mul c) ∙ zero-mul k)) zero-le;
    }

pub minus_none : (p : Float) (w N : ℕ) → Null p → w ≡ 0 → Minus (mul binary64 p p) w N
minus_none p w N h e =
    let y = mul binary64 p p in
    let z : Null y = null_mul binary64 p p h (null_number p h) in
    record {
      is = null_square p h;
      ratio = ratio_none (num y) (den y) w N (2 ^ 28 - 34) (2 ^ 28 + 34) (2 ^ 28) (null_num y z) e;
      few = le_trans (null_den binary64 y (mul-fits binary64 p p) z) (lit≤ tt);
    }

-- ---- the power factor
pub factor_some : (p s : Float) (B : ℕ) → Signed s false → SizeOf s (2 ^ 23) B → ratio_or_zero p s ≡ div binary32 p s
unfolding ratio_or_zero
factor_some p s B h z = ap (λ (b : Bool). cond b (div binary32 p s) (of_bits binary32 0)) (above_tiny s B h z)

pub factor_none : (p s : Float) → Null s → ratio_or_zero p s ≡ of_bits binary32 0
unfolding ratio_or_zero
factor_none p s h = ap (λ (b : Bool). cond b (div binary32 p s) (of_bits binary32 0)) (ap (λ (x : Float). lt x s) tiny_is ∙ lt_null 2305843 (negsuc 60) s h)

pub zero32_null : Null (of_bits binary32 0)
unfolding of_bits
zero32_null = refl

pub factor_bound : (f : Float) (b : Bool) (w v : ℕ) → FoundSquare f b w v (2 ^ 28 - 168) (2 ^ 28 + 168) (2 ^ 28) (2 ^ 72) (2 ^ 72)
    → gap (num f * num f * v) (w * (den f * den f)) * 2 ^ 20 ≤ w * (den f * den f)
factor_bound f b w v r =
    ratio_gap (num f * num f) (den f * den f) w v (2 ^ 20)
    (weaken (num f * num f) (den f * den f) w v _ _ _ (2 ^ 20 - 1) (2 ^ 20 + 1) (2 ^ 20) (lit< tt) (lit< tt) (lit≤ tt) (lit≤ tt) r.ratio)

pub size_bound : (f : Float) (b : Bool) (w v : ℕ) → 0 < v → w ≤ v → FoundSquare f b w v (2 ^ 28 - 168) (2 ^ 28 + 168) (2 ^ 28) (2 ^ 72) (2 ^ 72) → AtMost most_pf f
size_bound f b w v V+ l r =
    let n = num f * num f in
    let d = den f * den f in
    let h : n * v * 2 ^ 28 ≤ v * d * (2 ^ 28 + 168) = le_trans r.ratio.high (mul-le-mul_right (2 ^ 28 + 168) (mul-le-mul_right d l)) in
    let e₁ : n * 2 ^ 28 * v ≡ n * v * 2 ^ 28 = mul_right_comm n (2 ^ 28) v in
    let e₂ : v * d * (2 ^ 28 + 168) ≡ d * (2 ^ 28 + 168) * v = mul_assoc v d (2 ^ 28 + 168) ∙ mul_comm v (d * (2 ^ 28 + 168)) in
    let k : n * 2 ^ 28 ≤ d * (2 ^ 28 + 168) = le_of_mul-le-mul_right (le_trans (le_of_eq e₁) (le_trans h (le_of_eq e₂))) V+ in
    root_le (num f * 2 ^ 21) ((2 ^ 21 + 1) * den f)
    (le_trans (le_of_eq (mul-mul-mul_comm (num f) (2 ^ 21) (num f) (2 ^ 21))) (le_trans (last n d k) (le_of_eq (sym (mul-mul-mul_comm (2 ^ 21 + 1) (den f) (2 ^ 21 + 1) (den f))))))
  where
    last : (n d : ℕ) → n * 2 ^ 28 ≤ d * (2 ^ 28 + 168) → n * (2 ^ 21 * 2 ^ 21) ≤ (2 ^ 21 + 1) * (2 ^ 21 + 1) * d
    last n d h = omega arith

-- ---- the same said of whole numbers with a sign
pub within : (a b t k : ℕ) → gap a b * 2 ^ k ≤ t → Within (pos a) (pos b) t k
within a b t k h = subst (λ (x : ℕ). x * 2 ^ k ≤ t) (sym (dist_pos a b)) h

-- a against b - c
pub within_less : (a b c t k : ℕ) → c ≤ b → gap (a + c) b * 2 ^ k ≤ t → Within (pos a) (pos b -ℤ pos c) t k
within_less a b c t k l h = subst (λ (x : ℤ). Within (pos a) x t k) (sym (minus_le b c l)) (within a (b - c) t k (subst (λ (x : ℕ). x * 2 ^ k ≤ t) (moved a b c l) h))
  where
    moved : (a b c : ℕ) → c ≤ b → gap (a + c) b ≡ gap a (b - c)
    moved a b c l = omega arith

-- ---- signs
pub sign_same : (s : Bool) (a b : ℕ) → 0 < a → 0 < b → sign (signed s a) ≡ sign (signed s b)
sign_same false zero b p q = absurd (lt_irrefl 0 p)
sign_same false (suc a) zero p q = absurd (lt_irrefl 0 q)
sign_same false (suc a) (suc b) p q = refl
sign_same true zero b p q = absurd (lt_irrefl 0 p)
sign_same true (suc a) zero p q = absurd (lt_irrefl 0 q)
sign_same true (suc a) (suc b) p q = refl

-- ---- no figure is an infinity or a NaN
pub number_finite : (x : Float) → Number x → T (finite x)
number_finite nan h = absurd h
number_finite (inf s) h = absurd h
number_finite (fin s m e) h = tt

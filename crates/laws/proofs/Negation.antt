-- How a sign passes through an operation on floats, and what a difference becomes when its sides are swapped: on every float. Assumes nothing.
use mathlib.Core.Path.{◌≡◌, refl, sym, ap, ◌∙◌, subst}
use mathlib.Core.Logic.{◌⊎◌, inl, inr}
use mathlib.Core.Bool.{Bool, true, false, not, ◌&&◌, cond}
use Prim.Native.Nat.{ℕ, zero, suc, ◌+◌, ◌-◌, ◌*◌, ◌^◌, ◌/◌, ◌%◌, ◌<◌, ◌≤◌, compare}
use native.Mathlib.Nat.{mul_comm, add_comm, mul-pos, zero-mul}
use native.Mathlib.Omega.{arith}
use lib.Dec.{ltb, eqb, lit<}
use lib.IntN.{pos}
use lib.Count.{count_trailing_zeros}
use lib.Ieee.{Float, nan, inf, fin, Format, binary32, binary64, prec, low, emax, up, down, unlike, nearest, size, span, climb, odd, units, round, neg, sum, add, sub, mul, div}
use lib.Ieee.Fits.{down_pos}
use lib.Ieee.Scale.{round_same}
use borrow.Author.Tests.{ltb-true, ltb-false}

-- ---- rounding

not_not : (s : Bool) → not (not s) ≡ s
not_not true = refl
not_not false = refl

unlike_comm : (s t : Bool) → unlike s t ≡ unlike t s
unlike_comm true true = refl
unlike_comm true false = refl
unlike_comm false true = refl
unlike_comm false false = refl

unlike_not : (s t : Bool) → unlike (not s) t ≡ not (unlike s t)
unlike_not true true = refl
unlike_not true false = refl
unlike_not false true = refl
unlike_not false false = refl

neg_cond : (b : Bool) (x y : Float) → neg (cond b x y) ≡ cond b (neg x) (neg y)
neg_cond true x y = refl
neg_cond false x y = refl

neg_odd : (d : ℕ) (s : Bool) (q k l : ℕ) → neg (odd d s q k l) ≡ odd d (not s) q k l
unfolding neg odd
neg_odd d s zero k l = refl
neg_odd d s (suc q) k l = refl

neg_units : (f : Format) (s : Bool) (q k : ℕ) → neg (units f s q k) ≡ units f (not s) q k
unfolding neg units
neg_units f s q k =
    neg_cond (ltb (q * 2 ^ k) (2 ^ (low f + suc (emax f)))) (odd (suc (prec f)) s q k (low f)) (inf s)
    ∙ ap (λ (x : Float). cond (ltb (q * 2 ^ k) (2 ^ (low f + suc (emax f)))) x (inf (not s))) (neg_odd (suc (prec f)) s q k (low f))

pub neg_round : (f : Format) (s : Bool) (n d : ℕ) → neg (round f s n d) ≡ round f (not s) n d
unfolding round
neg_round f s n d =
    let m = n * 2 ^ low f in
    let k = size (m / d) - prec f in
    let u = d * 2 ^ k in
    neg_units f s (nearest (m / u) (compare (m % u * 2) u)) k

-- +0
abbrev pub nought : Float
nought = fin false 0 (pos 0)

round_0_1 : (f : Format) → round f false 0 1 ≡ nought
unfolding round units odd size span climb count_trailing_zeros
round_0_1 binary32 = refl
round_0_1 binary64 = refl

pub round_0 : (f : Format) (d : ℕ) → 0 < d → round f false 0 d ≡ nought
round_0 f d h = round_same f false 0 d 0 1 h (lit< tt) (zero-mul 1 ∙ sym (zero-mul d)) ∙ round_0_1 f

-- ---- products and quotients

pub mul_swap : (f : Format) (x y : Float) → mul f x y ≡ mul f y x
unfolding mul
mul_swap f nan nan = refl
mul_swap f nan (inf t) = refl
mul_swap f nan (fin t n d) = refl
mul_swap f (inf s) nan = refl
mul_swap f (inf s) (inf t) = ap inf (unlike_comm s t)
mul_swap f (inf s) (fin t n d) = ap (λ (b : Bool). cond (eqb n 0) nan (inf b)) (unlike_comm s t)
mul_swap f (fin s m e) nan = refl
mul_swap f (fin s m e) (inf t) = ap (λ (b : Bool). cond (eqb m 0) nan (inf b)) (unlike_comm s t)
mul_swap f (fin s m e) (fin t n d) = rw (unlike_comm s t, mul_comm (m * up e) (n * up d), mul_comm (down e) (down d))

pub neg_mul : (f : Format) (x y : Float) → mul f (neg x) y ≡ neg (mul f x y)
unfolding mul neg
neg_mul f nan y = refl
neg_mul f (inf s) nan = refl
neg_mul f (inf s) (inf t) = ap inf (unlike_not s t)
neg_mul f (inf s) (fin t n d) = ap (λ (b : Bool). cond (eqb n 0) nan (inf b)) (unlike_not s t) ∙ sym (neg_cond (eqb n 0) nan (inf (unlike s t)))
neg_mul f (fin s m e) nan = refl
neg_mul f (fin s m e) (inf t) = ap (λ (b : Bool). cond (eqb m 0) nan (inf b)) (unlike_not s t) ∙ sym (neg_cond (eqb m 0) nan (inf (unlike s t)))
neg_mul f (fin s m e) (fin t n d) =
    ap (λ (b : Bool). round f b (m * up e * (n * up d)) (down e * down d)) (unlike_not s t)
    ∙ sym (neg_round f (unlike s t) (m * up e * (n * up d)) (down e * down d))

pub neg_div : (f : Format) (x y : Float) → div f (neg x) y ≡ neg (div f x y)
unfolding div neg
neg_div f nan y = refl
neg_div f (inf s) nan = refl
neg_div f (inf s) (inf t) = refl
neg_div f (inf s) (fin t n d) = ap inf (unlike_not s t)
neg_div f (fin s m e) nan = refl
neg_div f (fin s m e) (inf t) = ap (λ (b : Bool). fin b 0 (pos 0)) (unlike_not s t)
neg_div f (fin s m e) (fin t n d) =
    ap (λ (b : Bool). cond (eqb n 0) (cond (eqb m 0) nan (inf b)) (round f b (m * up e * down d) (n * up d * down e))) (unlike_not s t)
    ∙ sym (neg_cond (eqb n 0) (cond (eqb m 0) nan (inf (unlike s t))) (round f (unlike s t) (m * up e * down d) (n * up d * down e))
    ∙ ap (λ (x : Float). cond (eqb n 0) x (neg (round f (unlike s t) (m * up e * down d) (n * up d * down e)))) (neg_cond (eqb m 0) nan (inf (unlike s t)))
    ∙ ap (λ (x : Float). cond (eqb n 0) (cond (eqb m 0) nan (inf (not (unlike s t)))) x) (neg_round f (unlike s t) (m * up e * down d) (n * up d * down e)))

-- ---- a difference and the swapped one

-- y is x with the other sign, or both are +0
abbrev pub Opposite : Float → Float → Type 0
Opposite x y = (y ≡ neg x) ⊎ ((x ≡ nought) × (y ≡ nought))

module _ (f : Format) (a b c : ℕ) (h : 0 < c) where
  -- a - b and b - a for an s of false, b - a and a - b for true; p says whether a is below b, q whether b is below a
  abbrev forth : Bool → Bool → Bool → Float
  forth s p q = cond p (round f (not s) (b - a) c) (round f (s && q) (a - b) c)

  abbrev back : Bool → Bool → Bool → Float
  back s p q = cond q (round f (not s) (a - b) c) (round f (s && p) (b - a) c)

  cases : (s p q : Bool) → ltb a b ≡ p → ltb b a ≡ q → Opposite (forth s p q) (back s p q)
  cases s true true x y = absurd (let l : a < b = ltb-true a b x in let g : b < a = ltb-true b a y in omega arith)
  cases true true false x y = inl (sym (neg_round f false (b - a) c))
  cases false true false x y = inl (sym (neg_round f true (b - a) c))
  cases true false true x y = inl (sym (neg_round f true (a - b) c))
  cases false false true x y = inl (sym (neg_round f false (a - b) c))
  cases true false false x y = inr (level x y)
    where
      level : ltb a b ≡ false → ltb b a ≡ false → (round f false (a - b) c ≡ nought) × (round f false (b - a) c ≡ nought)
      level x y =
          let l : b ≤ a = ltb-false a b x in
          let g : a ≤ b = ltb-false b a y in
          let e : a - b ≡ 0 = omega arith in
          let d : b - a ≡ 0 = omega arith in
          (ap (λ (n : ℕ). round f false n c) e ∙ round_0 f c h, ap (λ (n : ℕ). round f false n c) d ∙ round_0 f c h)
  cases false false false x y = inr (level x y)
    where
      level : ltb a b ≡ false → ltb b a ≡ false → (round f false (a - b) c ≡ nought) × (round f false (b - a) c ≡ nought)
      level x y =
          let l : b ≤ a = ltb-false a b x in
          let g : a ≤ b = ltb-false b a y in
          let e : a - b ≡ 0 = omega arith in
          let d : b - a ≡ 0 = omega arith in
          (ap (λ (n : ℕ). round f false n c) e ∙ round_0 f c h, ap (λ (n : ℕ). round f false n c) d ∙ round_0 f c h)

  -- a sum of two values and the one with its sides swapped and the other signs
  sums : (s t : Bool) → Opposite (sum f s a (not t) b c) (sum f t b (not s) a c)
  unfolding sum
  sums true true = cases true (ltb a b) (ltb b a) refl refl
  sums false false = cases false (ltb a b) (ltb b a) refl refl
  sums true false = inl (ap (λ (n : ℕ). round f false n c) (add_comm b a) ∙ sym (neg_round f true (a + b) c))
  sums false true = inl (ap (λ (n : ℕ). round f true n c) (add_comm b a) ∙ sym (neg_round f false (a + b) c))

pub sub_swap : (f : Format) (x y : Float) → Opposite (sub f x y) (sub f y x)
unfolding sub add neg
sub_swap f nan nan = inl refl
sub_swap f nan (inf t) = inl refl
sub_swap f nan (fin t n d) = inl refl
sub_swap f (inf s) nan = inl refl
sub_swap f (inf true) (inf true) = inl refl
sub_swap f (inf true) (inf false) = inl refl
sub_swap f (inf false) (inf true) = inl refl
sub_swap f (inf false) (inf false) = inl refl
sub_swap f (inf s) (fin t n d) = inl refl
sub_swap f (fin s m e) nan = inl refl
sub_swap f (fin s m e) (inf t) = inl (ap inf (sym (not_not t)))
sub_swap f (fin s m e) (fin t n d) =
    subst (λ (c : ℕ). Opposite (sum f s (m * up e * down d) (not t) (n * up d * down e) (down e * down d)) (sum f t (n * up d * down e) (not s) (m * up e * down d) c))
    (mul_comm (down e) (down d))
    (sums f (m * up e * down d) (n * up d * down e) (down e * down d) (mul-pos (down_pos e) (down_pos d)) s t)

-- Nonactive power: the square of the root of x - y, where x and y are near V I / n² and W² / n². Assumes nothing.
use mathlib.Core.Path.{◌≡◌, refl, sym, ap, ap₂, ◌∙◌, subst, subst₂}
use mathlib.Core.Bool.{Bool, true, false, not, cond, true≢false, ◌&&◌}
use Prim.Native.Nat.{ℕ, zero, suc, ◌+◌, ◌-◌, ◌*◌, ◌%◌, ◌^◌, ◌≤◌, ◌<◌}
use native.Mathlib.Nat.{le_trans, le_of_eq, le_of_lt, lt_of_lt_of_le, mul_comm, mul_assoc, mul-pos, mul-one, mul-le-mul, mul-le-mul_right, zero-mul, sub-eq-zero_of_le, sub-le, one-mul}
use native.Mathlib.Omega.{arith}
use borrow.Author.Tests.{lt-ltb, le-ltb}
use lib.Dec.{T, ltb, leb, eqb, ltb→lt, nltb→le, lit≤, lit<}
use lib.Pow.{pow_pos}
use lib.IntN.{ℤ, pos, negsuc}
use lib.Ieee.{Float, nan, inf, fin, Format, binary64, prec, emax, low, up, down, units, odd, round, neg, sum, add, sub, lt, fits, of_bits}
use lib.Ieee.Fits.{round_is, round-fits, and_l, and_r}
use lib.Ieee.Positive.{num, den, den_pos, first_pos}
use Rattle.number.specs.Number.{narrow, root, narrowed_root}
use Rattle.power.specs.Power.{above_zero}
use Rattle.laws.proofs.Close.{round_close}
use Rattle.laws.proofs.Size.{Size, size_pos, size_near, size_more, normal, Signed, SizeOf}
use Rattle.laws.proofs.Zero.{lt_null, null_round}
use Rattle.accuracy.proofs.Figures.{Found, FoundSquare, rms_near}

-- ---- a float of a format that is not small has no large denominator
few : (f : Format) (s : Bool) (m : ℕ) (e : ℤ) → T (fits f (fin s m e)) → m < 2 ^ prec f
unfolding fits
few f s zero e t = pow_pos (prec f)
few f s (suc m) e t =
    let a : Bool = eqb (suc m % 2) 1 in
    let b : Bool = ltb (suc m) (2 ^ prec f) in
    let c : Bool = leb (down e) (2 ^ low f) in
    let d : Bool = ltb (suc m * up e) (2 ^ suc (emax f) * down e) in
    ltb→lt (suc m) (2 ^ prec f) (and_r a b (and_l (a && b) c (and_l (a && b && c) d t)))

pub grain : (f : Format) (x : Float) (A B : ℕ) → T (fits f x) → SizeOf x A B → den x ≤ 2 ^ prec f * A
grain f nan A B t z = mul-pos (pow_pos (prec f)) (first_pos A 0 (lt_of_lt_of_le z.whole (le_trans z.least (le_of_eq (mul_comm 0 A)))))
grain f (inf s) A B t z = mul-pos (pow_pos (prec f)) (first_pos A 0 (lt_of_lt_of_le z.whole (le_trans z.least (le_of_eq (mul_comm 0 A)))))
grain f (fin s m (pos k)) A B t z =
    mul-pos (pow_pos (prec f)) (first_pos A (m * up (pos k)) (lt_of_lt_of_le z.whole (le_trans z.least (le_of_eq (mul_comm (m * up (pos k)) A)))))
grain f (fin s m (negsuc k)) A B t z = le_trans z.least (mul-le-mul_right A (le_trans (le_of_eq (mul-one m)) (le_of_lt (few f s m (negsuc k) t))))

-- ---- the difference of two numbers that are not negative
sub_is : (f : Format) (x y : Float) → Signed x false → Signed y false → sub f x y ≡ sum f false (num x * den y) true (num y * den x) (den x * den y)
unfolding sub add neg
sub_is f nan y p q = absurd p
sub_is f (inf s) y p q = absurd p
sub_is f (fin s m e) nan p q = absurd q
sub_is f (fin s m e) (inf t) p q = absurd q
sub_is f (fin s m e) (fin t n d) p q = ap₂ (λ (a b : Bool). sum f a (m * up e * down d) (not b) (n * up d * down e) (down e * down d)) p.0 q.0

sum_larger : (f : Format) (a b c : ℕ) → b ≤ a → sum f false a true b c ≡ round f false (a - b) c
unfolding sum
sum_larger f a b c h = ap (λ (t : Bool). cond t (round f true (b - a) c) (round f false (a - b) c)) (le-ltb a b h)

sum_smaller : (f : Format) (a b c : ℕ) → a < b → sum f false a true b c ≡ round f true (b - a) c
unfolding sum
sum_smaller f a b c h = ap (λ (t : Bool). cond t (round f true (b - a) c) (round f false (a - b) c)) (lt-ltb a b h)

-- ---- what is not above 0
zero64_is : of_bits binary64 0 ≡ fin false 0 (pos 0)
unfolding of_bits
zero64_is = refl

units_negative : (f : Format) (q k : ℕ) → lt (fin false 0 (pos 0)) (units f true q k) ≡ false
unfolding lt units odd
units_negative f q k = go (ltb (q * 2 ^ k) (2 ^ (low f + suc (emax f)))) q
  where
    go : (b : Bool) (r : ℕ) → lt (fin false 0 (pos 0)) (cond b (odd (suc (prec f)) true r k (low f)) (inf true)) ≡ false
    go true zero = refl
    go true (suc r) = refl
    go false r = refl

round_negative : (f : Format) (a c : ℕ) → lt (of_bits binary64 0) (round f true a c) ≡ false
round_negative f a c = ap₂ (λ (x y : Float). lt x y) zero64_is (round_is f true a c) ∙ units_negative f _ _

positive : (x : Float) → Signed x false → 0 < num x → lt (fin false 0 (pos 0)) x ≡ true
unfolding lt
positive nan h p = absurd h
positive (inf s) h p = absurd h
positive (fin true m e) h p = absurd (true≢false h.0)
positive (fin false m e) h p = lt-ltb (0 * down e) (m * up e * 1) (subst₂ (λ (a b : ℕ). a < b) (sym (zero-mul (down e))) (sym (mul-one (m * up e))) p)

lt_positive : (x : Float) → Signed x false → 0 < num x → lt (of_bits binary64 0) x ≡ true
lt_positive x h p = ap (λ (z : Float). lt z x) zero64_is ∙ positive x h p

-- ---- the root of the part above 0
root_zero : narrowed_root (of_bits binary64 0) ≡ fin false 0 (pos 0)
unfolding narrowed_root narrow root of_bits
root_zero = refl

not_above : (x : Float) → lt (of_bits binary64 0) x ≡ false → narrowed_root (above_zero x) ≡ fin false 0 (pos 0)
unfolding above_zero
not_above x h = ap (λ (b : Bool). narrowed_root (cond b x (of_bits binary64 0))) h ∙ root_zero

is_above : (x : Float) → lt (of_bits binary64 0) x ≡ true → narrowed_root (above_zero x) ≡ narrowed_root x
unfolding above_zero
is_above x h = ap (λ (b : Bool). narrowed_root (cond b x (of_bits binary64 0))) h

-- ---- y is no less than x: the answer is 0
pub difference_none : (x y : Float) → Signed x false → Signed y false → num x * den y ≤ num y * den x → narrowed_root (above_zero (sub binary64 x y)) ≡ fin false 0 (pos 0)
difference_none x y p q h = not_above (sub binary64 x y) (ap (λ (z : Float). lt (of_bits binary64 0) z) (sub_is binary64 x y p q)
    ∙ go (ltb (num x * den y) (num y * den x)) (ltb→lt (num x * den y) (num y * den x)) (nltb→le (num x * den y) (num y * den x)))
  where
    go : (t : Bool) → (T t → num x * den y < num y * den x) → (T (not t) → num y * den x ≤ num x * den y)
        → lt (of_bits binary64 0) (sum binary64 false (num x * den y) true (num y * den x) (den x * den y)) ≡ false
    go true a b = ap (λ (z : Float). lt (of_bits binary64 0) z) (sum_smaller binary64 (num x * den y) (num y * den x) (den x * den y) (a tt)) ∙ round_negative binary64 _ _
    go false a b =
        ap₂ (λ (o z : Float). lt o z) zero64_is (sum_larger binary64 (num x * den y) (num y * den x) (den x * den y) (b tt))
        ∙ lt_null 0 (pos 0) (round binary64 false (num x * den y - num y * den x) (den x * den y))
        (null_round binary64 false (num x * den y - num y * den x) (den x * den y) (mul-pos (den_pos x) (den_pos y)) (sub-eq-zero_of_le h))

-- ---- x is larger: the square of the answer is near the difference
one_left : (a b c : ℕ) → b < a → c ≤ 2 ^ 190 → c ≤ (a - b) * 2 ^ 190
one_left a b c h l = le_trans l (le_trans (le_of_eq (sym (one-mul (2 ^ 190)))) (mul-le-mul_right (2 ^ 190) (go a b h)))
  where
    go : (a b : ℕ) → b < a → 1 ≤ a - b
    go a b h = omega arith

pub difference_some : (x y : Float) → Signed x false → Signed y false → den x ≤ 2 ^ 100 → den y ≤ 2 ^ 90 → num x ≤ 2 ^ 107 * den x → num y * den x < num x * den y
    → FoundSquare (narrowed_root (above_zero (sub binary64 x y))) false (num x * den y - num y * den x) (den x * den y) (2 ^ 28 - 34) (2 ^ 28 + 34) (2 ^ 28) (2 ^ 98) (2 ^ 56)
difference_some x y p q g g' h l =
    let a = num x * den y in
    let b = num y * den x in
    let c = den x * den y in
    let C+ : 0 < c = mul-pos (den_pos x) (den_pos y) in
    let z : Size (a - b) c (2 ^ 190) (2 ^ 107) =
    record {
      whole = C+;
      least = one_left a b c l (le_trans (mul-le-mul g g') (lit≤ tt));
      most = le_trans (sub-le a b) (le_trans (mul-le-mul_right (den y) h) (le_of_eq (mul_assoc (2 ^ 107) (den x) (den y))));
    } in
    let r = round binary64 false (a - b) c in
    let k = round_close binary64 false (a - b) c (normal binary64 (a - b) c (2 ^ 190) (2 ^ 107) z (lit≤ tt) (lit< tt)) in
    let w = size_near (num r) (den r) (a - b) c (2 ^ 53 - 1) (2 ^ 53 + 1) (2 ^ 53) (2 ^ 190) (2 ^ 107) (den_pos r) (lit< tt) (lit< tt) (lit≤ tt) (lit≤ tt) k.ratio z in
    let f : Found r false (a - b) c (2 ^ 53 - 1) (2 ^ 53 + 1) (2 ^ 53) (2 ^ 96 * 2 ^ 96) (2 ^ 54 * 2 ^ 54) =
    record { is = k.is; ratio = k.ratio; size = size_more (num r) (den r) (2 ^ 190 * 2) (2 ^ 107 * 2) (2 ^ 96 * 2 ^ 96) (2 ^ 54 * 2 ^ 54) (lit≤ tt) (lit≤ tt) w } in
    let same : sub binary64 x y ≡ r = sub_is binary64 x y p q ∙ sum_larger binary64 a b c (le_of_lt l) in
    subst (λ (v : Float). FoundSquare v false (a - b) c (2 ^ 28 - 34) (2 ^ 28 + 34) (2 ^ 28) (2 ^ 98) (2 ^ 56))
    (sym (ap (λ (v : Float). narrowed_root (above_zero v)) same ∙ is_above r (lt_positive r k.is (size_pos (num r) (den r) (2 ^ 190 * 2) (2 ^ 107 * 2) w))))
    (rms_near r (a - b) c (2 ^ 96) (2 ^ 54) (round-fits binary64 false (a - b) c) f (lit≤ tt) (lit< tt))

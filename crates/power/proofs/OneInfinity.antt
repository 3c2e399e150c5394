-- Sums of products of finite f32 samples are finite, so that one infinity among them decides the sum: it is the product at that place. Assumes nothing.
use Rattle.std.proofs.Common.{◌≡◌, ℕ, zero, suc, ◌+◌, ◌-◌, ◌*◌, ◌%◌, ◌^◌, ◌<◌, ◌≤◌, Bool, true, false, cond, not, ◌&&◌, ◌||◌, T, eqb, ltb, leb, List, length, get_or, sym, refl, ap, ◌∙◌, subst, zero-le, le_trans, le_of_eq, le_refl, lt_of_le_of_lt, le_of_lt, mul-le-mul_right, mul_assoc, suc-mul, mul_comm, add-mul, mul-le-mul, mul-pos, zero-mul, mul-one, le_of_mul-le-mul_right, mul_left_comm, arith, lit<, lit≤, eqb→eq, ltb→lt}
use native.Mathlib.Nat.{mul-mul-mul_comm}
use native.Mathlib.Decide.{dec_le}
use lib.Ieee.{Float, prec, low, nan, inf, fin, Format, binary32, binary64, up, down, unlike, fits, is_nan, odd, units, round, sum, add, mul, neg, le, lt, eq, of_bits}
use lib.Ieee.Exact.{HasValue, round_exact}
use lib.Ieee.Fits.{down_pos, and_r}
use lib.Ieee.Order.{round_mono}
use lib.Ieee.Positive.{num, den}
use lib.Ieee.Scale.{finite, overflow}
use Rattle.laws.specs.Walks.{over}
use Rattle.laws.proofs.NotFinite.{mul_beyond, beyond_mul}
use Rattle.laws.specs.Samples.{still_numbers, numbers_in, all_numbers}
use Rattle.answers.specs.Numbers.{longest}
use Rattle.power.specs.Power.{sum_to}
use Rattle.power.proofs.Infinite.{unsigned, round_unsigned}

-- a finite f32, and the first n samples such
abbrev pub Sample : Float → Type 0
Sample x = T (finite x) × T (fits binary32 x)

abbrev pub Finite : List Float → ℕ → Type 0
Finite x n = (k : ℕ) → k < n → Sample (get_or x k nan)

-- the first n samples but for the place j
abbrev pub FiniteBut : List Float → ℕ → ℕ → Type 0
FiniteBut x j n = (k : ℕ) → k < n → (k ≡ j → ⊥) → Sample (get_or x k nan)

-- finite, and at most N in size
abbrev Bounded : Float → ℕ → Type 0
Bounded x N = T (finite x) × (num x ≤ N * den x)

-- ---- a rounded fraction
odd_neg : (d q k l : ℕ) → odd d true q k l ≡ neg (odd d false q k l)
unfolding odd neg
odd_neg d zero k l = refl
odd_neg d (suc q) k l = refl

units_neg : (f : Format) (q k : ℕ) → units f true q k ≡ neg (units f false q k)
unfolding units neg
units_neg f q k = go (ltb (q * 2 ^ k) (overflow f)) _ _ (odd_neg (suc (prec f)) q k (low f))
  where
    go : (b : Bool) (x y : Float) → x ≡ neg y → cond b x (inf true) ≡ neg (cond b y (inf false))
    go true x y h = h
    go false x y h = refl

round_neg : (f : Format) (a c : ℕ) → round f true a c ≡ neg (round f false a c)
unfolding round
round_neg f a c = units_neg f _ _

neg_bounded : (x : Float) (N : ℕ) → Bounded x N → Bounded (neg x) N
unfolding neg
neg_bounded nan N h = h
neg_bounded (inf s) N h = h
neg_bounded (fin s m e) N h = h

at_most : (a b : ℕ) (u : Bool) → T (ltb a b || (eqb a b && u)) → a ≤ b
at_most a b u h = go (ltb a b) (eqb a b) (ltb→lt a b) (eqb→eq a b) h
  where
    go : (x y : Bool) → (T x → a < b) → (T y → a ≡ b) → T (x || (y && u)) → a ≤ b
    go true y p q t = le_of_lt (p tt)
    go false true p q t = le_of_eq (q tt)
    go false false p q t = absurd t

cancel : (x y d e N : ℕ) → 0 < d → x * d ≤ y * e → y * 1 ≡ N * d → x ≤ N * e
cancel x y d e N D h v =
    let p : y * e ≡ N * e * d = ap (λ (z : ℕ). z * e) (sym (mul-one y) ∙ v) ∙ simp (mul_assoc, mul_comm, mul_left_comm) in
    le_of_mul-le-mul_right (le_trans h (le_of_eq p)) D

under : (x y : Float) (N : ℕ) → T (le x y) → HasValue y false N 1 → unsigned x ≡ true → Bounded x N
unfolding le lt eq
under nan y N h v u = absurd (subst T (sym u) tt)
under (inf true) y N h v u = absurd (subst T (sym u) tt)
under (inf false) nan N h v u = absurd v
under (inf false) (inf t) N h v u = absurd v
under (inf false) (fin t n d) N h v u = absurd h
under (fin true m e) y N h v u = absurd (subst T (sym u) tt)
under (fin false m e) nan N h v u = absurd v
under (fin false m e) (inf t) N h v u = absurd v
under (fin false m e) (fin true n d) N h v u = absurd (subst T v.0 tt)
under (fin false m e) (fin false n d) N h v u = (tt, cancel (m * up e) (n * up d) (down d) (down e) N (down_pos d) (at_most _ _ true h) v.1)

whole : (k : ℕ) → k ≤ longest → HasValue (round binary64 false (k * 2 ^ 256) 1) false (k * 2 ^ 256) 1
whole k l =
    round_exact binary64 false (k * 2 ^ 256) 1 k 1330 (lit< tt) (lt_of_le_of_lt l (lit< tt)) (lt_of_le_of_lt (mul-le-mul_right (2 ^ 1330) l) (lit< tt))
    (mul_assoc k (2 ^ 256) (2 ^ 1074) ∙ sym (mul-one (k * 2 ^ 1330)))

plain_bounded : (a c k : ℕ) → 0 < c → k ≤ longest → a ≤ k * 2 ^ 256 * c → Bounded (round binary64 false a c) (k * 2 ^ 256)
plain_bounded a c k C l h =
    under (round binary64 false a c) (round binary64 false (k * 2 ^ 256) 1) (k * 2 ^ 256)
    (round_mono binary64 a c (k * 2 ^ 256) 1 C (lit< tt) (le_trans (le_of_eq (mul-one a)) h)) (whole k l) (round_unsigned binary64 a c)

round_bounded : (s : Bool) (a c k : ℕ) → 0 < c → k ≤ longest → a ≤ k * 2 ^ 256 * c → Bounded (round binary64 s a c) (k * 2 ^ 256)
round_bounded false a c k C l h = plain_bounded a c k C l h
round_bounded true a c k C l h = subst (λ (x : Float). Bounded x (k * 2 ^ 256)) (sym (round_neg binary64 a c)) (neg_bounded _ _ (plain_bounded a c k C l h))

-- ---- a product, and a sum with one more
sample_size : (x : Float) → Sample x → num x ≤ 2 ^ 128 * den x
unfolding fits
sample_size nan h = absurd h.0
sample_size (inf s) h = absurd h.0
sample_size (fin s zero e) h = le_trans (le_of_eq (zero-mul (up e))) zero-le
sample_size (fin s (suc m) e) h =
    le_of_lt (ltb→lt (suc m * up e) (2 ^ 128 * down e) (and_r (eqb (suc m % 2) 1 && ltb (suc m) (2 ^ 24) && leb (down e) (2 ^ 149)) (ltb (suc m * up e) (2 ^ 128 * down e)) h.1))

mul_bounded : (x y : Float) → Sample x → Sample y → Bounded (mul binary64 x y) (1 * 2 ^ 256)
unfolding mul
mul_bounded nan y h k = absurd h.0
mul_bounded (inf s) y h k = absurd h.0
mul_bounded (fin s m e) nan h k = absurd k.0
mul_bounded (fin s m e) (inf t) h k = absurd k.0
mul_bounded (fin s m e) (fin t n d) h k =
    round_bounded (unlike s t) (m * up e * (n * up d)) (down e * down d) 1 (mul-pos (down_pos e) (down_pos d)) (lit≤ tt)
    (le_trans (mul-le-mul (sample_size (fin s m e) h) (sample_size (fin t n d) k)) (le_of_eq (mul-mul-mul_comm (2 ^ 128) (down e) (2 ^ 128) (down d))))

add_bounded : (x y : Float) (k : ℕ) → suc k ≤ longest → Bounded x (k * 2 ^ 256) → Bounded y (1 * 2 ^ 256) → Bounded (add binary64 x y) (suc k * 2 ^ 256)
unfolding add sum
add_bounded nan y k l p q = absurd p.0
add_bounded (inf s) y k l p q = absurd p.0
add_bounded (fin s m e) nan k l p q = absurd q.0
add_bounded (fin s m e) (inf t) k l p q = absurd q.0
add_bounded (fin s m e) (fin t n d) k l p q = go s t
  where
    a : ℕ
    a = m * up e * down d

    b : ℕ
    b = n * up d * down e

    c : ℕ
    c = down e * down d

    C : 0 < c
    C = mul-pos (down_pos e) (down_pos d)

    total : (x y P D E K : ℕ) → x ≤ K * P * E → y ≤ P * D → x * D + y * E ≤ suc K * P * (E * D)
    total x y P D E K u w =
        let e₁ : K * P * E * D ≡ K * P * (E * D) = mul_assoc (K * P) E D in
        let e₂ : P * D * E ≡ P * (E * D) = simp (mul_assoc, mul_comm) in
        let e₃ : suc K * P * (E * D) ≡ K * P * (E * D) + P * (E * D) = ap (λ (z : ℕ). z * (E * D)) (suc-mul K P) ∙ add-mul (K * P) P (E * D) in
        let h₁ = mul-le-mul_right D u in
        let h₂ = mul-le-mul_right E w in
        omega (arith, e₁, e₂, e₃, h₁, h₂)

    both : a + b ≤ suc k * 2 ^ 256 * c
    both = total (m * up e) (n * up d) (2 ^ 256) (down d) (down e) k p.1 q.1

    less : (x y : ℕ) → x - y ≤ x + y
    less x y = omega arith

    more : (x y : ℕ) → y - x ≤ x + y
    more x y = omega arith

    differ : (s t u : Bool) → Bounded (cond u (round binary64 t (b - a) c) (round binary64 (s && ltb b a) (a - b) c)) (suc k * 2 ^ 256)
    differ s t true = round_bounded t (b - a) c (suc k) C l (le_trans (more a b) both)
    differ s t false = round_bounded (s && ltb b a) (a - b) c (suc k) C l (le_trans (less a b) both)

    go : (s t : Bool) → Bounded (sum binary64 s a t b c) (suc k * 2 ^ 256)
    go true true = round_bounded true (a + b) c (suc k) C l both
    go false false = round_bounded false (a + b) c (suc k) C l both
    go true false = differ true false (ltb a b)
    go false true = differ false true (ltb a b)

sum_bounded : (x y : List Float) (n : ℕ) → n ≤ longest → Finite x n → Finite y n → Bounded (sum_to x y n) (n * 2 ^ 256)
unfolding sum_to of_bits
sum_bounded x y zero l p q = (tt, zero-le)
sum_bounded x y (suc n) l p q =
    add_bounded (sum_to x y n) _ n l (sum_bounded x y n (omega arith) (λ k h. p k (omega arith)) (λ k h. q k (omega arith))) (mul_bounded _ _ (p n (omega arith)) (q n (omega arith)))

-- ---- one infinity, at the place j of x, among finite samples: the sum is the product there, an infinity by the signs, and a NaN where y is 0 there
add_kept : (t z : Float) → finite t ≡ false → T (finite z) → add binary64 t z ≡ t
unfolding add
add_kept nan z h k = refl
add_kept (inf s) nan h k = absurd k
add_kept (inf s) (inf t) h k = absurd k
add_kept (inf s) (fin t n d) h k = refl
add_kept (fin s m e) z h k = absurd (subst T h tt)

add_new : (z t : Float) → T (finite z) → finite t ≡ false → add binary64 z t ≡ t
unfolding add
add_new nan t k h = absurd k
add_new (inf s) t k h = absurd k
add_new (fin s m e) nan k h = refl
add_new (fin s m e) (inf t) k h = refl
add_new (fin s m e) (fin t n d) k h = absurd (subst T h tt)

never : (i : ℕ) → i < 0 → ⊥
never i h = omega arith

module _ (x y : List Float) (j : ℕ) (b : Bool) (at : get_or x j nan ≡ inf b) where
  pub sum_one : (n : ℕ) → n ≤ longest → j < n → FiniteBut x j n → Finite y n
      → (sum_to x y n ≡ mul binary64 (inf b) (get_or y j nan)) × (sum_to y x n ≡ mul binary64 (get_or y j nan) (inf b))
  unfolding sum_to
  sum_one zero l h p q = absurd (never j h)
  sum_one (suc n) l h p q =
      elim (dec_le n j) [
        | yes g ↦
            let m : n ≡ j = omega arith in
            let xs : Finite x n = λ k i. p k (omega arith) (λ z. omega arith) in
            let ys : Finite y n = λ k i. q k (omega arith) in
            let e : get_or x n nan ≡ inf b = ap (λ (i : ℕ). get_or x i nan) m ∙ at in
            let f : get_or y n nan ≡ get_or y j nan = ap (λ (i : ℕ). get_or y i nan) m in (
              rw (e, f) (add_new _ _ (sum_bounded x y n (omega arith) xs ys).0 (beyond_mul binary64 (inf b) (get_or y j nan) refl)),
              rw (e, f) (add_new _ _ (sum_bounded y x n (omega arith) ys xs).0 (mul_beyond binary64 (get_or y j nan) (inf b) refl)),
            )
        | no g ↦
            let r = sum_one n (omega arith) (omega arith) (λ k i z. p k (omega arith) z) (λ k i. q k (omega arith)) in
            let u = p n (omega arith) (λ z. omega arith) in
            let w = q n (omega arith) in (
              rw r.0 (add_kept _ _ (beyond_mul binary64 (inf b) (get_or y j nan) refl) (mul_bounded _ _ u w).0),
              rw r.1 (add_kept _ _ (mul_beyond binary64 (get_or y j nan) (inf b) refl) (mul_bounded _ _ w u).0),
            )
      ]

  -- no sample of x is a NaN
  number : (k : ℕ) → FiniteBut x j (length x) → k < length x → is_nan (get_or x k nan) ≡ false
  unfolding is_nan
  number k p h =
      elim (dec_le k j) [
        | yes u ↦
            elim (dec_le j k) [
              | yes w ↦ let m : k ≡ j = omega arith in ap (λ (i : ℕ). is_nan (get_or x i nan)) m ∙ ap is_nan at
              | no w ↦ sample (get_or x k nan) (p k h (λ z. omega arith))
            ]
        | no u ↦ sample (get_or x k nan) (p k h (λ z. omega arith))
      ]
    where
      sample : (t : Float) → Sample t → is_nan t ≡ false
      sample nan h = absurd h.0
      sample (inf s) h = refl
      sample (fin s m e) h = refl

  pub one_numbers : FiniteBut x j (length x) → all_numbers x ≡ true
  unfolding all_numbers numbers_in over still_numbers
  one_numbers p = go (length x) (le_refl (length x))
    where
      go : (n : ℕ) → n ≤ length x → over still_numbers true x n ≡ true
      go zero h = refl
      go (suc n) h = ap (λ (t : Bool). over still_numbers true x n && not t) (number n p (omega arith)) ∙ ap (λ (t : Bool). t && true) (go n (omega arith))

-- A sum or difference of two rounded products that is clear of zero: more than half of it is left. Assumes nothing.
use mathlib.Core.Path.{◌≡◌, refl, sym, ap, ap₂, ◌∙◌, subst, subst₂}
use mathlib.Core.Bool.{Bool, true, false, not}
use Prim.Native.Nat.{ℕ, ◌+◌, ◌-◌, ◌*◌, ◌^◌, ◌≤◌, ◌<◌}
use native.Mathlib.Nat.{le_trans, le_of_eq, le_of_lt, add_comm, mul_comm, mul_assoc, mul_left_comm, mul-sub, add-mul, one-mul, mul-le-mul_right, le_of_mul-le-mul_right, lt_of_le_of_lt}
use native.Mathlib.Omega.{arith}
use lib.Dec.{T, leb, leb→le, nleb→lt, lit≤, lit<}
use lib.IntN.{ℤ, pos, neg_ℤ, nat_abs, ◌+ℤ◌, ◌-ℤ◌, ◌*ℤ◌, +ℤ_comm, neg_ℤ-+ℤ}
use lib.Ieee.{Float, binary64}
use lib.Ieee.Positive.{num, den}
use Rattle.laws.specs.Whole.{signed, value}
use Rattle.laws.proofs.Ratio.{Ratio}
use Rattle.laws.proofs.Signs.{size_neg, minus_le, minus_ge}
use Rattle.laws.proofs.Factors.{signed_not}
use Rattle.laws.proofs.Close.{Normal}
use Rattle.laws.proofs.Zero.{Number}
use Rattle.laws.proofs.Rounded.{Rounded, rounded_size}
use Rattle.fundamental_codes.proofs.Along.{left_part, right_part}
use Rattle.laws.proofs.Lower.{rounded_ratio}
use Rattle.laws.proofs.Distance.{dist_swap}

-- ---- over plain numbers: a stands for p and b for q, each off by one part in 2^53 at most
added : (a b p q c : ℕ) → p * (2 ^ 53 - 1) ≤ a * 2 ^ 52 → q * (2 ^ 53 - 1) ≤ b * 2 ^ 52 → c ≤ p + q → c ≤ a + b
added a b p q c h l g = omega arith

taken : (a b p q c : ℕ) → p * (2 ^ 53 - 1) ≤ a * 2 ^ 52 → b * 2 ^ 52 ≤ q * (2 ^ 53 + 1) → p + q ≤ 2 ^ 52 * (p - q) → c + q ≤ p → c ≤ a - b
taken a b p q c h l g k =
    let d = p - q in
    let u = 2 ^ 52 in
    let e : p ≡ q + d = omega arith in
    let m : (b + d) * u ≤ a * u =
    le_trans (le_of_eq (add-mul b d u))
    (kept (p * u) (q * u) (d * u) (a * u) (b * u) p q (ap (λ (n : ℕ). n * u) e ∙ add-mul q d u) (below a p h) (above b q l) (le_trans g (le_of_eq (mul_comm u d)))) in
    rest a b c d (le_of_mul-le-mul_right m (lit< tt)) (omega arith)
  where
    kept : (pu qu du au bu p q : ℕ) → pu ≡ qu + du → 2 * pu ≤ au + p → bu ≤ 2 * qu + q → p + q ≤ du → bu + du ≤ au
    kept pu qu du au bu p q e h l g = omega arith

    below : (a p : ℕ) → p * (2 ^ 53 - 1) ≤ a * 2 ^ 52 → 2 * (p * 2 ^ 52) ≤ a * 2 ^ 52 + p
    below a p h = omega arith

    above : (b q : ℕ) → b * 2 ^ 52 ≤ q * (2 ^ 53 + 1) → b * 2 ^ 52 ≤ 2 * (q * 2 ^ 52) + q
    above b q h = omega arith

    rest : (a b c d : ℕ) → b + d ≤ a → c ≤ d → c ≤ a - b
    rest a b c d h l = omega arith

less_times : (a b c : ℕ) → (a - b) * c ≡ a * c - b * c
less_times a b c = mul_comm (a - b) c ∙ mul-sub c a b ∙ ap₂ (λ (m n : ℕ). m - n) (mul_comm c a) (mul_comm c b)

scaled : (p q c : ℕ) → p + q < 2 ^ 52 * (p - q) → p * c + q * c ≤ 2 ^ 52 * (p * c - q * c)
scaled p q c h =
    le_trans (le_of_eq (sym (add-mul p q c)))
    (le_trans (mul-le-mul_right c (le_of_lt h)) (le_of_eq (mul_assoc (2 ^ 52) (p - q) c ∙ ap (λ (n : ℕ). 2 ^ 52 * n) (less_times p q c))))

-- p is at least one more than q, and at least 1 where it is all there is
one_more_lem : (p q : ℕ) → p + q < 2 ^ 52 * (p - q) → 1 + q ≤ p
one_more_lem p q h = omega arith

at_least_one : (p q : ℕ) → p + q < 2 ^ 52 * (p + q) → 1 ≤ p + q
at_least_one p q h = omega arith

abbrev Off : ℕ → ℕ → ℕ → Type 0
Off a p c = (p * c * (2 ^ 53 - 1) ≤ a * 2 ^ 61 * 2 ^ 52) × (a * 2 ^ 61 * 2 ^ 52 ≤ p * c * (2 ^ 53 + 1))

module _ (a b p q c : ℕ) (A : Off a p c) (B : Off b q c) where
  sum_left : p + q < 2 ^ 52 * (p + q) → c ≤ (a + b) * 2 ^ 61
  sum_left h =
      le_trans
      (added (a * 2 ^ 61) (b * 2 ^ 61) (p * c) (q * c) c A.0 B.0
      (le_trans (le_of_eq (sym (one-mul c))) (le_trans (mul-le-mul_right c (at_least_one p q h)) (le_of_eq (add-mul p q c)))))
      (le_of_eq (sym (add-mul a b (2 ^ 61))))

  difference_left : p + q < 2 ^ 52 * (p - q) → c ≤ (a - b) * 2 ^ 61
  difference_left h =
      le_trans
      (taken (a * 2 ^ 61) (b * 2 ^ 61) (p * c) (q * c) c A.0 B.1 (scaled p q c h)
      (le_trans (le_of_eq (ap (λ (n : ℕ). n + q * c) (sym (one-mul c)) ∙ sym (add-mul 1 q c))) (mul-le-mul_right c (one_more_lem p q h))))
      (le_of_eq (sym (less_times a b (2 ^ 61))))

-- ---- with signs
no_more : (a b : ℕ) → a ≤ b → b - a ≤ nat_abs (pos a -ℤ pos b)
no_more a b h = le_of_eq (sym (ap nat_abs (minus_ge a b h) ∙ size_neg (pos (b - a))))

-- the size of a difference, either way round
size_left : (a b : ℕ) → a - b ≤ nat_abs (pos a -ℤ pos b)
size_left a b = go (leb a b) (leb→le a b) (nleb→lt a b)
  where
    none : (a b : ℕ) → a ≤ b → a - b ≤ b - a
    none a b h = omega arith

    go : (t : Bool) → (T t → a ≤ b) → (T (not t) → b < a) → a - b ≤ nat_abs (pos a -ℤ pos b)
    go true h l = le_trans (none a b (h tt)) (no_more a b (h tt))
    go false h l = le_of_eq (sym (ap nat_abs (minus_le a b (le_of_lt (l tt)))))

module _ (a b p q c : ℕ) (A : Off a p c) (B : Off b q c) where
  opposite_left : p + q < 2 ^ 52 * nat_abs (pos p -ℤ pos q) → c ≤ nat_abs (pos a -ℤ pos b) * 2 ^ 61
  opposite_left h = go (leb p q) (leb→le p q) (nleb→lt p q)
    where
      go : (t : Bool) → (T t → p ≤ q) → (T (not t) → q < p) → c ≤ nat_abs (pos a -ℤ pos b) * 2 ^ 61
      go true l g =
          let e : nat_abs (pos p -ℤ pos q) ≡ q - p = ap nat_abs (minus_ge p q (l tt)) ∙ size_neg (pos (q - p)) in
          let k : q + p < 2 ^ 52 * (q - p) = subst₂ (λ (m n : ℕ). m < 2 ^ 52 * n) (add_comm p q) e h in
          le_trans (difference_left b a q p c B A k) (le_trans (mul-le-mul_right (2 ^ 61) (size_left b a)) (le_of_eq (ap (λ (n : ℕ). n * 2 ^ 61) (dist_swap (pos b) (pos a)))))
      go false l g =
          let e : nat_abs (pos p -ℤ pos q) ≡ p - q = ap nat_abs (minus_le p q (le_of_lt (g tt))) in
          le_trans (difference_left a b p q c A B (subst (λ (n : ℕ). p + q < 2 ^ 52 * n) e h)) (mul-le-mul_right (2 ^ 61) (size_left a b))

  pub signed_left : (s t : Bool) → p + q < 2 ^ 52 * nat_abs (signed s p +ℤ signed t q) → c ≤ nat_abs (signed s a +ℤ signed t b) * 2 ^ 61
  signed_left false false h = sum_left a b p q c A B h
  signed_left true true h =
      let e : (m n : ℕ) → nat_abs (neg_ℤ (pos m) +ℤ neg_ℤ (pos n)) ≡ m + n = (λ m n. ap nat_abs (sym (neg_ℤ-+ℤ (pos m) (pos n))) ∙ size_neg (pos (m + n))) in
      le_trans (sum_left a b p q c A B (subst (λ (n : ℕ). p + q < 2 ^ 52 * n) (e p q) h)) (le_of_eq (ap (λ (n : ℕ). n * 2 ^ 61) (sym (e a b))))
  signed_left false true h = opposite_left h
  signed_left true false h =
      let e : (m n : ℕ) → nat_abs (neg_ℤ (pos m) +ℤ pos n) ≡ nat_abs (pos m -ℤ pos n) = (λ m n. ap nat_abs (+ℤ_comm (neg_ℤ (pos m)) (pos n)) ∙ dist_swap (pos n) (pos m)) in
      le_trans (opposite_left (subst (λ (n : ℕ). p + q < 2 ^ 52 * n) (e p q) h)) (le_of_eq (ap (λ (n : ℕ). n * 2 ^ 61) (sym (e a b))))

-- ---- two rounded products over 2^60
one_normal : (a : ℕ) → 0 < a → a ≤ 2 ^ 114 → Normal binary64 a (2 ^ 60)
one_normal a h l =
    record {
      whole = lit< tt;
      least = le_trans (le_trans (lit≤ tt) (le_of_eq (sym (one-mul (2 ^ 1022))))) (mul-le-mul_right (2 ^ 1022) h);
      most = lt_of_le_of_lt l (lit< tt);
    }

-- x stands for p / 2^60; over the denominator that it shares with another
off : (x : Float) (p d : ℕ) → Ratio (num x) (den x) p (2 ^ 60) (2 ^ 53 - 1) (2 ^ 53 + 1) (2 ^ 53) → Off (num x * d) p (den x * d)
off x p d r = (
  le_trans (le_of_eq (e (2 ^ 53 - 1))) (le_trans (mul-le-mul_right d r.low) (le_of_eq f)),
  le_trans (le_of_eq (sym f)) (le_trans (mul-le-mul_right d r.high) (le_of_eq (sym (e (2 ^ 53 + 1))))),
)
  where
    e : (l : ℕ) → p * (den x * d) * l ≡ p * den x * l * d
    e l = simp (mul_assoc, mul_comm, mul_left_comm)

    f : num x * 2 ^ 60 * 2 ^ 53 * d ≡ num x * d * 2 ^ 61 * 2 ^ 52
    f = ap (λ (w : ℕ). w * d) (mul_assoc (num x) (2 ^ 60) (2 ^ 53)) ∙ g (num x) (2 ^ 60 * 2 ^ 53) (2 ^ 61 * 2 ^ 52) refl ∙ sym (mul_assoc (num x * d) (2 ^ 61) (2 ^ 52))
      where
        g : (n u v : ℕ) → u ≡ v → n * u * d ≡ n * d * v
        g n u v e = mul_assoc n u d ∙ ap (λ (w : ℕ). n * w) (mul_comm u d ∙ ap (λ (w : ℕ). d * w) e) ∙ sym (mul_assoc n d v)

module _ (x y : Float) (z w : ℤ) (X : Number x) (Y : Number y) (r : Rounded binary64 x z (2 ^ 60)) (q : Rounded binary64 y w (2 ^ 60)) (lz : nat_abs z ≤ 2 ^ 114) (lw : nat_abs w ≤ 2 ^ 114) where
  off_left : Off (num x * den y) r.amount (den x * den y)
  off_left =
      off x r.amount (den y)
      (rounded_ratio binary64 x z (2 ^ 60) r X (lit< tt) (λ p. one_normal r.amount p (le_trans (le_of_eq (rounded_size binary64 x z (2 ^ 60) r)) lz)))

  off_right : Off (num y * den x) q.amount (den x * den y)
  off_right =
      subst (λ (d : ℕ). Off (num y * den x) q.amount d) (mul_comm (den y) (den x))
      (off y q.amount (den x)
      (rounded_ratio binary64 y w (2 ^ 60) q Y (lit< tt) (λ p. one_normal q.amount p (le_trans (le_of_eq (rounded_size binary64 y w (2 ^ 60) q)) lw))))

  amounts : nat_abs z + nat_abs w ≡ r.amount + q.amount
  amounts = sym (ap₂ (λ (m n : ℕ). m + n) (rounded_size binary64 x z (2 ^ 60) r) (rounded_size binary64 y w (2 ^ 60) q))

  pub add_left : nat_abs z + nat_abs w < 2 ^ 52 * nat_abs (z +ℤ w) → den x * den y ≤ nat_abs (value x *ℤ pos (den y) +ℤ value y *ℤ pos (den x)) * 2 ^ 61
  add_left h =
      subst (λ (v : ℤ). den x * den y ≤ nat_abs v * 2 ^ 61)
      (sym (ap₂ (λ (a b : ℤ). a +ℤ b) (left_part binary64 x y z w (2 ^ 60) (lit< tt) X Y r q) (right_part binary64 x y z w (2 ^ 60) (lit< tt) X Y r q)))
      (signed_left (num x * den y) (num y * den x) r.amount q.amount (den x * den y) off_left off_right r.side q.side
      (subst₂ (λ (m : ℕ) (v : ℤ). m < 2 ^ 52 * nat_abs v) amounts (sym (ap₂ (λ (a b : ℤ). a +ℤ b) r.whole q.whole)) h))

  pub sub_left : nat_abs z + nat_abs w < 2 ^ 52 * nat_abs (z -ℤ w) → den x * den y ≤ nat_abs (value x *ℤ pos (den y) -ℤ value y *ℤ pos (den x)) * 2 ^ 61
  sub_left h =
      let t = q.side in
      subst (λ (v : ℤ). den x * den y ≤ nat_abs v * 2 ^ 61)
      (sym
      (ap₂ (λ (a b : ℤ). a +ℤ b) (left_part binary64 x y z w (2 ^ 60) (lit< tt) X Y r q)
      (ap neg_ℤ (right_part binary64 x y z w (2 ^ 60) (lit< tt) X Y r q) ∙ sym (signed_not t (num y * den x)))))
      (signed_left (num x * den y) (num y * den x) r.amount q.amount (den x * den y) off_left off_right r.side (not t)
      (subst₂ (λ (m : ℕ) (v : ℤ). m < 2 ^ 52 * nat_abs v) amounts (sym (ap₂ (λ (a b : ℤ). a +ℤ b) r.whole (signed_not t q.amount ∙ ap neg_ℤ q.whole))) h))

-- Signs that rounding cannot turn: a rounded number has the sign of what it rounds, or is a zero, and so has the rounded sum of two rounded numbers. Assumes nothing.
use mathlib.Core.Path.{◌≡◌, refl, sym, ap, ap₂, ◌∙◌, subst₂}
use mathlib.Core.Logic.{◌⊎◌, inl, inr}
use mathlib.Core.Bool.{Bool, true, false, not}
use Prim.Native.Nat.{ℕ, zero, suc, ◌+◌, ◌-◌, ◌*◌, ◌≤◌, ◌<◌}
use native.Mathlib.Nat.{le_of_lt, zero-lt-suc, zero-mul}
use native.Mathlib.Omega.{arith}
use lib.Dec.{T, leb, leb→le, nleb→lt}
use lib.IntN.{ℤ, pos, neg_ℤ, nat_abs, ◌+ℤ◌, ◌-ℤ◌, ◌*ℤ◌, +ℤ_comm, neg_ℤ-+ℤ}
use lib.Ieee.{Float, Format}
use lib.Ieee.Positive.{num, den}
use Rattle.laws.specs.Whole.{signed, value}
use Rattle.laws.proofs.Signs.{sign_of, by_sign, signed_scale, minus_le, minus_ge}
use Rattle.laws.proofs.Factors.{signed_not}
use Rattle.laws.proofs.Zero.{Number}
use Rattle.laws.proofs.Rounded.{Rounded}
use Rattle.laws.proofs.Distance.{value_is}
use Rattle.laws.proofs.Bounded.{rounded_signed, rounded_null, rounded_order}
use Rattle.accuracy.specs.Accuracy.{none, sign}
use Rattle.accuracy.proofs.Sentences.{sign_same}

-- a has b's sign, or is 0
abbrev pub Along : ℤ → ℤ → Type 0
Along a b = (sign a ≡ sign b) ⊎ (sign a ≡ none)

pub along_trans : (a b c : ℤ) → Along a b → Along b c → Along a c
along_trans a b c (inl e) (inl f) = inl (e ∙ f)
along_trans a b c (inl e) (inr f) = inr (e ∙ f)
along_trans a b c (inr e) q = inr e

sign_zero : (s : Bool) → sign (signed s 0) ≡ none
sign_zero false = refl
sign_zero true = refl

not_zero : (a : ℕ) → suc a ≡ 0 → ⊥
not_zero a e = omega arith

along_same : (s : Bool) (a p : ℕ) → (p ≡ 0 → a ≡ 0) → Along (signed s a) (signed s p)
along_same s zero p h = inr (sign_zero s)
along_same s (suc a) zero h = absurd (not_zero a (h refl))
along_same s (suc a) (suc p) h = inl (sign_same s (suc a) (suc p) (zero-lt-suc a) (zero-lt-suc p))

pub along_scale : (v : ℤ) (d : ℕ) → Along (v *ℤ pos d) v
along_scale v d =
    subst₂ (λ (a b : ℤ). Along a b) (sym (ap (λ (x : ℤ). x *ℤ pos d) (by_sign v) ∙ signed_scale (sign_of v) (nat_abs v) d)) (sym (by_sign v))
    (along_same (sign_of v) (nat_abs v * d) (nat_abs v) (λ e. ap (λ (n : ℕ). n * d) e ∙ zero-mul d))

pub rounded_along : (f : Format) (x : Float) (z : ℤ) (c : ℕ) → 0 < c → Number x → Rounded f x z c → Along (value x) z
rounded_along f x z c C X r =
    subst₂ (λ (a b : ℤ). Along a b) (sym (value_is x r.side (rounded_signed f x z c r X))) r.whole
    (along_same r.side (num x) r.amount (rounded_null f x z c r X C))

-- ---- a and b are in the order of p and q, and 0 where they are: so their sum goes along
module _ (a b p q : ℕ) (up : p ≤ q → a ≤ b) (down : q ≤ p → b ≤ a) where
  difference_along : Along (pos a -ℤ pos b) (pos p -ℤ pos q)
  difference_along = go (leb p q) (leb→le p q) (nleb→lt p q)
    where
      level : (p q a b : ℕ) → (q ≤ p → b ≤ a) → q - p ≡ 0 → b - a ≡ 0
      level p q a b d e = let h : b ≤ a = d (omega arith) in omega arith

      go : (t : Bool) → (T t → p ≤ q) → (T (not t) → q < p) → Along (pos a -ℤ pos b) (pos p -ℤ pos q)
      go true h l =
          subst₂ (λ (x y : ℤ). Along x y) (sym (minus_ge a b (up (h tt)))) (sym (minus_ge p q (h tt))) (along_same true (b - a) (q - p) (level p q a b down))
      go false h l =
          let g : q ≤ p = le_of_lt (l tt) in
          subst₂ (λ (x y : ℤ). Along x y) (sym (minus_le a b (down g))) (sym (minus_le p q g)) (along_same false (a - b) (p - q) (level q p b a up))

module _ (a b p q : ℕ) (up : p ≤ q → a ≤ b) (down : q ≤ p → b ≤ a) (A : p ≡ 0 → a ≡ 0) (B : q ≡ 0 → b ≡ 0) where
  both_none : p + q ≡ 0 → a + b ≡ 0
  both_none e = let x : a ≡ 0 = A (omega arith) in let y : b ≡ 0 = B (omega arith) in omega arith

  pub sum_along : (s t : Bool) → Along (signed s a +ℤ signed t b) (signed s p +ℤ signed t q)
  sum_along false false = along_same false (a + b) (p + q) both_none
  sum_along true true =
      subst₂ (λ (x y : ℤ). Along x y) (neg_ℤ-+ℤ (pos a) (pos b)) (neg_ℤ-+ℤ (pos p) (pos q)) (along_same true (a + b) (p + q) both_none)
  sum_along false true = difference_along a b p q up down
  sum_along true false =
      subst₂ (λ (x y : ℤ). Along x y) (+ℤ_comm (pos b) (neg_ℤ (pos a))) (+ℤ_comm (pos q) (neg_ℤ (pos p))) (difference_along b a q p down up)

-- ---- two rounded fractions over one denominator
module _ (f : Format) (x y : Float) (z w : ℤ) (c : ℕ) (C : 0 < c) (X : Number x) (Y : Number y) (r : Rounded f x z c) (q : Rounded f y w c) where
  -- their values, as signs and sizes
  pub left_part : value x *ℤ pos (den y) ≡ signed r.side (num x * den y)
  left_part = ap (λ (v : ℤ). v *ℤ pos (den y)) (value_is x r.side (rounded_signed f x z c r X)) ∙ signed_scale r.side (num x) (den y)

  pub right_part : value y *ℤ pos (den x) ≡ signed q.side (num y * den x)
  right_part = ap (λ (v : ℤ). v *ℤ pos (den x)) (value_is y q.side (rounded_signed f y w c q Y)) ∙ signed_scale q.side (num y) (den x)

  parts_along : (s t : Bool) → Along (signed s (num x * den y) +ℤ signed t (num y * den x)) (signed s r.amount +ℤ signed t q.amount)
  parts_along =
      sum_along (num x * den y) (num y * den x) r.amount q.amount (rounded_order f x y z w c r q X Y C) (rounded_order f y x w z c q r Y X C)
      (λ e. ap (λ (n : ℕ). n * den y) (rounded_null f x z c r X C e) ∙ zero-mul (den y)) (λ e. ap (λ (n : ℕ). n * den x) (rounded_null f y w c q Y C e) ∙ zero-mul (den x))

  pub add_along : Along (value x *ℤ pos (den y) +ℤ value y *ℤ pos (den x)) (z +ℤ w)
  add_along =
      subst₂ (λ (a b : ℤ). Along a b) (sym (ap₂ (λ (a b : ℤ). a +ℤ b) left_part right_part)) (ap₂ (λ (a b : ℤ). a +ℤ b) r.whole q.whole) (parts_along r.side q.side)

  pub sub_along : Along (value x *ℤ pos (den y) -ℤ value y *ℤ pos (den x)) (z -ℤ w)
  sub_along =
      subst₂ (λ (a b : ℤ). Along a b)
      (sym (ap₂ (λ (a b : ℤ). a +ℤ b) left_part (ap neg_ℤ right_part ∙ sym (signed_not q.side (num y * den x)))))
      (ap₂ (λ (a b : ℤ). a +ℤ b) r.whole (signed_not q.side q.amount ∙ ap neg_ℤ q.whole))
      (parts_along r.side (not q.side))

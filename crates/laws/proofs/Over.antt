-- Floats that are fractions z / 2^p exactly: sums and products are exact as long as their numerators are at most 2 ^ prec. (`Whole.antt` is p = 0.) Assumes nothing.
use mathlib.Core.Path.{◌≡◌, sym, ap, ap₂, ◌∙◌, subst}
use mathlib.Core.Logic.{inl, inr}
use mathlib.Core.Bool.{Bool}
use Prim.Native.Nat.{ℕ, suc, ◌+◌, ◌-◌, ◌*◌, ◌^◌, ◌≤◌, ◌<◌}
use native.Mathlib.Nat.{le_trans, le_of_eq, lt_of_lt_of_le, lt_of_le_of_lt, mul_comm, mul_assoc, mul-pos, one-mul, eq-or-lt_of_le}
use native.Mathlib.Omega.{arith}
use lib.Dec.{lit<}
use lib.Pow.{pow-add, pow_pos, pow_mono, shl_lt}
use lib.IntN.{ℤ, pos, neg_ℤ, nat_abs, ◌+ℤ◌, ◌-ℤ◌, ◌*ℤ◌}
use lib.Ieee.{Float, nan, inf, fin, Format, binary32, binary64, prec, emax, low, up, down, round, neg, add, sub, mul}
use lib.Ieee.Exact.{HasValue, round_exact}
use lib.Ieee.Positive.{den, den_pos}
use Rattle.laws.specs.Whole.{signed, value}
use Rattle.laws.proofs.Signs.{signed_scale, scale_add}
use Rattle.laws.proofs.Factors.{interchange, times_assoc, times_swap, signed_not, neg_scale}
use Rattle.laws.proofs.Zero.{Number}
use Rattle.laws.proofs.Rounded.{Rounded, rounded_size, respelled, add_rounded, mul_rounded}

-- the float x is z / 2^p; a zero of either sign is 0
abbrev pub Over : ℕ → Float → ℤ → Type 0
Over p x z = Number x × (value x *ℤ pos (2 ^ p) ≡ z *ℤ pos (den x))

pub over_of_value : (p : ℕ) (x : Float) (s : Bool) (a : ℕ) → HasValue x s a (2 ^ p) → Over p x (signed s a)
over_of_value p nan s a v = absurd v
over_of_value p (inf t) s a v = absurd v
over_of_value p (fin t m e) s a v = (tt, signed_scale t (m * up e) (2 ^ p) ∙ ap₂ (λ (b : Bool) (n : ℕ). signed b n) v.0 v.1 ∙ sym (signed_scale s a (down e)))

-- ---- a fraction that a format holds

-- a is q times a power of two, with q of no more digits than the format keeps
module _ (f : Format) (s : Bool) (a p q j : ℕ) (P : p ≤ low f) (small : q < 2 ^ prec f) (e : a ≡ q * 2 ^ j) (top : a < 2 ^ suc (emax f)) where
  exact_at : HasValue (round f s a (2 ^ p)) s a (2 ^ p)
  exact_at =
      let l = low f - p in
      let split : l + p ≡ low f = omega arith in
      let same : a * 2 ^ l ≡ q * 2 ^ (j + l) = ap (λ (n : ℕ). n * 2 ^ l) e ∙ mul_assoc q (2 ^ j) (2 ^ l) ∙ ap (λ (n : ℕ). q * n) (sym (pow-add 2 j l)) in
      let fine : a * 2 ^ l < 2 ^ (low f + suc (emax f)) = lt_of_lt_of_le (shl_lt (suc (emax f)) l top) (pow_mono (omega arith)) in
      round_exact f s a (2 ^ p) q (j + l) (pow_pos p) small (subst (λ (n : ℕ). n < 2 ^ (low f + suc (emax f))) same fine)
      (ap (λ (n : ℕ). a * 2 ^ n) (sym split) ∙ ap (λ (n : ℕ). a * n) (pow-add 2 l p) ∙ sym (mul_assoc a (2 ^ l) (2 ^ p)) ∙ ap (λ (n : ℕ). n * 2 ^ p) same)

reaches : (f : Format) → 2 ^ prec f < 2 ^ suc (emax f)
reaches binary32 = lit< tt
reaches binary64 = lit< tt

one_small : (f : Format) → 1 < 2 ^ prec f
one_small binary32 = lit< tt
one_small binary64 = lit< tt

exact : (f : Format) (s : Bool) (a p : ℕ) → p ≤ low f → a ≤ 2 ^ prec f → HasValue (round f s a (2 ^ p)) s a (2 ^ p)
exact f s a p P h =
    let top : a < 2 ^ suc (emax f) = lt_of_le_of_lt h (reaches f) in
    elim (eq-or-lt_of_le h) [
      | inl e ↦ exact_at f s a p 1 (prec f) P (one_small f) (e ∙ sym (one-mul (2 ^ prec f))) top
      | inr l ↦ exact_at f s a p a 0 P l (sym (mul-one a)) top
    ]
  where
    mul-one : (a : ℕ) → a * 1 ≡ a
    mul-one a = omega arith

pub over_of_rounded : (f : Format) (p : ℕ) (x : Float) (z : ℤ) → p ≤ low f → nat_abs z ≤ 2 ^ prec f → Rounded f x z (2 ^ p) → Over p x z
over_of_rounded f p x z P h r =
    let small : r.amount ≤ 2 ^ prec f = le_trans (le_of_eq (rounded_size f x z (2 ^ p) r)) h in
    subst (λ (w : ℤ). Over p x w) r.whole
    (over_of_value p x r.side r.amount (subst (λ (y : Float). HasValue y r.side r.amount (2 ^ p)) (sym r.is) (exact f r.side r.amount p P small)))

-- ---- the product
module _ (f : Format) (p q : ℕ) (x y : Float) (z w : ℤ) (o : Over p x z) (u : Over q y w) where
  -- of any size: it is the exact product, rounded once
  pub mul_over_rounded : Rounded f (mul f x y) (z *ℤ w) (2 ^ (p + q))
  mul_over_rounded =
      respelled f (mul f x y) (value x *ℤ value y) (den x * den y) (z *ℤ w) (2 ^ (p + q)) (mul-pos (den_pos x) (den_pos y)) (pow_pos (p + q))
      (ap (λ (n : ℕ). value x *ℤ value y *ℤ pos n) (pow-add 2 p q)
      ∙ interchange (value x) (value y) (pos (2 ^ p)) (pos (2 ^ q))
      ∙ ap₂ (λ (a b : ℤ). a *ℤ b) o.1 u.1
      ∙ interchange z (pos (den x)) w (pos (den y)))
      (mul_rounded f x y o.0 u.0)

  pub mul_over : p + q ≤ low f → nat_abs (z *ℤ w) ≤ 2 ^ prec f → Over (p + q) (mul f x y) (z *ℤ w)
  mul_over P h = over_of_rounded f (p + q) (mul f x y) (z *ℤ w) P h mul_over_rounded

-- ---- the sum and the difference
apart : (v z : ℤ) (a b k : ℕ) → v *ℤ pos k ≡ z *ℤ pos a → v *ℤ pos b *ℤ pos k ≡ z *ℤ pos (a * b)
apart v z a b k h = times_swap v (pos b) (pos k) ∙ ap (λ (u : ℤ). u *ℤ pos b) h ∙ times_assoc z (pos a) (pos b)

pub add_over : (f : Format) (p : ℕ) (x y : Float) (z w : ℤ) → Over p x z → Over p y w → p ≤ low f → nat_abs (z +ℤ w) ≤ 2 ^ prec f → Over p (add f x y) (z +ℤ w)
add_over f p x y z w o u P h =
    over_of_rounded f p (add f x y) (z +ℤ w) P h
    (respelled f (add f x y) (value x *ℤ pos (den y) +ℤ value y *ℤ pos (den x)) (den x * den y) (z +ℤ w) (2 ^ p) (mul-pos (den_pos x) (den_pos y)) (pow_pos p)
    (scale_add (value x *ℤ pos (den y)) (value y *ℤ pos (den x)) (pos (2 ^ p))
    ∙ ap₂ (λ (a b : ℤ). a +ℤ b) (apart (value x) z (den x) (den y) (2 ^ p) o.1)
    (apart (value y) w (den y) (den x) (2 ^ p) u.1 ∙ ap (λ (n : ℕ). w *ℤ pos n) (mul_comm (den y) (den x)))
    ∙ sym (scale_add z w (pos (den x * den y))))
    (add_rounded f x y o.0 u.0))

pub neg_over : (p : ℕ) (x : Float) (z : ℤ) → Over p x z → Over p (neg x) (neg_ℤ z)
unfolding neg
neg_over p nan z o = absurd o.0
neg_over p (inf s) z o = absurd o.0
neg_over p (fin s m e) z o =
    (tt, ap (λ (v : ℤ). v *ℤ pos (2 ^ p)) (signed_not s (m * up e)) ∙ neg_scale (signed s (m * up e)) (2 ^ p) ∙ ap neg_ℤ o.1 ∙ sym (neg_scale z (down e)))

pub sub_over : (f : Format) (p : ℕ) (x y : Float) (z w : ℤ) → Over p x z → Over p y w → p ≤ low f → nat_abs (z -ℤ w) ≤ 2 ^ prec f → Over p (sub f x y) (z -ℤ w)
unfolding sub
sub_over f p x y z w o u P h = add_over f p x (neg y) z (neg_ℤ w) o (neg_over p y w u) P h

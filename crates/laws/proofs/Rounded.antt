-- What each operation on floats rounds: `Rounded f x z c` says that x is the fraction z / c, rounded once to the format f. A zero may have either sign. Assumes nothing.
use mathlib.Core.Path.{◌≡◌, refl, sym, ap, ap₂, ◌∙◌, subst}
use mathlib.Core.Bool.{Bool, true, false, cond, not}
use Prim.Native.Nat.{ℕ, ◌+◌, ◌-◌, ◌*◌, ◌≤◌, ◌<◌}
use native.Mathlib.Nat.{le_of_lt, mul-one, sub-eq-zero_of_le}
use borrow.Author.Tests.{ne_eqb}
use lib.Dec.{T, ltb, eqb, ltb→lt, nltb→le}
use lib.IntN.{ℤ, pos, neg_ℤ, nat_abs, ◌+ℤ◌, ◌-ℤ◌, ◌*ℤ◌, +ℤ_comm, neg_ℤ-+ℤ}
use lib.Ieee.{Float, nan, inf, fin, Format, up, down, unlike, round, neg, sum, add, sub, mul, div}
use lib.Ieee.Scale.{round_same}
use lib.Ieee.Positive.{num, den, first_pos}
use Rattle.laws.specs.Whole.{signed, value}
use Rattle.laws.proofs.Signs.{size_signed, signed_scale, signed_mul, size_mul, minus_le, minus_ge}
use Rattle.laws.proofs.Factors.{times_one, signed_not}
use Rattle.laws.proofs.Whole.{rescaled}
use Rattle.laws.proofs.Size.{Signed, pos_ne}
use Rattle.laws.proofs.Zero.{Number}

pub record Rounded (f : Format) (x : Float) (z : ℤ) (c : ℕ) : Type 0 where
  pub side : Bool
  pub amount : ℕ
  pub is : x ≡ round f side amount c
  pub whole : signed side amount ≡ z

pub rounded_size : (f : Format) (x : Float) (z : ℤ) (c : ℕ) (r : Rounded f x z c) → r.amount ≡ nat_abs z
rounded_size f x z c r = sym (size_signed r.side r.amount) ∙ ap nat_abs r.whole

-- the same fraction in other words
pub respelled : (f : Format) (x : Float) (z : ℤ) (c : ℕ) (w : ℤ) (d : ℕ) → 0 < c → 0 < d → z *ℤ pos d ≡ w *ℤ pos c → Rounded f x z c → Rounded f x w d
respelled f x z c w d C D e r =
    let s = r.side in
    let a = r.amount in
    let h : signed s (a * d) ≡ w *ℤ pos c = sym (signed_scale s a d) ∙ ap (λ (k : ℤ). k *ℤ pos d) r.whole ∙ e in
    let k : a * d ≡ nat_abs w * c = sym (size_signed s (a * d)) ∙ ap nat_abs h ∙ size_mul w (pos c) in
    record {
      side = s;
      amount = nat_abs w;
      is = r.is ∙ round_same f s a c (nat_abs w) d C D k;
      whole = ap (λ (n : ℕ). signed s n) (sym (mul-one (nat_abs w))) ∙ rescaled s w c 1 C (ap (λ (n : ℕ). signed s n) (sym k) ∙ h) ∙ times_one w;
    }

-- ---- sums and differences
module _ (f : Format) (c : ℕ) where
  sum_rounded : (s : Bool) (a : ℕ) (t : Bool) (b : ℕ) → Rounded f (sum f s a t b c) (signed s a +ℤ signed t b) c
  unfolding sum
  sum_rounded false a false b = record { side = false; amount = a + b; is = refl; whole = refl }
  sum_rounded true a true b = record { side = true; amount = a + b; is = refl; whole = neg_ℤ-+ℤ (pos a) (pos b) }
  sum_rounded false a true b = go (ltb a b) (ltb→lt a b) (nltb→le a b)
    where
      go : (u : Bool) → (T u → a < b) → (T (not u) → b ≤ a) → Rounded f (cond u (round f true (b - a) c) (round f false (a - b) c)) (pos a -ℤ pos b) c
      go true p q = record { side = true; amount = b - a; is = refl; whole = sym (minus_ge a b (le_of_lt (p tt))) }
      go false p q = record { side = false; amount = a - b; is = refl; whole = sym (minus_le a b (q tt)) }
  sum_rounded true a false b = go (ltb a b) (ltb b a) (ltb→lt a b) (nltb→le a b) (nltb→le b a)
    where
      back : neg_ℤ (pos a) +ℤ pos b ≡ pos b -ℤ pos a
      back = +ℤ_comm (neg_ℤ (pos a)) (pos b)

      go : (u v : Bool) → (T u → a < b) → (T (not u) → b ≤ a) → (T (not v) → a ≤ b)
          → Rounded f (cond u (round f false (b - a) c) (round f v (a - b) c)) (neg_ℤ (pos a) +ℤ pos b) c
      go true v p q r = record { side = false; amount = b - a; is = refl; whole = sym (minus_le b a (le_of_lt (p tt))) ∙ sym back }
      go false true p q r = record { side = true; amount = a - b; is = refl; whole = sym (minus_ge b a (q tt)) ∙ sym back }
      go false false p q r =
          let n : a - b ≡ 0 = sub-eq-zero_of_le (r tt) in
          record { side = false; amount = a - b; is = refl; whole = ap pos n ∙ sym (ap (λ (x : ℕ). neg_ℤ (pos x)) n) ∙ sym (minus_ge b a (q tt)) ∙ sym back }

pub add_rounded : (f : Format) (x y : Float) → Number x → Number y → Rounded f (add f x y) (value x *ℤ pos (den y) +ℤ value y *ℤ pos (den x)) (den x * den y)
unfolding add
add_rounded f nan y p q = absurd p
add_rounded f (inf s) y p q = absurd p
add_rounded f (fin s m e) nan p q = absurd q
add_rounded f (fin s m e) (inf t) p q = absurd q
add_rounded f (fin s m e) (fin t n d) p q =
    subst (λ (z : ℤ). Rounded f (sum f s (m * up e * down d) t (n * up d * down e) (down e * down d)) z (down e * down d))
    (sym (ap₂ (λ (a b : ℤ). a +ℤ b) (signed_scale s (m * up e) (down d)) (signed_scale t (n * up d) (down e))))
    (sum_rounded f (down e * down d) s (m * up e * down d) t (n * up d * down e))

pub sub_rounded : (f : Format) (x y : Float) → Number x → Number y → Rounded f (sub f x y) (value x *ℤ pos (den y) -ℤ value y *ℤ pos (den x)) (den x * den y)
unfolding sub add neg
sub_rounded f nan y p q = absurd p
sub_rounded f (inf s) y p q = absurd p
sub_rounded f (fin s m e) nan p q = absurd q
sub_rounded f (fin s m e) (inf t) p q = absurd q
sub_rounded f (fin s m e) (fin t n d) p q =
    subst (λ (z : ℤ). Rounded f (sum f s (m * up e * down d) (not t) (n * up d * down e) (down e * down d)) z (down e * down d))
    (ap₂ (λ (a b : ℤ). a +ℤ b) (sym (signed_scale s (m * up e) (down d))) (signed_not t (n * up d * down e) ∙ ap neg_ℤ (sym (signed_scale t (n * up d) (down e)))))
    (sum_rounded f (down e * down d) s (m * up e * down d) (not t) (n * up d * down e))

-- ---- products and quotients
pub mul_rounded : (f : Format) (x y : Float) → Number x → Number y → Rounded f (mul f x y) (value x *ℤ value y) (den x * den y)
unfolding mul
mul_rounded f nan y p q = absurd p
mul_rounded f (inf s) y p q = absurd p
mul_rounded f (fin s m e) nan p q = absurd q
mul_rounded f (fin s m e) (inf t) p q = absurd q
mul_rounded f (fin s m e) (fin t n d) p q = record { side = unlike s t; amount = m * up e * (n * up d); is = refl; whole = sym (signed_mul s t (m * up e) (n * up d)) }

unlike_false : (s : Bool) → unlike s false ≡ s
unlike_false false = refl
unlike_false true = refl

-- by a number above 0
pub div_rounded : (f : Format) (x y : Float) → Number x → Signed y false → 0 < num y → Rounded f (div f x y) (value x *ℤ pos (den y)) (num y * den x)
unfolding div
div_rounded f nan y p q h = absurd p
div_rounded f (inf s) y p q h = absurd p
div_rounded f (fin s m e) nan p q h = absurd q
div_rounded f (fin s m e) (inf t) p q h = absurd q
div_rounded f (fin s m e) (fin t n d) p q h =
    record {
      side = s;
      amount = m * up e * down d;
      is =
          ap (λ (b : Bool). cond b (cond (eqb m 0) nan (inf (unlike s t))) (round f (unlike s t) (m * up e * down d) (n * up d * down e))) (ne_eqb n 0 (pos_ne n (first_pos n (up d) h)))
          ∙ ap (λ (b : Bool). round f (unlike s b) (m * up e * down d) (n * up d * down e)) q.0
          ∙ ap (λ (b : Bool). round f b (m * up e * down d) (n * up d * down e)) (unlike_false s);
      whole = sym (signed_scale s (m * up e) (down d));
    }

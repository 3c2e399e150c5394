-- Products of whole numbers with their signs: factors change places. Nothing here is about floats. Assumes nothing.
use mathlib.Core.Path.{◌≡◌, refl, sym, ap, ap₂, ◌∙◌}
use mathlib.Core.Bool.{Bool, true, false, not}
use Prim.Native.Nat.{ℕ, ◌*◌}
use native.Mathlib.Nat.{mul-one, mul-mul-mul_comm}
use lib.IntN.{ℤ, pos, neg_ℤ, nat_abs, ◌*ℤ◌, *ℤ_comm, neg_ℤ-neg_ℤ}
use lib.Ieee.{unlike}
use Rattle.laws.specs.Whole.{signed}
use Rattle.laws.proofs.Signs.{sign_of, by_sign, signed_scale, signed_mul}

unlike_mid : (s t u v : Bool) → unlike (unlike s t) (unlike u v) ≡ unlike (unlike s u) (unlike t v)
unlike_mid false false false false = refl
unlike_mid false false false true = refl
unlike_mid false false true false = refl
unlike_mid false false true true = refl
unlike_mid false true false false = refl
unlike_mid false true false true = refl
unlike_mid false true true false = refl
unlike_mid false true true true = refl
unlike_mid true false false false = refl
unlike_mid true false false true = refl
unlike_mid true false true false = refl
unlike_mid true false true true = refl
unlike_mid true true false false = refl
unlike_mid true true false true = refl
unlike_mid true true true false = refl
unlike_mid true true true true = refl

pair : (a b : ℤ) → a *ℤ b ≡ signed (unlike (sign_of a) (sign_of b)) (nat_abs a * nat_abs b)
pair a b = ap₂ (λ (x y : ℤ). x *ℤ y) (by_sign a) (by_sign b) ∙ signed_mul (sign_of a) (sign_of b) (nat_abs a) (nat_abs b)

four : (a b c d : ℤ) → a *ℤ b *ℤ (c *ℤ d) ≡ signed (unlike (unlike (sign_of a) (sign_of b)) (unlike (sign_of c) (sign_of d))) (nat_abs a * nat_abs b * (nat_abs c * nat_abs d))
four a b c d =
    ap₂ (λ (x y : ℤ). x *ℤ y) (pair a b) (pair c d)
    ∙ signed_mul (unlike (sign_of a) (sign_of b)) (unlike (sign_of c) (sign_of d)) (nat_abs a * nat_abs b) (nat_abs c * nat_abs d)

pub interchange : (a b c d : ℤ) → a *ℤ b *ℤ (c *ℤ d) ≡ a *ℤ c *ℤ (b *ℤ d)
interchange a b c d =
    four a b c d
    ∙ ap₂ (λ (s : Bool) (n : ℕ). signed s n) (unlike_mid (sign_of a) (sign_of b) (sign_of c) (sign_of d)) (mul-mul-mul_comm (nat_abs a) (nat_abs b) (nat_abs c) (nat_abs d))
    ∙ sym (four a c b d)

pub times_one : (a : ℤ) → a *ℤ pos 1 ≡ a
times_one a =
    ap (λ (x : ℤ). x *ℤ pos 1) (by_sign a) ∙ signed_scale (sign_of a) (nat_abs a) 1 ∙ ap (λ (n : ℕ). signed (sign_of a) n) (mul-one (nat_abs a)) ∙ sym (by_sign a)

pub times_assoc : (a b c : ℤ) → a *ℤ b *ℤ c ≡ a *ℤ (b *ℤ c)
times_assoc a b c =
    ap (λ (x : ℤ). a *ℤ b *ℤ x) (sym (*ℤ_comm (pos 1) c ∙ times_one c)) ∙ interchange a b (pos 1) c ∙ ap (λ (x : ℤ). x *ℤ (b *ℤ c)) (times_one a)

pub times_swap : (a b c : ℤ) → a *ℤ b *ℤ c ≡ a *ℤ c *ℤ b
times_swap a b c = times_assoc a b c ∙ ap (λ (x : ℤ). a *ℤ x) (*ℤ_comm b c) ∙ sym (times_assoc a c b)

-- ---- the other sign
pub signed_not : (s : Bool) (n : ℕ) → signed (not s) n ≡ neg_ℤ (signed s n)
signed_not false n = refl
signed_not true n = sym (neg_ℤ-neg_ℤ (pos n))

pub neg_scale : (z : ℤ) (d : ℕ) → neg_ℤ z *ℤ pos d ≡ neg_ℤ (z *ℤ pos d)
neg_scale z d =
    let s = sign_of z in
    let n = nat_abs z in
    ap (λ (x : ℤ). x *ℤ pos d) (ap neg_ℤ (by_sign z) ∙ sym (signed_not s n))
    ∙ signed_scale (not s) n d
    ∙ signed_not s (n * d)
    ∙ ap neg_ℤ (sym (signed_scale s n d) ∙ ap (λ (x : ℤ). x *ℤ pos d) (sym (by_sign z)))

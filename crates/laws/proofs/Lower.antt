-- What rounding leaves of a fraction in the normal range: near all of it, so a number that is not 0 stays one. Assumes nothing.
use mathlib.Core.Path.{◌≡◌, sym, ap, ◌∙◌, subst}
use mathlib.Core.Logic.{inl, inr}
use Prim.Native.Nat.{ℕ, ◌+◌, ◌-◌, ◌*◌, ◌^◌, ◌≤◌, ◌<◌, zero-le}
use native.Mathlib.Nat.{le_trans, le_of_eq, zero-mul, eq-zero-or-pos}
use lib.Dec.{lit≤, lit<}
use lib.IntN.{ℤ, nat_abs}
use lib.Ieee.{Float, Format, binary32, binary64, prec, emax}
use lib.Ieee.Positive.{num, den, den_pos}
use Rattle.laws.proofs.Ratio.{Ratio}
use Rattle.laws.proofs.Close.{Normal, round_close}
use Rattle.laws.proofs.Size.{Size, SizeOf, size_near, normal}
use Rattle.laws.proofs.Zero.{Number}
use Rattle.laws.proofs.Rounded.{Rounded, rounded_size}
use Rattle.laws.proofs.Bounded.{rounded_null}

ratio_none : (n d a c l h k : ℕ) → n ≡ 0 → a ≡ 0 → Ratio n d a c l h k
ratio_none n d a c l h k p q =
    record {
      low = le_trans (le_of_eq (ap (λ (x : ℕ). x * d * l) q ∙ ap (λ (x : ℕ). x * l) (zero-mul d) ∙ zero-mul l)) zero-le;
      high = le_trans (le_of_eq (ap (λ (x : ℕ). x * c * k) p ∙ ap (λ (x : ℕ). x * k) (zero-mul c) ∙ zero-mul k)) zero-le;
    }

pub rounded_ratio : (f : Format) (x : Float) (z : ℤ) (c : ℕ) (r : Rounded f x z c) → Number x → 0 < c → (0 < r.amount → Normal f r.amount c)
    → Ratio (num x) (den x) r.amount c (2 ^ prec f - 1) (2 ^ prec f + 1) (2 ^ prec f)
rounded_ratio f x z c r X C h =
    elim (eq-zero-or-pos r.amount) [
      | inl e ↦ ratio_none (num x) (den x) r.amount c (2 ^ prec f - 1) (2 ^ prec f + 1) (2 ^ prec f) (rounded_null f x z c r X C e) e
      | inr p ↦
          subst (λ (y : Float). Ratio (num y) (den y) r.amount c (2 ^ prec f - 1) (2 ^ prec f + 1) (2 ^ prec f)) (sym r.is)
          (round_close f r.side r.amount c (h p)).ratio
    ]

low_pos : (f : Format) → 0 < 2 ^ prec f - 1
low_pos binary32 = lit< tt
low_pos binary64 = lit< tt

all_pos : (f : Format) → 0 < 2 ^ prec f
all_pos binary32 = lit< tt
all_pos binary64 = lit< tt

half_low : (f : Format) → 2 ^ prec f ≤ 2 * (2 ^ prec f - 1)
half_low binary32 = lit≤ tt
half_low binary64 = lit≤ tt

twice_high : (f : Format) → 2 ^ prec f + 1 ≤ 2 * 2 ^ prec f
twice_high binary32 = lit≤ tt
twice_high binary64 = lit≤ tt

-- between 1 / A and B before, and between half of 1 / A and twice B after
pub rounded_stays : (f : Format) (x : Float) (z : ℤ) (c A B : ℕ) → Rounded f x z c → Number x → Size (nat_abs z) c A B → A ≤ 2 ^ (emax f - 1) → B < 2 ^ emax f → SizeOf x (A * 2) (B * 2)
rounded_stays f x z c A B r X z' a b =
    let s : Size r.amount c A B = subst (λ (n : ℕ). Size n c A B) (sym (rounded_size f x z c r)) z' in
    size_near (num x) (den x) r.amount c (2 ^ prec f - 1) (2 ^ prec f + 1) (2 ^ prec f) A B (den_pos x) (low_pos f) (all_pos f) (half_low f) (twice_high f)
    (rounded_ratio f x z c r X s.whole (λ p. normal f r.amount c A B s a b)) s

-- An f64 as the nearest f32: within one part in 2 ^ 24 where its size lies between 2 ^ -126 and 2 ^ 127, and a zero of a zero. (NearestValue.antt has the whole normal range.) Assumes nothing.
use mathlib.Core.Path.{◌≡◌, sym, ap, ◌∙◌, subst}
use mathlib.Core.Bool.{Bool}
use Prim.Native.Nat.{ℕ, ◌+◌, ◌-◌, ◌*◌, ◌^◌, ◌≤◌, ◌<◌}
use native.Mathlib.Nat.{zero-mul}
use lib.Ieee.{Float, nan, inf, fin, binary32, prec, emax, up, down, round}
use lib.Ieee.Fits.{down_pos}
use lib.Ieee.Positive.{num, den}
use Rattle.number.specs.Number.{narrow}
use Rattle.laws.proofs.Close.{Close, round_close}
use Rattle.laws.proofs.Size.{normal, Signed, SizeOf}
use Rattle.laws.proofs.Zero.{Null, null_round}

pub narrow_is : (x : Float) (s : Bool) → Signed x s → narrow x ≡ round binary32 s (num x) (den x)
unfolding narrow
narrow_is nan s h = absurd h
narrow_is (inf t) s h = absurd h
narrow_is (fin t m e) s h = ap (λ (b : Bool). round binary32 b (m * up e) (down e)) h.0

-- x lies between 1 / A and B in size, and those between the least normal f32, 2 ^ -126, and 2 ^ 127
pub narrow_close : (x : Float) (s : Bool) (A B : ℕ) → Signed x s → SizeOf x A B → A ≤ 2 ^ (emax binary32 - 1) → B < 2 ^ emax binary32
    → Close (narrow x) s (num x) (den x) (2 ^ prec binary32 - 1) (2 ^ prec binary32 + 1) (2 ^ prec binary32)
narrow_close x s A B h z a b =
    subst (λ (y : Float). Close y s (num x) (den x) (2 ^ prec binary32 - 1) (2 ^ prec binary32 + 1) (2 ^ prec binary32)) (sym (narrow_is x s h))
    (round_close binary32 s (num x) (den x) (normal binary32 (num x) (den x) A B z a b))

pub null_narrow : (x : Float) → Null x → Null (narrow x)
unfolding narrow
null_narrow nan h = absurd h
null_narrow (inf s) h = absurd h
null_narrow (fin s m e) h = null_round binary32 s (m * up e) (down e) (down_pos e) (ap (λ (k : ℕ). k * up e) h ∙ zero-mul (up e))

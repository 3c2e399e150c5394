-- A rule at every number below a limit, from one test that antt computes at each of them: how a rule of a constant table is proved. Assumes nothing.
use mathlib.Core.Path.{◌≡◌, sym, subst}
use mathlib.Core.Logic.{⊎_elim}
use mathlib.Core.Bool.{Bool, true, false, ◌&&◌, cond}
use Prim.Native.Nat.{ℕ, zero, suc, ◌<◌}
use native.Mathlib.Nat.{not-suc-le-zero, eq-or-lt_of_le, le_of_suc-le-suc}
use lib.Dec.{T}

pub both_left : (a b : Bool) → T (a && b) → T a
both_left true b t = tt
both_left false b t = t

pub both_right : (a b : Bool) → T (a && b) → T b
both_right true b t = t
both_right false b t = absurd t

-- b, asked only where a holds
abbrev pub asked : Bool → Bool → Bool
asked a b = cond a b true

pub asked_at : (a b : Bool) → a ≡ true → T (asked a b) → T b
asked_at a b e h = subst (λ (x : Bool). T (asked x b)) e h

-- the test f passes at every number below n
abbrev pub all_below : (ℕ → Bool) → ℕ → Bool
all_below f zero = true
all_below f (suc n) = f n && all_below f n

pub at : (f : ℕ → Bool) (n : ℕ) → T (all_below f n) → (k : ℕ) → k < n → T (f k)
at f zero t k h = absurd (not-suc-le-zero h)
at f (suc n) t k h =
    ⊎_elim (λ e. subst (λ (x : ℕ). T (f x)) (sym e) (both_left (f n) (all_below f n) t))
    (λ l. at f n (both_right (f n) (all_below f n) t) k l)
    (eq-or-lt_of_le (le_of_suc-le-suc h))

-- A sum that meets a NaN anywhere is a NaN, and the size of a number is none. Assumes nothing.
use mathlib.Core.Path.{◌≡◌, ap, ◌∙◌}
use mathlib.Core.Bool.{not}
use mathlib.Core.List.{List}
use Prim.Native.Nat.{ℕ, zero, suc, ◌<◌}
use native.Mathlib.Omega.{arith}
use native.Mathlib.Decide.{dec_le}
use lib.Dec.{T}
use lib.ListN.{length, get_or}
use lib.Ieee.{Float, nan, inf, fin, binary64, add, is_nan}
use Rattle.laws.specs.Literals.{zero64}
use Rattle.laws.specs.Walks.{over}
use Rattle.number.specs.Number.{abs}
use Rattle.figures.specs.Levels.{adding, sum_of}
use Rattle.laws.proofs.NotNumber.{add_nan, nan_add}

module _ (f : Float → Float) (xs : List Float) (k : ℕ) (e : f (get_or xs k nan) ≡ nan) where
  pub by_then : (n : ℕ) → k < n → over (adding f) zero64 xs n ≡ nan
  unfolding over
  by_then zero h = absurd (never k h)
    where
      never : (k : ℕ) → k < 0 → ⊥
      never k h = omega arith
  by_then (suc n) h =
      elim (dec_le n k) [
        | yes l ↦
            let m : n ≡ k = omega arith in
            ap (λ (i : ℕ). add binary64 (over (adding f) zero64 xs n) (f (get_or xs i nan))) m
            ∙ (ap (add binary64 (over (adding f) zero64 xs n)) e ∙ add_nan binary64 _)
        | no l ↦ ap (λ (t : Float). add binary64 t (f (get_or xs n nan))) (by_then n (omega arith)) ∙ nan_add binary64 _
      ]

  pub nan_sum : k < length xs → sum_of f xs ≡ nan
  unfolding sum_of
  nan_sum h = by_then (length xs) h

pub size_number : (x : Float) → T (not (is_nan x)) → T (not (is_nan (abs x)))
unfolding abs is_nan
size_number nan h = h
size_number (inf s) h = tt
size_number (fin s m e) h = tt

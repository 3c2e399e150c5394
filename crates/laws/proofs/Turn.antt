-- One turn more is one step more; the first sample first. Assumes nothing.
use mathlib.Core.Path.{◌≡◌, refl, sym, ap, ◌∙◌}
use mathlib.Core.List.{List, [], ◌∷◌}
use Prim.Native.Nat.{ℕ, zero, suc, ◌+◌, ◌-◌, ◌≤◌}
use native.Mathlib.Nat.{zero-add}
use native.Mathlib.Numerals.{add-one}
use native.Mathlib.Omega.{arith}
use lib.ListN.{drop, get_or}
use lib.Ieee.{Float, nan}
use Rattle.laws.specs.Walks.{over, pairs}

module _ {A : Type 0} where
  pub over_next : (f : A → Float → A) (a : A) (xs : List Float) (k : ℕ) {t : A} {x : Float}
      → t ≡ over f a xs k → x ≡ get_or xs k nan → f t x ≡ over f a xs (k + 1)
  unfolding over
  over_next f a xs k p q = rw add-one (cc)

  -- the first sample first
  pub over_front : (f : A → Float → A) (a : A) (x : Float) (xs : List Float) (k : ℕ) → over f a (x ∷ xs) (suc k) ≡ over f (f a x) xs k
  unfolding over
  over_front f a x xs zero = refl
  over_front f a x xs (suc k) = ap (λ (t : A). f t (get_or xs k nan)) (over_front f a x xs k)

  -- where the walk begins at a place
  pub over_from : (f : A → Float → A) (a : A) (xs : List Float) (from k : ℕ) → over f a (drop from xs) (suc k) ≡ f (over f a (drop from xs) k) (get_or xs (from + k) nan)
  unfolding over
  over_from f a xs from k = ap (f (over f a (drop from xs) k)) (there from xs)
    where
      there : (from : ℕ) (xs : List Float) → get_or (drop from xs) k nan ≡ get_or xs (from + k) nan
      there zero xs = ap (λ (i : ℕ). get_or xs i nan) (sym (zero-add k))
      there (suc i) [] = refl
      there (suc i) (x ∷ xs) = there i xs ∙ ap (λ (j : ℕ). get_or (x ∷ xs) j nan) (next i)
        where
          next : (i : ℕ) → suc (i + k) ≡ suc i + k
          next i = omega arith

  at_place : (f : A → ℕ → Float → Float → A) (a : A) (xs : List Float) (i j k : ℕ) {t : A} {p c : Float}
      → i ≡ suc j → k ≡ suc j → t ≡ pairs f a xs j → p ≡ get_or xs j nan → c ≡ get_or xs i nan → f t i p c ≡ pairs f a xs k
  unfolding pairs
  at_place f a xs i j k e d u v w = rw d (cc)

  -- at the place i, which the loop counts from 1
  pub pairs_next : (f : A → ℕ → Float → Float → A) (a : A) (xs : List Float) (i : ℕ) {t : A} {p c : Float}
      → 1 ≤ i → t ≡ pairs f a xs (i - 1) → p ≡ get_or xs (i - 1) nan → c ≡ get_or xs i nan → f t i p c ≡ pairs f a xs (i + 1 - 1)
  pairs_next f a xs i h u v w = at_place f a xs i (i - 1) (i + 1 - 1) (omega arith) (omega arith) u v w

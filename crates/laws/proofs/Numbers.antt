-- A comparison of a float with itself tells a NaN; and where a pass over all samples found none, each sample is a number. Assumes nothing.
use mathlib.Core.Path.{◌≡◌, refl, sym, subst, ◌∙◌}
use mathlib.Core.Bool.{Bool, true, false, not, ◌&&◌}
use mathlib.Core.List.{List}
use Prim.Native.Nat.{ℕ, zero, suc, ◌+◌, ◌<◌}
use native.Mathlib.Nat.{zero-add}
use native.Mathlib.Omega.{arith}
use native.Mathlib.Decide.{dec_le}
use lib.Dec.{T}
use lib.ListN.{length, get_or}
use lib.Ieee.{Float, nan, inf, fin, is_nan, ne}
use lib.Ieee.Compare.{differs_from_itself, nan_differs}
use Rattle.laws.specs.Samples.{still_numbers, all_numbers, numbers_in}
use Rattle.laws.proofs.Turn.{over_from}

-- what `x != x` says
pub is_nan_lem : (x : Float) → ne x x ≡ true → x ≡ nan
is_nan_lem x e = differs_from_itself x (subst T (sym e) tt)

pub no_nan : (x : Float) → ne x x ≡ false → T (not (is_nan x))
unfolding is_nan
no_nan nan e = absurd (subst T (sym nan_differs ∙ e) tt)
no_nan (inf s) e = tt
no_nan (fin s m d) e = tt

pub number_same : (x : Float) → T (not (is_nan x)) → ne x x ≡ false
unfolding is_nan
number_same x h = go (ne x x) refl
  where
    go : (b : Bool) → ne x x ≡ b → ne x x ≡ false
    go false e = e
    go true e = absurd (subst (λ (y : Float). T (not (is_nan y))) (is_nan_lem x e) h)

-- ---- one pass over the samples
pub still_nan : (t : Bool) (x : Float) → ne x x ≡ true → false ≡ still_numbers t x
unfolding still_numbers is_nan
still_nan t x e = subst (λ (y : Float). false ≡ (t && not (is_nan y))) (sym (is_nan_lem x e)) (none t)
  where
    none : (t : Bool) → false ≡ (t && false)
    none true = refl
    none false = refl

pub still_number : (t : Bool) (x : Float) → ne x x ≡ false → t ≡ still_numbers t x
unfolding still_numbers
still_number t x e = go t (not (is_nan x)) (no_nan x e)
  where
    go : (t u : Bool) → T u → t ≡ (t && u)
    go true true h = refl
    go false u h = refl
    go true false h = absurd h

both : (t u : Bool) → (t && u) ≡ true → (t ≡ true) × T u
both true true e = (refl, tt)
both true false e = absurd (subst T (sym e) tt)
both false u e = absurd (subst T (sym e) tt)

-- one sample more
pub numbers_in_next : (xs : List Float) (from k : ℕ) → numbers_in xs from (suc k) ≡ still_numbers (numbers_in xs from k) (get_or xs (from + k) nan)
unfolding numbers_in
numbers_in_next xs from k = over_from still_numbers true xs from k

-- where some samples were found to be numbers, each of them is
pub numbers_in_at : (xs : List Float) (from n k : ℕ) → numbers_in xs from n ≡ true → k < n → T (not (is_nan (get_or xs (from + k) nan)))
unfolding still_numbers
numbers_in_at xs from zero k e h = absurd (never k h)
  where
    never : (k : ℕ) → k < 0 → ⊥
    never k h = omega arith
numbers_in_at xs from (suc n) k e h =
    let b = both (numbers_in xs from n) (not (is_nan (get_or xs (from + n) nan))) (sym (numbers_in_next xs from n) ∙ e) in
    elim (dec_le n k) [
      | yes l ↦ let m : k ≡ n = omega arith in subst (λ (i : ℕ). T (not (is_nan (get_or xs (from + i) nan)))) (sym m) b.1
      | no l ↦ numbers_in_at xs from n k b.0 (omega arith)
    ]

pub all_numbers_at : (xs : List Float) (k : ℕ) → all_numbers xs ≡ true → k < length xs → T (not (is_nan (get_or xs k nan)))
unfolding all_numbers
all_numbers_at xs k e h = subst (λ (i : ℕ). T (not (is_nan (get_or xs i nan)))) (zero-add k) (numbers_in_at xs 0 (length xs) k e h)

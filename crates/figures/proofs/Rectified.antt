-- Where the rectified mean is finite, so is every sample: an infinity or a NaN stays through the sum of the sizes, its quotient and its narrowing. Assumes nothing.
use Prim.Native.Nat.{ℕ, zero, suc, ◌<◌}
use native.Mathlib.Omega.{arith}
use native.Mathlib.Decide.{dec_le}
use mathlib.Core.Path.{◌≡◌, refl, sym, ap, subst, ◌∙◌}
use mathlib.Core.Bool.{Bool, true, false}
use mathlib.Core.List.{List}
use lib.Dec.{T}
use lib.ListN.{length, get_or}
use lib.Ieee.{Float, nan, binary64}
use lib.Ieee.Scale.{finite}
use Rattle.laws.specs.Literals.{zero64, count64}
use Rattle.laws.specs.Walks.{over}
use Rattle.laws.proofs.NotFinite.{beyond_add, add_beyond, beyond_div}
use Rattle.number.specs.Number.{abs}
use Rattle.number.proofs.NotFinite.{narrow_beyond, abs_beyond}
use Rattle.timing.specs.Timing.{narrowed_mean}
use Rattle.counts.specs.declared.parts.Counts.{Counts}
use Rattle.counts.specs.Counts.{counts_of}
use Rattle.counts.specs.Claims.{AllFinite}
use Rattle.counts.proofs.Finite.{zero_exactly}
use Rattle.figures.specs.Levels.{adding, sum_of, rectified_of}

module _ (xs : List Float) (k : ℕ) (h : finite (get_or xs k nan) ≡ false) where
  sum_beyond : (n : ℕ) → k < n → finite (over (adding abs) zero64 xs n) ≡ false
  unfolding over
  sum_beyond zero l = absurd (never k l)
    where
      never : (k : ℕ) → k < 0 → ⊥
      never k l = omega arith
  sum_beyond (suc n) l =
      elim (dec_le n k) [
        | yes m ↦
            let e : k ≡ n = omega arith in
            add_beyond binary64 (over (adding abs) zero64 xs n) (abs (get_or xs n nan)) (abs_beyond (get_or xs n nan) (subst (λ (i : ℕ). finite (get_or xs i nan) ≡ false) e h))
        | no m ↦ beyond_add binary64 (over (adding abs) zero64 xs n) (abs (get_or xs n nan)) (sum_beyond n (omega arith))
      ]

  mean_beyond : k < length xs → finite (rectified_of xs) ≡ false
  unfolding rectified_of narrowed_mean sum_of
  mean_beyond l = narrow_beyond _ (beyond_div binary64 (sum_of abs xs) (count64 (length xs)) (sum_beyond (length xs) l))

all_finite : (xs : List Float) → finite (rectified_of xs) ≡ true → AllFinite xs
all_finite xs e k l = go (finite (get_or xs k nan)) refl
  where
    go : (b : Bool) → finite (get_or xs k nan) ≡ b → T b
    go true h = tt
    go false h = subst T (sym e ∙ mean_beyond xs k h l) tt

-- so there is nothing to count
abbrev nothing : Counts
nothing = record { not_numbers = 0; infinite = 0 }

pub none_to_count : (xs : List Float) (r : Float) → r ≡ rectified_of xs → finite r ≡ true → nothing ≡ counts_of xs
none_to_count xs r e h =
    let z = (zero_exactly xs).1 (all_finite xs (ap finite (sym e) ∙ h)) in
    rw (z.0, z.1)

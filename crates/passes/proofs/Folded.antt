-- A fold over the first samples is the walk over them. Assumes nothing.
use Rattle.std.proofs.Common.{◌≡◌, ℕ, ◌≤◌, zero, suc, List, [], ◌∷◌, length, take, map, sym, refl, ap, ◌∙◌}
use native.Mathlib.Nat.{not-suc-le-zero, le_of_suc-le-suc}
use denote.Bor.{Bor}
use Rattle.std.specs.List.{fold}
use Rattle.std.proofs.lemmas.List.Folds.{fold-map}
use lib.Ieee.{Float}
use Rattle.laws.specs.Walks.{over}
use Rattle.laws.proofs.Turn.{over_front}

module _ {A : Type 0} (f g : A → Float → A) (same : (a : A) (x : Float) → f a x ≡ g a x) where
  walked : (a : A) (k : ℕ) (xs : List Float) → k ≤ length xs → fold f a (take k xs) ≡ over g a xs k
  unfolding over
  walked a zero xs h = refl
  walked a (suc k) [] h = absurd (not-suc-le-zero h)
  walked a (suc k) (x ∷ xs) h = walked (f a x) k xs (le_of_suc-le-suc h) ∙ (ap (λ (b : A). over g b xs k) (same a x) ∙ sym (over_front g a x xs k))

  -- the items that the iterator lends are the samples
  pub folded : (a : A) (items : List (Bor Float)) (k : ℕ) (xs : List Float) {r : A} → r ≡ fold (λ (b : A) (x : Bor Float). f b x.now) a items
      → map (λ (x : Bor Float). x.now) items ≡ take k xs → k ≤ length xs → r ≡ over g a xs k
  folded a items k xs p q h = p ∙ (sym (fold-map f (λ (x : Bor Float). x.now) a items) ∙ (ap (fold f a) q ∙ walked a k xs h))

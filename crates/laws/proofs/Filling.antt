-- A loop that fills a slice from the front, one store a turn, with f k at place k: `filled f k out` is the slice after k turns.
-- Assumes nothing.
use mathlib.Core.Path.{◌≡◌, refl, ap}
use mathlib.Core.List.{List, [], ◌∷◌, map}
use Prim.Native.Nat.{ℕ, zero, suc, ◌+◌, ◌<◌, ◌≤◌}
use native.Mathlib.Nat.{not-suc-le-zero, le_of_suc-le-suc}
use native.Mathlib.Numerals.{add-one}
use lib.ListN.{length, get_or, set}
use Rattle.laws.specs.Filled.{filled}

module _ {A : Type 0} where
  -- before the first turn
  pub filled_none : (f : ℕ → A) (out : List A) → out ≡ filled f 0 out
  unfolding filled
  filled_none f out = refl

  pub filled_length : (f : ℕ → A) (k : ℕ) (out : List A) → length (filled f k out) ≡ length out
  unfolding filled
  filled_length f zero out = refl
  filled_length f (suc k) [] = refl
  filled_length f (suc k) (o ∷ out) = ap suc (filled_length (λ (j : ℕ). f (suc j)) k out)

  -- a place that is written, and one that stays
  pub filled_at : (f : ℕ → A) (k : ℕ) (out : List A) (d : A) (j : ℕ) → j < k → j < length out → get_or (filled f k out) j d ≡ f j
  unfolding filled
  filled_at f zero out d j h l = absurd (not-suc-le-zero h)
  filled_at f (suc k) [] d j h l = absurd (not-suc-le-zero l)
  filled_at f (suc k) (o ∷ out) d zero h l = refl
  filled_at f (suc k) (o ∷ out) d (suc j) h l = filled_at (λ (i : ℕ). f (suc i)) k out d j (le_of_suc-le-suc h) (le_of_suc-le-suc l)

  pub filled_past : (f : ℕ → A) (k : ℕ) (out : List A) (d : A) (j : ℕ) → k ≤ j → get_or (filled f k out) j d ≡ get_or out j d
  unfolding filled
  filled_past f zero out d j h = refl
  filled_past f (suc k) [] d j h = refl
  filled_past f (suc k) (o ∷ out) d zero h = absurd (not-suc-le-zero h)
  filled_past f (suc k) (o ∷ out) d (suc j) h = filled_past (λ (i : ℕ). f (suc i)) k out d j (le_of_suc-le-suc h)

  filled_suc : (f : ℕ → A) (k : ℕ) (out : List A) → k < length out → set (filled f k out) k (f k) ≡ filled f (suc k) out
  unfolding filled
  filled_suc f k [] h = absurd (not-suc-le-zero h)
  filled_suc f zero (o ∷ out) h = refl
  filled_suc f (suc k) (o ∷ out) h = ap (λ (l : List A). f zero ∷ l) (filled_suc (λ (j : ℕ). f (suc j)) k out (le_of_suc-le-suc h))

  -- one turn
  pub filled_next : (f : ℕ → A) (k : ℕ) (out now : List A) (v : A) → k < length out → v ≡ f k → now ≡ filled f k out → set now k v ≡ filled f (k + 1) out
  filled_next f k out now v h e i = rw (e, i, add-one) (filled_suc f k out h)

  -- every place from its own old value
  pub filled_map : (g : A → A) (d : A) (s : List A) → filled (λ (j : ℕ). g (get_or s j d)) (length s) s ≡ map g s
  unfolding filled
  filled_map g d [] = refl
  filled_map g d (x ∷ s) = ap (λ (l : List A). g x ∷ l) (filled_map g d s)

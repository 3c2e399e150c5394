-- The crossings up to a place, and what the next place adds to them. Assumes nothing.
use Rattle.std.proofs.Common.{◌≡◌, ℕ, zero, suc, ◌+◌, ◌-◌, ◌≤◌, Bool, true, false, cond, eqb, List, length, get_or, sym, refl, ap, ◌∙◌, subst, arith, ne_eqb}
use lib.Ieee.{Float, nan}
use Rattle.laws.specs.Walks.{pairs}
use Rattle.laws.proofs.Turn.{pairs_next}
use Rattle.timing.specs.declared.parts.Crossings.{Crossings}
use Rattle.timing.specs.Timing.{rises_at, first_of, one_more, crossing_at, no_crossing, crossings_of}

module _ (mean : Float) (xs : List Float) where
  abbrev pub up_to : ℕ → Crossings
  up_to k = pairs (crossing_at mean) no_crossing xs k

  -- whether the samples cross the mean at the place i
  abbrev pub crosses : ℕ → Bool
  crosses i = rises_at mean (get_or xs (i - 1) nan) (get_or xs i nan)

  step : (i : ℕ) → 1 ≤ i → up_to i ≡ cond (crosses i) (one_more (up_to (i - 1)) i) (up_to (i - 1))
  unfolding crossing_at
  step i h =
      let e : i + 1 - 1 ≡ i = omega arith in
      sym (subst (λ (k : ℕ). crossing_at mean (up_to (i - 1)) i (get_or xs (i - 1) nan) (get_or xs i nan) ≡ up_to k) e (pairs_next (crossing_at mean) no_crossing xs i h refl refl refl))

  pub none_at : (i : ℕ) → 1 ≤ i → crosses i ≡ false → up_to i ≡ up_to (i - 1)
  none_at i h e = step i h ∙ ap (λ (b : Bool). cond b (one_more (up_to (i - 1)) i) (up_to (i - 1))) e

  pub one_at : (i : ℕ) → 1 ≤ i → crosses i ≡ true → up_to i ≡ one_more (up_to (i - 1)) i
  one_at i h e = step i h ∙ ap (λ (b : Bool). cond b (one_more (up_to (i - 1)) i) (up_to (i - 1))) e

  -- how many there are
  pub count_at : (i n : ℕ) → 1 ≤ i → n ≡ (up_to (i - 1)).count → cond (crosses i) (n + 1) n ≡ (up_to i).count
  count_at i n h e = rw e (go (crosses i)) ∙ sym (ap (λ (s : Crossings). s.count) (step i h))
    where
      go : (b : Bool) → cond b ((up_to (i - 1)).count + 1) (up_to (i - 1)).count ≡ (cond b (one_more (up_to (i - 1)) i) (up_to (i - 1))).count
      go true = refl
      go false = refl

  -- the first stays the first
  record Since (f : ℕ) (s : Crossings) : Type 0 where
    some : 1 ≤ s.count
    first : s.first ≡ f

  stays : (f i : ℕ) (s : Crossings) (b : Bool) → Since f s → Since f (cond b (one_more s i) s)
  unfolding first_of
  stays f i s true w =
      let e : eqb s.count 0 ≡ false = ne_eqb s.count 0 (λ z. zero_not s.count w.some z) in
      record { some = omega arith; first = ap (λ (b : Bool). cond b i s.first) e ∙ w.first }
    where
      zero_not : (k : ℕ) → 1 ≤ k → k ≡ 0 → ⊥
      zero_not k h z = omega arith
  stays f i s false w = w

  since : (f i m k : ℕ) → k ≡ m + i → Since f (up_to i) → Since f (up_to k)
  since f i zero k e w =
      let d : i ≡ k = omega arith in
      subst (λ (j : ℕ). Since f (up_to j)) d w
  since f i (suc m) k e w = subst (Since f) (sym (step k (omega arith))) (stays f k (up_to (k - 1)) (crosses k) (since f i m (k - 1) (omega arith) w))

  -- where none comes before the place i, and one stands there, it is the first of all
  pub first_at : (i : ℕ) → 1 ≤ i → i ≤ length xs - 1 → up_to (i - 1) ≡ no_crossing → crosses i ≡ true → i ≡ (crossings_of mean xs).first
  unfolding crossings_of first_of
  first_at i h g e t =
      let o : up_to i ≡ one_more no_crossing i = one_at i h t ∙ ap (λ (s : Crossings). one_more s i) e in
      let w : Since i (up_to i) = subst (Since i) (sym o) (record { some = omega arith; first = refl }) in
      sym (since i i (length xs - 1 - i) (length xs - 1) (omega arith) w).first

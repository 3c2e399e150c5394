-- How many samples pass a test: at most as many as were looked at; one sample more, in front or among others; none exactly where every sample fails. Assumes nothing.
use Prim.Native.Nat.{ℕ, zero, suc, ◌+◌, ◌≤◌, ◌<◌}
use native.Mathlib.Nat.{zero-add, zero-lt-suc}
use native.Mathlib.Omega.{arith}
use mathlib.Core.Path.{◌≡◌, refl, sym, ap, ◌∙◌}
use mathlib.Core.Bool.{Bool, true, false, cond}
use mathlib.Core.List.{List, [], ◌∷◌, ◌++◌}
use lib.ListN.{length, get_or}
use lib.Ieee.{Float, nan}
use Rattle.laws.specs.Walks.{over}
use Rattle.laws.specs.HowMany.{counting, how_many}
use Rattle.laws.proofs.Turn.{over_front}

-- the first fails, and so do the rest
first_fails : (b : Bool) (n : ℕ) → cond b 1 0 + n ≡ 0 → b ≡ false
first_fails true n e = absurd (omega arith)
first_fails false n e = refl

rest_fail : (b : Bool) (n : ℕ) → cond b 1 0 + n ≡ 0 → n ≡ 0
rest_fail true n e = absurd (omega arith)
rest_fail false n e = omega arith

module _ (test : Float → Bool) where
  pub counted_le : (xs : List Float) (k : ℕ) → over (counting test) 0 xs k ≤ k
  unfolding over
  counted_le xs zero = omega arith
  counted_le xs (suc k) = go (test (get_or xs k nan)) (over (counting test) 0 xs k) (counted_le xs k)
    where
      go : (b : Bool) (n : ℕ) → n ≤ k → cond b (n + 1) n ≤ suc k
      go true n h = omega arith
      go false n h = omega arith

  pub how_many_le : (xs : List Float) → how_many test xs ≤ length xs
  unfolding how_many
  how_many_le xs = counted_le xs (length xs)

  -- counted on from n
  on_from : (n : ℕ) (xs : List Float) (k : ℕ) → over (counting test) n xs k ≡ n + over (counting test) 0 xs k
  unfolding over
  on_from n xs zero = omega arith
  on_from n xs (suc k) = ap (λ (m : ℕ). counting test m (get_or xs k nan)) (on_from n xs k) ∙ go (test (get_or xs k nan)) (over (counting test) 0 xs k)
    where
      go : (b : Bool) (m : ℕ) → cond b (n + m + 1) (n + m) ≡ n + cond b (m + 1) m
      go true m = omega arith
      go false m = refl

  pub how_many_front : (x : Float) (xs : List Float) → how_many test (x ∷ xs) ≡ cond (test x) 1 0 + how_many test xs
  unfolding how_many
  how_many_front x xs = over_front (counting test) 0 x xs (length xs) ∙ on_from (cond (test x) 1 0) xs (length xs)

  pub how_many_among : (before : List Float) (x : Float) (after : List Float) → how_many test (before ++ x ∷ after) ≡ cond (test x) 1 0 + how_many test (before ++ after)
  how_many_among [] x after = how_many_front x after
  how_many_among (y ∷ before) x after =
      how_many_front y (before ++ x ∷ after)
      ∙ (rw (how_many_among before x after) (left_comm (cond (test y) 1 0) (cond (test x) 1 0) (how_many test (before ++ after)))
      ∙ ap (λ (n : ℕ). cond (test x) 1 0 + n) (sym (how_many_front y (before ++ after))))
    where
      left_comm : (a b n : ℕ) → a + (b + n) ≡ b + (a + n)
      left_comm a b n = omega arith

  -- ---- none, exactly where every sample fails

  pub all_fail : (xs : List Float) → how_many test xs ≡ 0 → (k : ℕ) → k < length xs → test (get_or xs k nan) ≡ false
  all_fail [] e k h = absurd (never k h)
    where
      never : (k : ℕ) → k < 0 → ⊥
      never k h = omega arith
  all_fail (x ∷ xs) e zero h = first_fails (test x) (how_many test xs) (sym (how_many_front x xs) ∙ e)
  all_fail (x ∷ xs) e (suc k) h = all_fail xs (rest_fail (test x) (how_many test xs) (sym (how_many_front x xs) ∙ e)) k (omega arith)

  pub none_pass : (xs : List Float) → ((k : ℕ) → k < length xs → test (get_or xs k nan) ≡ false) → how_many test xs ≡ 0
  unfolding how_many over
  none_pass [] h = refl
  none_pass (x ∷ xs) h = how_many_front x xs ∙ rw (h zero (zero-lt-suc (length xs)), zero-add) (none_pass xs (λ k l. h (suc k) (grown k (length xs) l)))
    where
      grown : (a b : ℕ) → a < b → suc a < suc b
      grown a b h = omega arith

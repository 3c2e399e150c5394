-- The lengths on the grid are 0 and those that divide 4096, and what holds of each is computed at each. Assumes nothing.
use Rattle.std.proofs.Common.{◌≡◌, ℕ, ◌-◌, ◌*◌, ◌/◌, ◌%◌, ◌^◌, ◌<◌, ◌≤◌, Bool, true, false, ◌&&◌, ◌||◌, T, eqb, ltb, leb, ◌⊎◌, List, [], ◌∷◌, sym, refl, ◌∙◌, subst, inl, inr, ⊎_elim, mod-eq_of_lt, arith, eqb→eq, leb→le, ltb-false, ltb-true, lt-ltb, eq-eqb, eqb-true, le-leb}
use lib.Dec.{not_T}
use lib.Ieee.{size, span, climb}
use lib.Ieee.Bits.{is_true, is_false}
use borrow.Author.Tests.{eqb-false}
use Rattle.laws.proofs.Tested.{both_left, both_right, asked, asked_at, all_below, at}
use Rattle.spectrum.specs.Grid.{lengths, among, on_grid}

-- ---- what holds of each length of the list holds of every length on the grid

abbrev each : (ℕ → Bool) → List ℕ → Bool
each f [] = true
each f (x ∷ xs) = f x && each f xs

or_cases : (a b : Bool) → T (a || b) → T a ⊎ T b
or_cases true b t = inl t
or_cases false b t = inr t

each_at : (f : ℕ → Bool) (xs : List ℕ) (n : ℕ) → T (each f xs) → T (among xs n) → T (f n)
each_at f [] n t m = absurd m
each_at f (x ∷ xs) n t m =
    ⊎_elim (λ e. subst (λ (y : ℕ). T (f y)) (sym (eqb→eq n x e)) (both_left (f x) (each f xs) t))
    (λ r. each_at f xs n (both_right (f x) (each f xs) t) r)
    (or_cases (eqb n x) (among xs n) m)

grid_at : (f : ℕ → Bool) (n : ℕ) → T (each f lengths) → on_grid n ≡ true → T (f n)
unfolding on_grid
grid_at f n t e = each_at f lengths n t (subst T (sym e) tt)

-- which power of two n is
pub power : ℕ → ℕ
power n = size n - 1

module _ {n : ℕ} (g : on_grid n ≡ true) where
  pub grid_le : n ≤ 4096
  unfolding lengths
  grid_le = leb→le n 4096 (grid_at (λ (m : ℕ). leb m 4096) n tt g)

  -- 4096 is n times its quotient by n
  pub grid_whole : 0 < n → n * (4096 / n) ≡ 4096
  unfolding lengths
  grid_whole h =
      eqb→eq (n * (4096 / n)) 4096
      (asked_at (ltb 0 n) (eqb (n * (4096 / n)) 4096) (lt-ltb 0 n h)
      (grid_at (λ (m : ℕ). asked (ltb 0 m) (eqb (m * (4096 / m)) 4096)) n tt g))

  pub grid_power : 0 < n → n ≡ 2 ^ power n
  unfolding lengths power size span climb
  grid_power h =
      eqb→eq n (2 ^ (size n - 1))
      (asked_at (ltb 0 n) (eqb n (2 ^ (size n - 1))) (lt-ltb 0 n h)
      (grid_at (λ (m : ℕ). asked (ltb 0 m) (eqb m (2 ^ (size m - 1)))) n tt g))

  -- from 8 on the bins below half the length are a multiple of four
  pub grid_eights : 8 ≤ n → n % 8 ≡ 0
  unfolding lengths
  grid_eights h =
      eqb→eq (n % 8) 0
      (asked_at (leb 8 n) (eqb (n % 8) 0) (le-leb 8 n h) (grid_at (λ (m : ℕ). asked (leb 8 m) (eqb (m % 8) 0)) n tt g))

-- ---- a length from 1 on is on the grid exactly where it divides 4096: one test at each number up to 4096, and past that it does not divide

test : ℕ → Bool
unfolding on_grid lengths
test n = asked (eqb (4096 % n) 0) (on_grid n)

passes : T (all_below test 4097)
unfolding test on_grid lengths
passes = tt

at_most : (n : ℕ) → 4096 % n ≡ 0 → n ≤ 4096
at_most n e = go (ltb 4096 n) refl
  where
    go : (b : Bool) → ltb 4096 n ≡ b → n ≤ 4096
    go true l = absurd (let z : 4096 % n ≡ 4096 = mod-eq_of_lt (ltb-true 4096 n l) in omega arith)
    go false g = ltb-false 4096 n g

divides : (n : ℕ) → 4096 % n ≡ 0 → on_grid n ≡ true
unfolding test
divides n e =
    is_true (on_grid n)
    (asked_at (eqb (4096 % n) 0) (on_grid n) (eq-eqb (4096 % n) 0 e) (at test 4097 passes n (let h : n ≤ 4096 = at_most n e in omega arith)))

divides_not : (n : ℕ) → 0 < n → (4096 % n ≡ 0 → ⊥) → on_grid n ≡ false
unfolding lengths
divides_not n h no_zero =
    is_false (on_grid n)
    (not_T (on_grid n)
    (λ t. no_zero
    (eqb→eq (4096 % n) 0
    (asked_at (ltb 0 n) (eqb (4096 % n) 0) (lt-ltb 0 n h)
    (grid_at (λ (m : ℕ). asked (ltb 0 m) (eqb (4096 % m) 0)) n tt (is_true (on_grid n) t))))))

-- the code's test
pub grid_test : (n : ℕ) → 0 < n → eqb (4096 % n) 0 ≡ on_grid n
grid_test n h = go (eqb (4096 % n) 0) refl
  where
    go : (b : Bool) → eqb (4096 % n) 0 ≡ b → eqb (4096 % n) 0 ≡ on_grid n
    go true e = e ∙ sym (divides n (eqb-true (4096 % n) 0 e))
    go false e = e ∙ sym (divides_not n h (eqb-false (4096 % n) 0 e))

pub grid_zero : on_grid 0 ≡ true
unfolding on_grid lengths
grid_zero = refl

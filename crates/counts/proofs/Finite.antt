-- Both counts are 0 exactly when all samples are finite (`zero_exactly`), and together with the finite ones they make the length (`make_length`). Assumes nothing.
use Prim.Native.Nat.{ℕ, suc, ◌+◌}
use native.Mathlib.Omega.{arith}
use mathlib.Core.Path.{◌≡◌, refl, subst}
use mathlib.Core.Bool.{false, cond}
use mathlib.Core.List.{[], ◌∷◌}
use lib.Dec.{T}
use lib.ListN.{get_or}
use lib.Ieee.{Float, nan, inf, fin, is_nan}
use lib.Ieee.Scale.{finite}
use Rattle.laws.specs.Walks.{over}
use Rattle.laws.specs.HowMany.{how_many}
use Rattle.laws.proofs.HowMany.{how_many_front, all_fail, none_pass}
use Rattle.counts.specs.Counts.{is_infinite, not_numbers_of, infinite_of}
use Rattle.counts.specs.Claims.{ZeroExactly, MakeLength}

-- a sample is one of the three, and no two

neither : (x : Float) → is_nan x ≡ false → is_infinite x ≡ false → T (finite x)
unfolding is_nan is_infinite
neither nan n i = subst T n tt
neither (inf s) n i = subst T i tt
neither (fin s m e) n i = tt

a_number : (x : Float) → T (finite x) → is_nan x ≡ false
unfolding is_nan
a_number nan h = absurd h
a_number (inf s) h = refl
a_number (fin s m e) h = refl

not_infinite : (x : Float) → T (finite x) → is_infinite x ≡ false
unfolding is_infinite
not_infinite nan h = refl
not_infinite (inf s) h = absurd h
not_infinite (fin s m e) h = refl

pub zero_exactly : ZeroExactly
unfolding not_numbers_of infinite_of
zero_exactly xs = (
  (λ z k h. neither (get_or xs k nan) (all_fail is_nan xs z.0 k h) (all_fail is_infinite xs z.1 k h)),
  (λ f. (none_pass is_nan xs (λ k h. a_number (get_or xs k nan) (f k h)), none_pass is_infinite xs (λ k h. not_infinite (get_or xs k nan) (f k h)))),
)

one_of_three : (x : Float) (a b c : ℕ) {n : ℕ} → a + b + c ≡ n → cond (is_nan x) 1 0 + a + (cond (is_infinite x) 1 0 + b) + (cond (finite x) 1 0 + c) ≡ suc n
unfolding is_nan is_infinite
one_of_three nan a b c e = omega arith
one_of_three (inf s) a b c e = omega arith
one_of_three (fin s m d) a b c e = omega arith

pub make_length : MakeLength
unfolding not_numbers_of infinite_of how_many over
make_length [] = refl
make_length (x ∷ xs) =
    rw (how_many_front is_nan x xs, how_many_front is_infinite x xs, how_many_front finite x xs)
    (one_of_three x (how_many is_nan xs) (how_many is_infinite xs) (how_many finite xs) (make_length xs))

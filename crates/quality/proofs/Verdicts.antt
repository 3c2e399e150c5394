-- What each verdict of the code says of the answers, and that a usable bin lies inside. Assumes nothing.
use Rattle.std.proofs.Common.{◌≡◌, ℕ, ◌<◌, Bool, true, false, cond, ◌||◌, eqb, leb, Result, Ok, Err, Option, None, Some, is_some, IfSome, ◌∙◌, ap, sym, refl, arith, ltb-false, leb-false}
use mathlib.Core.Bool.{false≢true}
use borrow.Author.Tests.{eqb-false}
use Rattle.answers.specs.declared.Refusal.{Refusal}
use Rattle.answers.specs.declared.Refusal.TheVariants.{TooLong}
use Rattle.answers.specs.Numbers.{too_long}
use Rattle.quality.specs.Judged.{judged}
use Rattle.quality.specs.Powers.{Inside}
use Rattle.quality.specs.Quality.{unusable_bin, for_bin}

abbrev verdict : Bool → Bool → Result Bool Refusal
verdict long unusable = cond long (Err TooLong) (Ok (cond unusable false true))

is_refused : (l w : Bool) (r : Refusal) → verdict l w ≡ Err r → (l ≡ true) × (r ≡ TooLong)
is_refused true w r e = grind arith
is_refused false w r e = grind arith

is_taken : (l w v : Bool) → verdict l w ≡ Ok v → (l ≡ false) × (w ≡ cond v false true)
is_taken true w v e = grind arith
is_taken false true v e = grind arith
is_taken false false v e = grind arith

module _ {A : Type 0} (n b : ℕ) (x y : A) where
  pub refused : (r : Refusal) → judged n b ≡ Err r → Err r ≡ for_bin n b x y
  unfolding judged
  refused r e = let s = is_refused (too_long n) (unusable_bin n b) r e in rw (s.0, s.1) refl

  pub unusable : judged n b ≡ Ok false → Ok x ≡ for_bin n b x y
  unfolding judged
  unusable e = let s = is_taken (too_long n) (unusable_bin n b) false e in rw (s.0, s.1) refl

  pub measured : (z : A) → judged n b ≡ Ok true → z ≡ y → Ok z ≡ for_bin n b x y
  unfolding judged
  measured z e h = let s = is_taken (too_long n) (unusable_bin n b) true e in rw (s.0, s.1, h) refl

-- a quotient, by whether there is one
pub quotient : {A : Type 0} (n b : ℕ) (y : A) (r : Option A) (v : Bool) → judged n b ≡ Ok v → is_some r ≡ v → IfSome r (λ (z : A). z ≡ y) → Ok r ≡ for_bin n b None (Some y)
quotient n b y None v e s p = unusable n b None (Some y) (e ∙ ap (λ (x : Bool). Ok x) (sym s))
quotient n b y (Some z) v e s p = measured n b None (Some y) (Some z) (e ∙ ap (λ (x : Bool). Ok x) (sym s)) (ap (λ (x : _). Some x) p)

neither : (a b : Bool) → (a || b) ≡ false → (a ≡ false) × (b ≡ false)
neither false b e = (refl, e)
neither true b e = absurd (false≢true (sym e))

-- it lies inside, and so does the order before its first harmonic, which is itself
pub usable : {n b : ℕ} → judged n b ≡ Ok true → Inside n b 2
unfolding judged unusable_bin
usable {n} {b} e =
    let s = is_taken (too_long n) (unusable_bin n b) true e in
    let t = neither (eqb b 0) (leb n b) s.1 in
    let l = ltb-false _ n s.0 in
    let z = eqb-false b 0 t.0 in
    let u = leb-false n b t.1 in
    record { places = l; bin = positive b z; end = u; order = omega arith; before = omega arith }
  where
    positive : (x : ℕ) → (x ≡ 0 → ⊥) → 0 < x
    positive x h = omega (arith, h)

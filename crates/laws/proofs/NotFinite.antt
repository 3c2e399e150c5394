-- An infinity or a NaN in a sum, a product or a quotient gives an infinity or a NaN, in either format: what is not finite stays so. Assumes nothing.
use mathlib.Core.Path.{◌≡◌, refl, subst}
use mathlib.Core.Bool.{Bool, true, false, cond}
use lib.Dec.{T, eqb}
use lib.Ieee.{Float, nan, inf, fin, Format, add, mul, div}
use lib.Ieee.Scale.{finite}

pub beyond_add : (f : Format) (t x : Float) → finite t ≡ false → finite (add f t x) ≡ false
unfolding add
beyond_add f nan x h = refl
beyond_add f (inf s) nan h = refl
beyond_add f (inf true) (inf true) h = refl
beyond_add f (inf true) (inf false) h = refl
beyond_add f (inf false) (inf true) h = refl
beyond_add f (inf false) (inf false) h = refl
beyond_add f (inf s) (fin t n d) h = refl
beyond_add f (fin s m e) x h = absurd (subst T h tt)

pub add_beyond : (f : Format) (x t : Float) → finite t ≡ false → finite (add f x t) ≡ false
unfolding add
add_beyond f nan t h = refl
add_beyond f (inf s) t h = beyond_add f (inf s) t refl
add_beyond f (fin s m e) nan h = refl
add_beyond f (fin s m e) (inf t) h = refl
add_beyond f (fin s m e) (fin t n d) h = absurd (subst T h tt)

either : (b c : Bool) → finite (cond b nan (inf c)) ≡ false
either true c = refl
either false c = refl

pub beyond_mul : (f : Format) (x y : Float) → finite x ≡ false → finite (mul f x y) ≡ false
unfolding mul
beyond_mul f nan y h = refl
beyond_mul f (inf s) nan h = refl
beyond_mul f (inf s) (inf t) h = refl
beyond_mul f (inf s) (fin t n d) h = either (eqb n 0) _
beyond_mul f (fin s m e) y h = absurd (subst T h tt)

pub mul_beyond : (f : Format) (y x : Float) → finite x ≡ false → finite (mul f y x) ≡ false
unfolding mul
mul_beyond f nan x h = refl
mul_beyond f (inf s) x h = beyond_mul f (inf s) x refl
mul_beyond f (fin s m e) nan h = refl
mul_beyond f (fin s m e) (inf t) h = either (eqb m 0) _
mul_beyond f (fin s m e) (fin t n d) h = absurd (subst T h tt)

-- in a dividend
pub beyond_div : (f : Format) (x y : Float) → finite x ≡ false → finite (div f x y) ≡ false
unfolding div
beyond_div f nan y h = refl
beyond_div f (inf s) nan h = refl
beyond_div f (inf s) (inf t) h = refl
beyond_div f (inf s) (fin t n d) h = refl
beyond_div f (fin s m e) y h = absurd (subst T h tt)

-- What is not finite stays so when it is narrowed, and so does its size. Assumes nothing.
use mathlib.Core.Path.{◌≡◌, refl, subst}
use mathlib.Core.Bool.{false}
use lib.Dec.{T}
use lib.Ieee.{Float, nan, inf, fin}
use lib.Ieee.Scale.{finite}
use Rattle.number.specs.Number.{narrow, abs}

pub narrow_beyond : (x : Float) → finite x ≡ false → finite (narrow x) ≡ false
unfolding narrow
narrow_beyond nan h = refl
narrow_beyond (inf s) h = refl
narrow_beyond (fin s m e) h = absurd (subst T h tt)

pub abs_beyond : (x : Float) → finite x ≡ false → finite (abs x) ≡ false
unfolding abs
abs_beyond nan h = refl
abs_beyond (inf s) h = refl
abs_beyond (fin s m e) h = absurd (subst T h tt)

-- A NaN in an operation gives a NaN, in either format, and in a comparison no. Assumes nothing.
use mathlib.Core.Path.{◌≡◌, refl, subst}
use mathlib.Core.Bool.{false, not}
use lib.Dec.{T}
use lib.Ieee.{Float, nan, inf, fin, Format, is_nan, add, sub, mul, neg, lt, le, eq}

pub tested_nan : (x : Float) → not (is_nan x) ≡ false → x ≡ nan
unfolding is_nan
tested_nan nan e = refl
tested_nan (inf s) e = absurd (subst T e tt)
tested_nan (fin s m d) e = absurd (subst T e tt)

-- ---- in an operation
pub add_nan : (f : Format) (x : Float) → add f x nan ≡ nan
unfolding add
add_nan f nan = refl
add_nan f (inf s) = refl
add_nan f (fin s m e) = refl

pub nan_add : (f : Format) (x : Float) → add f nan x ≡ nan
unfolding add
nan_add f x = refl

pub sub_nan : (f : Format) (x : Float) → sub f x nan ≡ nan
unfolding sub neg
sub_nan f x = add_nan f x

pub nan_sub : (f : Format) (x : Float) → sub f nan x ≡ nan
unfolding sub
nan_sub f x = nan_add f (neg x)

pub mul_nan : (f : Format) (x : Float) → mul f x nan ≡ nan
unfolding mul
mul_nan f nan = refl
mul_nan f (inf s) = refl
mul_nan f (fin s m e) = refl

pub nan_mul : (f : Format) (x : Float) → mul f nan x ≡ nan
unfolding mul
nan_mul f x = refl

-- ---- in a comparison
pub lt_nan : (x : Float) → lt x nan ≡ false
unfolding lt
lt_nan nan = refl
lt_nan (inf s) = refl
lt_nan (fin s m e) = refl

pub nan_lt : (x : Float) → lt nan x ≡ false
unfolding lt
nan_lt x = refl

pub le_nan : (x : Float) → le x nan ≡ false
unfolding le lt eq
le_nan nan = refl
le_nan (inf s) = refl
le_nan (fin s m e) = refl

pub nan_le : (x : Float) → le nan x ≡ false
unfolding le lt eq
nan_le x = refl

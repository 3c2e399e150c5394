-- The two figures from the four sums: numbers, and never of the wrong sign. Assumes nothing.
use mathlib.Core.Path.{refl}
use Prim.Native.Nat.{◌+◌, ◌*◌, ◌^◌, ◌≤◌, ◌<◌}
use native.Mathlib.Nat.{le_trans, le_of_eq, mul-pos, mul-le-mul}
use lib.Dec.{lit≤, lit<}
use lib.Pow.{pow_pos}
use lib.Count.{count_trailing_zeros}
use lib.IntN.{ℤ, pos, nat_abs, ◌+ℤ◌, ◌-ℤ◌, ◌*ℤ◌}
use lib.Ieee.{Float, binary64, round, units, odd, size, span, climb, add, sub, mul}
use lib.Ieee.Positive.{den, den_pos}
use Rattle.laws.specs.Whole.{value}
use Rattle.laws.proofs.Signs.{size_mul}
use Rattle.laws.proofs.Size.{SizeOf}
use Rattle.laws.proofs.Rounded.{add_rounded, sub_rounded}
use Rattle.laws.proofs.Over.{Over, mul_over_rounded}
use Rattle.laws.proofs.Bounded.{Bounded, Held, bounded_over, mul_bounded, add_size, sub_size, add_bounded, sub_bounded}
use Rattle.laws.proofs.Lower.{rounded_stays}
use Rattle.spectrum.specs.declared.parts.Sums.{Sums}
use Rattle.fundamental.specs.Fundamental.{in_phase, across}
use Rattle.fundamental_codes.proofs.Along.{Along, along_trans, rounded_along, add_along, sub_along}
use Rattle.fundamental_codes.proofs.Clear.{add_left, sub_left}

held_54 : Held binary64 (2 ^ 54)
unfolding round units odd size span climb count_trailing_zeros
held_54 = (refl, refl)

held_55 : Held binary64 (2 ^ 55)
unfolding round units odd size span climb count_trailing_zeros
held_55 = (refl, refl)

-- sums of at most 2^27 in size
pub record Small (s : Sums) : Type 0 where
  pub real : Bounded (2 ^ 27) s.real
  pub imag : Bounded (2 ^ 27) s.imag

pub product_bounded : (x y : Float) → Bounded (2 ^ 27) x → Bounded (2 ^ 27) y → Bounded (2 ^ 54) (mul binary64 x y)
product_bounded x y p q = mul_bounded binary64 x y (2 ^ 27) (2 ^ 27) held_54 p q

-- exact sums of that size: their product in units of 2^-60
product_size : (x y : Float) (z w : ℤ) → Over 30 x z → Over 30 y w → Bounded (2 ^ 27) x → Bounded (2 ^ 27) y → nat_abs (z *ℤ w) ≤ 2 ^ 114
product_size x y z w o u p q = le_trans (le_of_eq (size_mul z w)) (le_trans (mul-le-mul (bounded_over 30 x z (2 ^ 27) o p) (bounded_over 30 y w (2 ^ 27) u q)) (lit≤ tt))

module _ (v i : Sums) (sv : Small v) (si : Small i) where
  pub in_phase_bounded : Bounded (2 ^ 55) (in_phase v i)
  unfolding in_phase
  in_phase_bounded =
      add_bounded binary64 (mul binary64 v.real i.real) (mul binary64 v.imag i.imag) (2 ^ 54) (2 ^ 54) held_55 (product_bounded v.real i.real sv.real si.real)
      (product_bounded v.imag i.imag sv.imag si.imag)

  pub across_bounded : Bounded (2 ^ 55) (across v i)
  unfolding across
  across_bounded =
      sub_bounded binary64 (mul binary64 v.imag i.real) (mul binary64 v.real i.imag) (2 ^ 54) (2 ^ 54) held_55 (product_bounded v.imag i.real sv.imag si.real)
      (product_bounded v.real i.imag sv.real si.imag)

  -- the sums are exact: a, b of voltage and c, d of current, each over 2^30
  module _ (a b c d : ℤ) (oa : Over 30 v.real a) (ob : Over 30 v.imag b) (oc : Over 30 i.real c) (od : Over 30 i.imag d) where
    pub in_phase_along : Along (value (in_phase v i)) (a *ℤ c +ℤ b *ℤ d)
    unfolding in_phase
    in_phase_along =
        let x = mul binary64 v.real i.real in
        let y = mul binary64 v.imag i.imag in
        let X = (product_bounded v.real i.real sv.real si.real).0 in
        let Y = (product_bounded v.imag i.imag sv.imag si.imag).0 in
        let w = value x *ℤ pos (den y) +ℤ value y *ℤ pos (den x) in
        along_trans (value (add binary64 x y)) w (a *ℤ c +ℤ b *ℤ d)
        (rounded_along binary64 (add binary64 x y) w (den x * den y) (mul-pos (den_pos x) (den_pos y)) in_phase_bounded.0 (add_rounded binary64 x y X Y))
        (add_along binary64 x y (a *ℤ c) (b *ℤ d) (2 ^ 60) (pow_pos 60) X Y (mul_over_rounded binary64 30 30 v.real i.real a c oa oc)
        (mul_over_rounded binary64 30 30 v.imag i.imag b d ob od))

    pub across_along : Along (value (across v i)) (b *ℤ c -ℤ a *ℤ d)
    unfolding across
    across_along =
        let x = mul binary64 v.imag i.real in
        let y = mul binary64 v.real i.imag in
        let X = (product_bounded v.imag i.real sv.imag si.real).0 in
        let Y = (product_bounded v.real i.imag sv.real si.imag).0 in
        let w = value x *ℤ pos (den y) -ℤ value y *ℤ pos (den x) in
        along_trans (value (sub binary64 x y)) w (b *ℤ c -ℤ a *ℤ d)
        (rounded_along binary64 (sub binary64 x y) w (den x * den y) (mul-pos (den_pos x) (den_pos y)) across_bounded.0 (sub_rounded binary64 x y X Y))
        (sub_along binary64 x y (b *ℤ c) (a *ℤ d) (2 ^ 60) (pow_pos 60) X Y (mul_over_rounded binary64 30 30 v.imag i.real b c ob oc)
        (mul_over_rounded binary64 30 30 v.real i.imag a d oa od))

    -- ---- clear of zero, they stay so
    pub in_phase_size : nat_abs (a *ℤ c) + nat_abs (b *ℤ d) < 2 ^ 52 * nat_abs (a *ℤ c +ℤ b *ℤ d) → SizeOf (in_phase v i) (2 ^ 62) (2 ^ 56)
    unfolding in_phase
    in_phase_size h =
        let x = mul binary64 v.real i.real in
        let y = mul binary64 v.imag i.imag in
        let X = product_bounded v.real i.real sv.real si.real in
        let Y = product_bounded v.imag i.imag sv.imag si.imag in
        rounded_stays binary64 (add binary64 x y) (value x *ℤ pos (den y) +ℤ value y *ℤ pos (den x)) (den x * den y) (2 ^ 61) (2 ^ 55) (add_rounded binary64 x y X.0 Y.0) in_phase_bounded.0
        (record {
          whole = mul-pos (den_pos x) (den_pos y);
          least =
              add_left x y (a *ℤ c) (b *ℤ d) X.0 Y.0 (mul_over_rounded binary64 30 30 v.real i.real a c oa oc) (mul_over_rounded binary64 30 30 v.imag i.imag b d ob od)
              (product_size v.real i.real a c oa oc sv.real si.real) (product_size v.imag i.imag b d ob od sv.imag si.imag) h;
          most = add_size x y (2 ^ 54) (2 ^ 54) X Y;
        }) (lit≤ tt) (lit< tt)

    pub across_size : nat_abs (b *ℤ c) + nat_abs (a *ℤ d) < 2 ^ 52 * nat_abs (b *ℤ c -ℤ a *ℤ d) → SizeOf (across v i) (2 ^ 62) (2 ^ 56)
    unfolding across
    across_size h =
        let x = mul binary64 v.imag i.real in
        let y = mul binary64 v.real i.imag in
        let X = product_bounded v.imag i.real sv.imag si.real in
        let Y = product_bounded v.real i.imag sv.real si.imag in
        rounded_stays binary64 (sub binary64 x y) (value x *ℤ pos (den y) -ℤ value y *ℤ pos (den x)) (den x * den y) (2 ^ 61) (2 ^ 55) (sub_rounded binary64 x y X.0 Y.0) across_bounded.0
        (record {
          whole = mul-pos (den_pos x) (den_pos y);
          least =
              sub_left x y (b *ℤ c) (a *ℤ d) X.0 Y.0 (mul_over_rounded binary64 30 30 v.imag i.real b c ob oc) (mul_over_rounded binary64 30 30 v.real i.imag a d oa od)
              (product_size v.imag i.real b c ob oc sv.imag si.real) (product_size v.real i.imag a d oa od sv.real si.imag) h;
          most = sub_size x y (2 ^ 54) (2 ^ 54) X Y;
        }) (lit≤ tt) (lit< tt)

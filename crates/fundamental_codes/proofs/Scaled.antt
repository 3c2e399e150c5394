-- Doubling, dividing by n² and narrowing: a number stays one, and no sign turns. Assumes nothing.
use mathlib.Core.Path.{◌≡◌, refl, sym, ap, ap₂, ◌∙◌, subst, subst₂}
use mathlib.Core.Bool.{Bool, false}
use Prim.Native.Nat.{ℕ, ◌*◌, ◌^◌, ◌≤◌, ◌<◌}
use native.Mathlib.Nat.{le_trans, le_of_eq, lt_of_le_of_lt, mul_comm, mul-one, mul-pos, mul-le-mul, mul-le-mul_right, one-mul}
use lib.Dec.{lit≤, lit<}
use lib.Count.{count_trailing_zeros}
use lib.IntN.{ℤ, pos, ◌*ℤ◌}
use lib.Ieee.{Float, nan, inf, fin, binary32, binary64, up, round, units, odd, size, span, climb, mul, div, of_bits}
use lib.Ieee.Positive.{num, den, den_pos}
use Rattle.laws.specs.Literals.{count64}
use Rattle.laws.specs.Whole.{value, Is}
use Rattle.laws.proofs.Whole.{mul_whole}
use Rattle.laws.proofs.Size.{Size, Signed, SizeOf, size_times, size_over, size_pos}
use Rattle.laws.proofs.Zero.{Number}
use Rattle.laws.proofs.Rounded.{Rounded, mul_rounded, div_rounded}
use Rattle.laws.proofs.Signs.{size_mul}
use Rattle.laws.proofs.Bounded.{Bounded, Held, size_value, rounded_bounded, mul_bounded, div_bounded}
use Rattle.number.specs.Number.{narrow}
use Rattle.spectrum.specs.Bin.{two}
use Rattle.accuracy.proofs.Mean.{sign_bit, is_size, is_sign, count_is, not_negative}
use Rattle.fundamental.specs.Fundamental.{scaled_of}
use Rattle.fundamental_codes.proofs.Along.{Along, along_trans, along_scale, rounded_along}
use Rattle.laws.proofs.Lower.{rounded_stays}

narrow_rounded : (x : Float) → Number x → Rounded binary32 (narrow x) (value x) (den x)
unfolding narrow
narrow_rounded nan h = absurd h
narrow_rounded (inf s) h = absurd h
narrow_rounded (fin s m e) h = record { side = s; amount = m * up e; is = refl; whole = refl }

two_bounded : Bounded 2 two
unfolding of_bits
two_bounded = (tt, lit≤ tt)

two_size : SizeOf two 1 2
unfolding of_bits
two_size = record { whole = lit< tt; least = lit≤ tt; most = lit≤ tt }

two_value : value two ≡ pos 2
unfolding of_bits
two_value = refl

held_64 : Held binary64 (2 ^ 56)
unfolding round units odd size span climb count_trailing_zeros
held_64 = (refl, refl)

held_32 : Held binary32 (2 ^ 56)
unfolding round units odd size span climb count_trailing_zeros
held_32 = (refl, refl)

-- ---- n² as an f64
signed_of : (x : Float) (s : Bool) → Number x → sign_bit x ≡ s → Signed x s
signed_of nan s n e = n
signed_of (inf t) s n e = n
signed_of (fin t m d) s n e = (e, refl)

is_number : (x : Float) (z : ℤ) → Is x z → Number x
is_number nan z h = h
is_number (inf s) z h = h
is_number (fin s m e) z h = tt

module _ (n : ℕ) (N : 0 < n) (l : n ≤ 4096) where
  pub square : Float
  square = mul binary64 (count64 n) (count64 n)

  few : n * n ≤ 2 ^ 24
  few = le_trans (mul-le-mul l l) (lit≤ tt)

  square_is : Is square (pos (n * n))
  unfolding square
  square_is =
      let c = count_is n (le_trans l (lit≤ tt)) in
      mul_whole binary64 (count64 n) (count64 n) (pos n) (pos n) c c (lt_of_le_of_lt few (lit< tt))

  pub square_signed : Signed square false
  square_signed = signed_of square false (is_number square (pos (n * n)) square_is) (not_negative (sign_bit square) (n * n) (mul-pos N N) (is_sign square (pos (n * n)) square_is))

  pub square_num : num square ≡ n * n * den square
  square_num = is_size square (pos (n * n)) square_is

  from_one : den square ≤ num square
  from_one = le_trans (le_trans (le_of_eq (sym (one-mul (den square)))) (mul-le-mul_right (den square) (mul-pos N N))) (le_of_eq (sym square_num))

  square_pos : 0 < num square
  square_pos = le_trans (den_pos square) from_one

  square_size : SizeOf square 1 (2 ^ 24)
  square_size =
      record {
        whole = den_pos square;
        least = le_trans from_one (le_of_eq (sym (mul-one (num square))));
        most = le_trans (le_of_eq square_num) (mul-le-mul_right (den square) few);
      }

  module _ (x : Float) (b : Bounded (2 ^ 55) x) where
    pub doubled : Float
    doubled = mul binary64 x two

    pub shared : Float
    shared = div binary64 doubled square

    doubled_bounded : Bounded (2 ^ 56) doubled
    unfolding doubled
    doubled_bounded = mul_bounded binary64 x two (2 ^ 55) 2 held_64 b two_bounded

    shared_bounded : Bounded (2 ^ 56) shared
    unfolding shared
    shared_bounded = div_bounded binary64 doubled square (2 ^ 56) held_64 doubled_bounded square_signed from_one

    narrowed_bounded : Bounded (2 ^ 56) (narrow shared)
    narrowed_bounded =
        rounded_bounded binary32 (narrow shared) (value shared) (den shared) (2 ^ 56) (den_pos shared) held_32 (le_trans (le_of_eq (size_value shared)) shared_bounded.1)
        (narrow_rounded shared shared_bounded.0)

    pub scaled_bounded : Bounded (2 ^ 56) (scaled_of x n)
    unfolding scaled_of shared doubled square
    scaled_bounded = narrowed_bounded

    doubled_along : Along (value doubled) (value x)
    unfolding doubled
    doubled_along =
        along_trans (value doubled) (value x *ℤ value two) (value x)
        (rounded_along binary64 doubled (value x *ℤ value two) (den x * den two) (mul-pos (den_pos x) (den_pos two)) doubled_bounded.0 (mul_rounded binary64 x two b.0 two_bounded.0))
        (subst (λ (v : ℤ). Along (value x *ℤ v) (value x)) (sym two_value) (along_scale (value x) 2))

    shared_along : Along (value shared) (value doubled)
    unfolding shared
    shared_along =
        along_trans (value shared) (value doubled *ℤ pos (den square)) (value doubled)
        (rounded_along binary64 shared (value doubled *ℤ pos (den square)) (num square * den doubled) (mul-pos square_pos (den_pos doubled)) shared_bounded.0
        (div_rounded binary64 doubled square doubled_bounded.0 square_signed square_pos))
        (along_scale (value doubled) (den square))

    pub scaled_along : Along (value (scaled_of x n)) (value x)
    unfolding scaled_of shared doubled square
    scaled_along =
        along_trans (value (narrow shared)) (value shared) (value x)
        (rounded_along binary32 (narrow shared) (value shared) (den shared) (den_pos shared) narrowed_bounded.0 (narrow_rounded shared shared_bounded.0))
        (along_trans (value shared) (value doubled) (value x) shared_along doubled_along)

    -- a number that is not 0 stays one
    module _ (z : SizeOf x (2 ^ 62) (2 ^ 56)) where
      doubled_size : SizeOf doubled (2 ^ 63) (2 ^ 58)
      unfolding doubled
      doubled_size =
          rounded_stays binary64 doubled (value x *ℤ value two) (den x * den two) (2 ^ 62) (2 ^ 57) (mul_rounded binary64 x two b.0 two_bounded.0) doubled_bounded.0
          (subst (λ (n : ℕ). Size n (den x * den two) (2 ^ 62) (2 ^ 57)) (sym (size_mul (value x) (value two) ∙ ap₂ (λ (m n : ℕ). m * n) (size_value x) (size_value two)))
          (size_times (num x) (den x) (2 ^ 62) (2 ^ 56) (num two) (den two) 1 2 z two_size)) (lit≤ tt) (lit< tt)

      shared_size : SizeOf shared (2 ^ 88) (2 ^ 59)
      unfolding shared
      shared_size =
          rounded_stays binary64 shared (value doubled *ℤ pos (den square)) (num square * den doubled) (2 ^ 87) (2 ^ 58)
          (div_rounded binary64 doubled square doubled_bounded.0 square_signed square_pos) shared_bounded.0
          (subst₂ (λ (m n : ℕ). Size m n (2 ^ 87) (2 ^ 58)) (sym (size_mul (value doubled) (pos (den square)) ∙ ap (λ (n : ℕ). n * den square) (size_value doubled)))
          (mul_comm (den doubled) (num square))
          (size_over (num doubled) (den doubled) (2 ^ 63) (2 ^ 58) (num square) (den square) 1 (2 ^ 24) doubled_size square_size)) (lit≤ tt) (lit< tt)

      pub scaled_pos : 0 < num (scaled_of x n)
      unfolding scaled_of shared doubled square
      scaled_pos =
          let y = narrow shared in
          size_pos (num y) (den y) (2 ^ 89) (2 ^ 60)
          (rounded_stays binary32 y (value shared) (den shared) (2 ^ 88) (2 ^ 59) (narrow_rounded shared shared_bounded.0) narrowed_bounded.0
          (subst (λ (n : ℕ). Size n (den shared) (2 ^ 88) (2 ^ 59)) (sym (size_value shared)) shared_size) (lit≤ tt) (lit< tt))

-- What comparisons with the infinities and a sample's word tell of it: whether it is finite, whether it is a number, and whether it is infinite. Assumes nothing.
use Prim.Native.Nat.{ℕ, zero, suc, ◌+◌, ◌/◌, ◌%◌, ◌^◌}
use native.Mathlib.Omega.{arith}
use mathlib.Core.Path.{◌≡◌, refl, sym, ap, ◌∙◌}
use mathlib.Core.Bool.{Bool, true, false, not, ◌&&◌, cond}
use lib.Dec.{T, leb, eqb, eqb→eq}
use lib.Bits.{bit_and, and_mask}
use lib.Ieee.{Float, nan, inf, fin, binary32, lt, le, is_nan, fits, odd, of_fields, of_bits, nan_bits, to_bits}
use lib.Ieee.Scale.{finite}
use lib.Ieee.Bits.{of_bits-to_bits, nan_bits_is}
use lib.Ieee.Fits.{and_i, and_l, and_r, eq→eqb}
use Rattle.laws.proofs.NotNumber.{tested_nan}
use Rattle.counts.specs.Counts.{is_infinite}
use Rattle.counts.specs.Claims.{not_number_word, infinite_word}

abbrev infinity : ℕ
infinity = 0x7F80_0000

-- a finite sample lies between the infinities, and no other does
pub between : (x : Float) → (lt x (of_bits binary32 infinity) && lt (of_bits binary32 0xFF80_0000) x) ≡ finite x
unfolding lt of_bits
between nan = refl
between (inf true) = refl
between (inf false) = refl
between (fin s m e) = refl

-- every number is at most infinity, and a NaN is not
pub beyond : (x : Float) → not (le x (of_bits binary32 infinity)) ≡ is_nan x
unfolding le of_bits is_nan
beyond nan = refl
beyond (inf true) = refl
beyond (inf false) = refl
beyond (fin s m e) = refl

pub not_number_word_lem : (w : ℕ) → is_nan (of_bits binary32 w) ≡ not_number_word w
unfolding nan_bits
not_number_word_lem w = sym (nan_bits_is binary32 w)

-- ---- an infinity's word

odd_finite : (d : ℕ) (s : Bool) (q k l : ℕ) → is_infinite (odd d s q k l) ≡ false
unfolding odd is_infinite
odd_finite d s zero k l = refl
odd_finite d s (suc q) k l = refl

fields_infinite : (s : Bool) (field digits : ℕ) → is_infinite (of_fields binary32 s field digits) ≡ (eqb field 255 && eqb digits 0)
unfolding of_fields is_infinite
fields_infinite s zero t = odd_finite 24 s t 0 149
fields_infinite s (suc x) t = go (eqb (suc x) 255) (eqb t 0)
  where
    go : (a b : Bool) → is_infinite (cond a (cond b (inf s) nan) (odd 24 s (2 ^ 23 + t) x 149)) ≡ (a && b)
    go true true = refl
    go true false = refl
    go false b = odd_finite 24 s (2 ^ 23 + t) x 149

pub infinite_word_lem : (w : ℕ) → is_infinite (of_bits binary32 w) ≡ infinite_word w
unfolding of_bits
infinite_word_lem w = fields_infinite (leb (2 ^ 31) w) (w % 2 ^ 31 / 2 ^ 23) (w % 2 ^ 23)

-- ---- as one comparison

either_way : (a b : Bool) → (T a → T b) → (T b → T a) → a ≡ b
either_way true true p q = refl
either_way true false p q = absurd (p tt)
either_way false true p q = absurd (q tt)
either_way false false p q = refl

joined : (w : ℕ) → w % 2 ^ 31 / 2 ^ 23 ≡ 255 → w % 2 ^ 23 ≡ 0 → w % 2 ^ 31 ≡ infinity
joined w e t = omega arith

field_of : (w : ℕ) → w % 2 ^ 31 ≡ infinity → w % 2 ^ 31 / 2 ^ 23 ≡ 255
field_of w e = omega arith

digits_of_lem : (w : ℕ) → w % 2 ^ 31 ≡ infinity → w % 2 ^ 23 ≡ 0
digits_of_lem w e = omega arith

one_comparison : (w : ℕ) → infinite_word w ≡ eqb (w % 2 ^ 31) infinity
one_comparison w =
    let field = eqb (w % 2 ^ 31 / 2 ^ 23) 255 in
    let digits = eqb (w % 2 ^ 23) 0 in
    either_way (field && digits) (eqb (w % 2 ^ 31) infinity)
    (λ t. eq→eqb (joined w (eqb→eq (w % 2 ^ 31 / 2 ^ 23) 255 (and_l field digits t)) (eqb→eq (w % 2 ^ 23) 0 (and_r field digits t))))
    (λ t. let e = eqb→eq (w % 2 ^ 31) infinity t in and_i field digits (eq→eqb (field_of w e)) (eq→eqb (digits_of_lem w e)))

-- of a sample's own word without its sign
pub sign_cleared : (x : Float) → T (fits binary32 x) → eqb (bit_and (to_bits binary32 x) 0x7FFF_FFFF) infinity ≡ is_infinite x
sign_cleared x h =
    let w = to_bits binary32 x in
    ap (λ (y : ℕ). eqb y infinity) (and_mask w 31) ∙ sym (one_comparison w) ∙ sym (infinite_word_lem w) ∙ ap is_infinite (of_bits-to_bits binary32 x h)

-- a NaN is not infinite
pub nan_aside : (x : Float) → is_nan x ≡ true → false ≡ is_infinite x
unfolding is_infinite
nan_aside x e = sym (ap is_infinite (tested_nan x (ap not e)))

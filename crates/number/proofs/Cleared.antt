-- The sign's bit cleared is the absolute value, in either format. Assumes nothing.
use mathlib.Core.Path.{◌≡◌, refl, sym, ap, ap₂, ◌∙◌, subst}
use Prim.Native.Nat.{ℕ, zero, suc, ◌+◌, ◌-◌, ◌/◌, ◌%◌, ◌^◌, ◌<◌}
use native.Mathlib.Nat.{mod-eq_of_lt, mod-lt, mod-mod_of_dvd, dvd-mul_right, mul-pos, zero-lt-suc}
use mathlib.Core.Bool.{Bool, true, false, not, cond}
use lib.Dec.{T, leb, eqb}
use lib.Arith.{lt→nleb}
use lib.Pow.{pow_pos}
use lib.Bits.{bit_and, and_mask}
use lib.Ieee.{Float, nan, inf, fin, Format, prec, low, hid, ones, top, odd, fits, is_nan, nan_bits, of_fields, of_bits, to_bits}
use lib.Ieee.Bits.{of_bits-to_bits, nan_bits_is, is_false}
use Rattle.number.specs.Number.{abs}
use Rattle.number.proofs.Fields.{expo, frac, top_is, of_bits_is}

odd_abs : (d : ℕ) (s : Bool) (q k l : ℕ) → abs (odd d s q k l) ≡ odd d false q k l
unfolding odd abs
odd_abs d s zero k l = refl
odd_abs d s (suc q) k l = refl

fields_abs : (f : Format) (s : Bool) (F t : ℕ) → abs (of_fields f s F t) ≡ of_fields f false F t
unfolding of_fields abs
fields_abs f s zero t = odd_abs (prec f) s t 0 (low f)
fields_abs f s (suc y) t = go (eqb (suc y) (ones f)) (eqb t 0)
  where
    go : (a b : Bool) → abs (cond a (cond b (inf s) nan) (odd (prec f) s (hid f + t) y (low f))) ≡ cond a (cond b (inf false) nan) (odd (prec f) false (hid f + t) y (low f))
    go true true = refl
    go true false = refl
    go false b = odd_abs (prec f) s (hid f + t) y (low f)

low_bits : (f : Format) (b : ℕ) → of_bits f (b % top f) ≡ of_fields f false (b % top f / hid f) (b % hid f)
low_bits f b =
    let n = b % top f in
    let l : n < top f = mod-lt b (mul-pos (pow_pos (prec f - 1)) (zero-lt-suc (ones f))) in
    of_bits_is f n
    ∙ ap (λ (s : Bool). of_fields f s (n % top f / hid f) (n % hid f)) (is_false (leb (top f) n) (lt→nleb (top f) n l))
    ∙ ap₂ (λ (y t : ℕ). of_fields f false (y / hid f) t) (mod-eq_of_lt l) (mod-mod_of_dvd (hid f) b (dvd-mul_right (hid f) (suc (ones f))))

pub cleared : (f : Format) (x : Float) → T (fits f x) → of_bits f (bit_and (to_bits f x) (2 ^ (expo f + frac f) - 1)) ≡ abs x
cleared f x h =
    let b = to_bits f x in
    ap (of_bits f) (and_mask b (expo f + frac f) ∙ ap (λ (y : ℕ). b % y) (sym (top_is f)))
    ∙ low_bits f b
    ∙ sym (fields_abs f (leb (top f) b) (b % top f / hid f) (b % hid f))
    ∙ ap abs (sym (of_bits_is f b) ∙ of_bits-to_bits f x h)

abs_nan : (x : Float) → is_nan (abs x) ≡ is_nan x
unfolding abs is_nan
abs_nan nan = refl
abs_nan (inf s) = refl
abs_nan (fin s m e) = refl

pub cleared_no_nan : (f : Format) (x : Float) → T (fits f x) → T (not (is_nan x)) → T (not (nan_bits f (bit_and (to_bits f x) (2 ^ (expo f + frac f) - 1))))
cleared_no_nan f x h n = subst (λ (t : Bool). T (not t)) (sym (nan_bits_is f (bit_and (to_bits f x) (2 ^ (expo f + frac f) - 1)) ∙ ap is_nan (cleared f x h) ∙ abs_nan x)) n

pub of_nan : (x : Float) → x ≡ nan → x ≡ abs x
unfolding abs
of_nan x e = e ∙ sym (ap abs e)

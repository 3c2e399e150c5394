-- What an infinity in the voltage or the current does to a capture's record, whatever the other samples are. Assumes nothing.
use Rattle.std.proofs.Common.{◌≡◌, ℕ, zero, suc, ◌+◌, ◌*◌, ◌<◌, ◌≤◌, Bool, true, false, cond, not, T, ltb, List, length, get_or, sym, refl, ap, ◌∙◌, subst, le_trans, le_refl, arith, lit≤, ltb→lt, ne_eqb}
use native.Mathlib.Decide.{dec_le}
use lib.Ieee.{Float, prec, low, nan, inf, fin, Format, binary32, binary64, up, down, is_nan, odd, units, round, sum, add, sub, mul, div, neg, lt, of_int, of_bits}
use lib.Ieee.Back.{round_whole}
use lib.Ieee.Exact.{HasValue}
use lib.Ieee.Positive.{above}
use lib.Ieee.Scale.{finite, overflow}
use Rattle.laws.specs.Literals.{zero32, zero64}
use Rattle.laws.specs.Quotients.{ratio_or_zero}
use Rattle.laws.specs.Samples.{all_numbers}
use Rattle.laws.proofs.NotFinite.{add_beyond, beyond_add, mul_beyond, beyond_mul}
use Rattle.laws.proofs.NotNumber.{sub_nan, lt_nan}
use Rattle.laws.proofs.Numbers.{all_numbers_at}
use Rattle.laws.proofs.Zero.{Null}
use Rattle.number.specs.Number.{narrow, root, narrowed_root}
use Rattle.answers.specs.Numbers.{longest}
use Rattle.power.specs.declared.Power.{Power}
use Rattle.power.specs.Power.{sum_to, capture_sums, mean64, active_of, apparent_of, above_zero, nonactive_of, record_with, record_of}

never : (i : ℕ) → i < 0 → ⊥
never i h = omega arith

-- a sample that is not finite, at the place j, leaves no sum with it finite
module _ (x y : List Float) (j : ℕ) (h : finite (get_or x j nan) ≡ false) where
  pub sum_beyond : (n : ℕ) → j < n → (finite (sum_to x y n) ≡ false) × (finite (sum_to y x n) ≡ false)
  unfolding sum_to
  sum_beyond zero l = absurd (never j l)
  sum_beyond (suc n) l =
      elim (dec_le n j) [
        | yes g ↦
            let m : n ≡ j = omega arith in
            let u : finite (get_or x n nan) ≡ false = ap (λ (i : ℕ). finite (get_or x i nan)) m ∙ h in
            (add_beyond binary64 (sum_to x y n) _ (beyond_mul binary64 _ _ u), add_beyond binary64 (sum_to y x n) _ (mul_beyond binary64 _ _ u))
        | no g ↦ let p = sum_beyond n (omega arith) in (beyond_add binary64 _ _ p.0, beyond_add binary64 _ _ p.1)
      ]

-- ---- a mean that is not finite is the sum itself, and so is what it narrows to
mean_same : (t : Float) (n : ℕ) → n ≤ longest → finite t ≡ false → mean64 t n ≡ t
unfolding mean64 of_int div
mean_same nan n l h = refl
mean_same (fin s m e) n l h = absurd (subst T h tt)
mean_same (inf s) n l h = go s (round binary64 false n 1) (round_whole binary64 false n (le_trans l (lit≤ tt)))
  where
    go : (s : Bool) (c : Float) → HasValue c false n 1 → div binary64 (inf s) c ≡ inf s
    go s nan v = absurd v
    go s (inf t) v = absurd v
    go true (fin true m e) v = absurd (subst T v.0 tt)
    go false (fin true m e) v = absurd (subst T v.0 tt)
    go true (fin false m e) v = refl
    go false (fin false m e) v = refl

narrow_same : (t : Float) → finite t ≡ false → narrow t ≡ t
unfolding narrow
narrow_same nan h = refl
narrow_same (inf s) h = refl
narrow_same (fin s m e) h = absurd (subst T h tt)

-- ---- sums of squares have no sign, and with an infinity they are one
abbrev pub unsigned : Float → Bool
unsigned nan = false
unsigned (inf s) = not s
unsigned (fin s m e) = not s

odd_unsigned : (d q k l : ℕ) → unsigned (odd d false q k l) ≡ true
unfolding odd
odd_unsigned d zero k l = refl
odd_unsigned d (suc q) k l = refl

units_unsigned : (f : Format) (q k : ℕ) → unsigned (units f false q k) ≡ true
unfolding units
units_unsigned f q k = go (ltb _ (overflow f)) _ (odd_unsigned (suc (prec f)) q k (low f))
  where
    go : (b : Bool) (x : Float) → unsigned x ≡ true → unsigned (cond b x (inf false)) ≡ true
    go true x h = h
    go false x h = refl

pub round_unsigned : (f : Format) (a c : ℕ) → unsigned (round f false a c) ≡ true
unfolding round
round_unsigned f a c = units_unsigned f _ _

add_unsigned : (x y : Float) → unsigned x ≡ true → unsigned y ≡ true → unsigned (add binary64 x y) ≡ true
unfolding add sum
add_unsigned nan y h k = absurd (subst T (sym h) tt)
add_unsigned (inf true) y h k = absurd (subst T (sym h) tt)
add_unsigned (fin true m e) y h k = absurd (subst T (sym h) tt)
add_unsigned (inf false) nan h k = absurd (subst T (sym k) tt)
add_unsigned (inf false) (inf true) h k = absurd (subst T (sym k) tt)
add_unsigned (inf false) (inf false) h k = refl
add_unsigned (inf false) (fin true n d) h k = absurd (subst T (sym k) tt)
add_unsigned (inf false) (fin false n d) h k = refl
add_unsigned (fin false m e) nan h k = absurd (subst T (sym k) tt)
add_unsigned (fin false m e) (inf true) h k = absurd (subst T (sym k) tt)
add_unsigned (fin false m e) (inf false) h k = refl
add_unsigned (fin false m e) (fin true n d) h k = absurd (subst T (sym k) tt)
add_unsigned (fin false m e) (fin false n d) h k = round_unsigned binary64 (m * up e * down d + n * up d * down e) (down e * down d)

square_unsigned : (x : Float) → T (not (is_nan x)) → unsigned (mul binary64 x x) ≡ true
unfolding mul is_nan
square_unsigned nan h = absurd h
square_unsigned (inf true) h = refl
square_unsigned (inf false) h = refl
square_unsigned (fin true m e) h = round_unsigned binary64 (m * up e * (m * up e)) (down e * down e)
square_unsigned (fin false m e) h = round_unsigned binary64 (m * up e * (m * up e)) (down e * down e)

inf_left : (x : Float) → unsigned x ≡ true → add binary64 (inf false) x ≡ inf false
unfolding add
inf_left nan h = absurd (subst T (sym h) tt)
inf_left (inf true) h = absurd (subst T (sym h) tt)
inf_left (inf false) h = refl
inf_left (fin s m e) h = refl

inf_right : (x : Float) → unsigned x ≡ true → add binary64 x (inf false) ≡ inf false
unfolding add
inf_right nan h = absurd (subst T (sym h) tt)
inf_right (inf true) h = absurd (subst T (sym h) tt)
inf_right (inf false) h = refl
inf_right (fin s m e) h = refl

square_inf : (b : Bool) → mul binary64 (inf b) (inf b) ≡ inf false
unfolding mul
square_inf true = refl
square_inf false = refl

module _ (x : List Float) (a : all_numbers x ≡ true) where
  squares_unsigned : (n : ℕ) → n ≤ length x → unsigned (sum_to x x n) ≡ true
  unfolding sum_to of_bits
  squares_unsigned zero l = refl
  squares_unsigned (suc n) l = add_unsigned _ _ (squares_unsigned n (omega arith)) (square_unsigned _ (all_numbers_at x n a (omega arith)))

  pub squares_inf : (j : ℕ) (b : Bool) → get_or x j nan ≡ inf b → (n : ℕ) → j < n → n ≤ length x → sum_to x x n ≡ inf false
  unfolding sum_to
  squares_inf j b h zero l u = absurd (never j l)
  squares_inf j b h (suc n) l u =
      elim (dec_le n j) [
        | yes g ↦
            let m : n ≡ j = omega arith in
            let e : get_or x n nan ≡ inf b = ap (λ (i : ℕ). get_or x i nan) m ∙ h in
            ap (λ (t : Float). add binary64 (sum_to x x n) (mul binary64 t t)) e
            ∙ ap (add binary64 (sum_to x x n)) (square_inf b) ∙ inf_right (sum_to x x n) (squares_unsigned n (omega arith))
        | no g ↦
            ap (λ (t : Float). add binary64 t (mul binary64 (get_or x n nan) (get_or x n nan))) (squares_inf j b h n (omega arith) (omega arith))
            ∙ inf_left _ (square_unsigned _ (all_numbers_at x n a (omega arith)))
      ]

-- ---- nonactive is 0 where p is not finite
no_excess : (x : Float) (b : Bool) → lt zero64 (sub binary64 x (mul binary64 (inf b) (inf b))) ≡ false
unfolding sub add mul neg lt of_bits
no_excess nan true = refl
no_excess nan false = refl
no_excess (inf true) true = refl
no_excess (inf true) false = refl
no_excess (inf false) true = refl
no_excess (inf false) false = refl
no_excess (fin s m e) true = refl
no_excess (fin s m e) false = refl

no_root : (x : Float) → lt zero64 x ≡ false → narrowed_root (above_zero x) ≡ zero32
unfolding above_zero narrowed_root narrow root of_bits
no_root x h = ap (λ (b : Bool). narrow (root binary64 (cond b x zero64))) h

no_nonactive : (p s : Float) → finite p ≡ false → nonactive_of p s ≡ zero32
unfolding nonactive_of mul
no_nonactive nan s h = no_root (sub binary64 (mul binary64 s s) nan) (ap (lt zero64) (sub_nan binary64 (mul binary64 s s)) ∙ lt_nan zero64)
no_nonactive (inf b) s h = no_root (sub binary64 (mul binary64 s s) (mul binary64 (inf b) (inf b))) (no_excess (mul binary64 s s) b)
no_nonactive (fin t m e) s h = absurd (subst T h tt)

-- ---- pf is a NaN where s is infinite too, and 0 where s is a NaN
over_inf : (p : Float) → finite p ≡ false → ratio_or_zero p (inf false) ≡ nan
unfolding ratio_or_zero div lt of_bits
over_inf nan h = refl
over_inf (inf s) h = refl
over_inf (fin s m e) h = absurd (subst T h tt)

over_nan : (p : Float) → ratio_or_zero p nan ≡ zero32
unfolding ratio_or_zero
over_nan p = rw lt_nan

-- an infinity times a root mean square: above 0 it is an infinity, and at 0 a NaN
times_inf : (r : Float) → T (above r) → (mul binary32 (inf false) r ≡ inf false) × (mul binary32 r (inf false) ≡ inf false)
unfolding mul
times_inf nan h = absurd h
times_inf (inf true) h = absurd h
times_inf (inf false) h = (refl, refl)
times_inf (fin true m e) h = absurd h
times_inf (fin false m e) h = let z = ne_eqb m 0 (some m (ltb→lt 0 m h)) in (rw z, rw z)
  where
    some : (m : ℕ) → 0 < m → m ≡ 0 → ⊥
    some m h e = omega arith

times_null : (r : Float) → Null r → (mul binary32 (inf false) r ≡ nan) × (mul binary32 r (inf false) ≡ nan)
unfolding mul
times_null nan h = absurd h
times_null (inf s) h = absurd h
times_null (fin s m e) h = (rw h, rw h)

root_inf : (n : ℕ) → n ≤ longest → narrowed_root (mean64 (inf false) n) ≡ inf false
unfolding narrowed_root narrow root
root_inf n l = ap narrowed_root (mean_same (inf false) n l refl)

-- ---- the record, with p beside an s that is infinite, and beside one that is a NaN
abbrev pub beside_inf : Float → Power
beside_inf p = record { p = p; nonactive = zero32; s = inf false; pf = nan }

abbrev pub beside_nan : Float → Power
beside_nan p = record { p = p; nonactive = zero32; s = nan; pf = zero32 }

-- the root mean square of the first n samples
abbrev pub rms_of : List Float → ℕ → Float
rms_of x n = narrowed_root (mean64 (sum_to x x n) n)

with_inf : (p s : Float) → finite p ≡ false → s ≡ inf false → record_with p s ≡ beside_inf p
with_inf p s h e = rw (e, no_nonactive p (inf false) h, over_inf p h)

with_nan : (p s : Float) → finite p ≡ false → s ≡ nan → record_with p s ≡ beside_nan p
with_nan p s h e = rw (e, no_nonactive p nan h, over_nan p)

-- p is the sum of the products itself where that is not finite
module _ (v i : List Float) (n : ℕ) (l : n ≤ longest) where
  pub settled : finite (sum_to v i n) ≡ false → record_of (capture_sums v i n) ≡ record_with (sum_to v i n) (apparent_of (capture_sums v i n))
  unfolding record_of active_of
  settled a = ap (λ (p : Float). record_with p (apparent_of (capture_sums v i n))) (ap narrow (mean_same (sum_to v i n) n l a) ∙ narrow_same (sum_to v i n) a)

  pub with_rms : (w : Power) → finite (sum_to v i n) ≡ false → record_with (sum_to v i n) (mul binary32 (rms_of v n) (rms_of i n)) ≡ w → record_of (capture_sums v i n) ≡ w
  unfolding apparent_of
  with_rms w a e = settled a ∙ e

  -- the voltage's root mean square, or the current's, is infinite; the other is above 0, or is 0
  module _ (a : finite (sum_to v i n) ≡ false) where
    pub voltage_inf : rms_of v n ≡ inf false → T (above (rms_of i n)) → record_of (capture_sums v i n) ≡ beside_inf (sum_to v i n)
    voltage_inf e t = with_rms _ a (with_inf _ _ a (ap (λ (r : Float). mul binary32 r (rms_of i n)) e ∙ (times_inf (rms_of i n) t).0))

    pub voltage_alone : rms_of v n ≡ inf false → Null (rms_of i n) → record_of (capture_sums v i n) ≡ beside_nan (sum_to v i n)
    voltage_alone e t = with_rms _ a (with_nan _ _ a (ap (λ (r : Float). mul binary32 r (rms_of i n)) e ∙ (times_null (rms_of i n) t).0))

    pub current_inf : rms_of i n ≡ inf false → T (above (rms_of v n)) → record_of (capture_sums v i n) ≡ beside_inf (sum_to v i n)
    current_inf e t = with_rms _ a (with_inf _ _ a (ap (mul binary32 (rms_of v n)) e ∙ (times_inf (rms_of v n) t).1))

    pub current_alone : rms_of i n ≡ inf false → Null (rms_of v n) → record_of (capture_sums v i n) ≡ beside_nan (sum_to v i n)
    current_alone e t = with_rms _ a (with_nan _ _ a (ap (mul binary32 (rms_of v n)) e ∙ (times_null (rms_of v n) t).1))

pub rms_inf : (x : List Float) (j : ℕ) (b : Bool) → all_numbers x ≡ true → get_or x j nan ≡ inf b → j < length x → length x ≤ longest → rms_of x (length x) ≡ inf false
rms_inf x j b a e h l = ap (λ (t : Float). narrowed_root (mean64 t (length x))) (squares_inf x a j b e (length x) h (le_refl (length x))) ∙ root_inf (length x) l

-- The f64 sums of a bin over whole codes: at most 2^27 in size, and exact where the codes are light. Assumes nothing.
use mathlib.Core.Path.{◌≡◌, refl, sym, ap, ◌∙◌, subst}
use mathlib.Core.Bool.{false}
use mathlib.Core.List.{List}
use Prim.Native.Nat.{ℕ, zero, suc, ◌+◌, ◌*◌, ◌^◌, ◌≤◌, ◌<◌, zero-le}
use native.Mathlib.Nat.{le_refl, le_trans, le_of_eq, le_of_lt, mul_assoc, mul-suc, suc-mul, mul-pos, add-mul, add-le-add, mul-le-mul_right, mul-le-mul_left}
use native.Mathlib.Omega.{arith}
use lib.Dec.{lit≤}
use lib.ListN.{length, get_or}
use lib.IntN.{ℤ, pos, neg_ℤ, nat_abs, ◌+ℤ◌, ◌-ℤ◌, ◌*ℤ◌, neg_ℤ-+ℤ}
use lib.Ieee.{Float, nan, inf, fin, binary64, add, sub, mul, of_bits}
use lib.Ieee.Positive.{den, den_pos}
use lib.Ieee.Back.{round_whole}
use Rattle.laws.specs.Whole.{value, Is}
use Rattle.laws.specs.Products.{products}
use Rattle.laws.proofs.Signs.{size_mul, size_add, size_neg, scale_add}
use Rattle.laws.proofs.Factors.{times_one, neg_scale}
use Rattle.laws.proofs.Rounded.{add_rounded, sub_rounded}
use Rattle.laws.proofs.Over.{Over, mul_over, add_over, sub_over}
use Rattle.laws.proofs.Bounded.{Bounded, bounded_more, over_bounded, mul_bounded, add_size, sub_size, add_bounded, sub_bounded}
use Rattle.laws.proofs.Distance.{Off, off_more, over_off, off_rounded, add_off, sub_off}
use Rattle.quarter.specs.Turn.{sine_of, cosine_of}
use Rattle.spectrum.specs.declared.parts.Sums.{Sums}
use Rattle.spectrum.specs.Bin.{angle_of, turned, sums_to, sums_of}
use Rattle.accuracy.specs.Accuracy.{Capture}
use Rattle.fundamental_codes.specs.Exact.{whole_sine, whole_cosine, real_sum, imag_sum, sizes}
use Rattle.fundamental_codes.specs.Claims.{exact_up_to, Light}
use Rattle.fundamental_codes.proofs.Sines.{sine_over, cosine_over, sine_small, cosine_small, sine_bounded, cosine_bounded}

-- sums of n codes that are off by at most n² / 2^38 from a / 2^30 and b / 2^30
pub record Rough (s : Sums) (n : ℕ) (a b : ℤ) : Type 0 where
  pub real : Off 38 s.real (a *ℤ pos (2 ^ 8)) (n * n)
  pub imag : Off 38 s.imag (b *ℤ pos (2 ^ 8)) (n * n)
  pub real_most : Bounded (n * 32768) s.real
  pub imag_most : Bounded (n * 32768) s.imag
  pub real_size : nat_abs (a *ℤ pos (2 ^ 8)) ≤ n * 2 ^ 53
  pub imag_size : nat_abs (b *ℤ pos (2 ^ 8)) ≤ n * 2 ^ 53

-- a code is a number over 1
is_over : (x : Float) (z : ℤ) → Is x z → Over 0 x z
is_over nan z h = absurd h
is_over (inf s) z h = absurd h
is_over (fin s m e) z h = (tt, times_one (value (fin s m e)) ∙ h)

zero_over : Over 30 (of_bits binary64 0) (pos 0)
unfolding of_bits
zero_over = (tt, refl)

-- ---- sizes of sums of products
pub term_size : (a w : ℤ) → nat_abs w ≤ 2 ^ 30 → nat_abs (a *ℤ w) ≤ nat_abs a * 2 ^ 30
term_size a w h = le_trans (le_of_eq (size_mul a w)) (mul-le-mul_left (nat_abs a) h)

products_size : (x g : ℕ → ℤ) → ((j : ℕ) → nat_abs (g j) ≤ 2 ^ 30) → (i : ℕ) → nat_abs (products x g i) ≤ sizes x i * 2 ^ 30
unfolding products sizes
products_size x g G zero = zero-le
products_size x g G (suc i) =
    le_trans (size_add (products x g i) (x i *ℤ g i))
    (le_trans (add-le-add (products_size x g G i) (term_size (x i) (g i) (G i))) (le_of_eq (sym (add-mul (sizes x i) (nat_abs (x i)) (2 ^ 30)))))

sizes_before : (x : ℕ → ℤ) (i : ℕ) → sizes x (suc i) ≤ exact_up_to → sizes x i ≤ exact_up_to
unfolding sizes
sizes_before x i h = omega arith

light_size : (a b : ℕ) → a ≤ b * 2 ^ 30 → b ≤ exact_up_to → a ≤ 2 ^ 53
light_size a b h l = le_trans h (le_trans (mul-le-mul_right (2 ^ 30) l) (lit≤ tt))

sizes_most : (x : ℕ → ℤ) (n m : ℕ) → ((j : ℕ) → j < n → nat_abs (x j) ≤ m) → (i : ℕ) → i ≤ n → sizes x i ≤ i * m
unfolding sizes
sizes_most x n m h zero k = zero-le
sizes_most x n m h (suc i) k = add_step (sizes x i) (nat_abs (x i)) i m (sizes_most x n m h i (le_of_lt k)) (h i k)
  where
    add_step : (p q i m : ℕ) → p ≤ i * m → q ≤ m → p + q ≤ suc i * m
    add_step p q i m a b = omega arith

pub light : Light
light x n m h l = le_trans (sizes_most x n m h n (le_refl n)) l

module _ (xs : List Float) (x : ℕ → ℤ) (c : Capture xs x) (k : ℕ) where
  -- ---- each product is exact
  abbrev angle : ℕ → ℕ
  angle j = angle_of (length xs) k j

  abbrev cosines : ℕ → ℤ
  cosines j = whole_cosine (angle j)

  abbrev sines : ℕ → ℤ
  sines j = whole_sine (angle j)

  term_over : (j : ℕ) → j < length xs → (y : Float) (w : ℤ) → Over 30 y w → nat_abs w ≤ 2 ^ 30 → Over 30 (mul binary64 (get_or xs j nan) y) (x j *ℤ w)
  term_over j h y w o l =
      mul_over binary64 0 30 (get_or xs j nan) y (x j) w (is_over (get_or xs j nan) (x j) (c.are j h)) o (lit≤ tt)
      (le_trans (term_size (x j) w l) (le_trans (mul-le-mul_right (2 ^ 30) (c.small j h)) (lit≤ tt)))

  -- ---- and so are the sums of light codes
  real_over : (i : ℕ) → i ≤ length xs → sizes x i ≤ exact_up_to → Over 30 (sums_to xs k i).real (products x cosines i)
  unfolding sums_to turned products
  real_over zero h l = zero_over
  real_over (suc i) h l =
      add_over binary64 30 (sums_to xs k i).real (mul binary64 (get_or xs i nan) (cosine_of (angle i))) (products x cosines i) (x i *ℤ cosines i)
      (real_over i (le_of_lt h) (sizes_before x i l)) (term_over i h (cosine_of (angle i)) (cosines i) (cosine_over (angle i)) (cosine_small (angle i))) (lit≤ tt)
      (light_size (nat_abs (products x cosines (suc i))) (sizes x (suc i)) (products_size x cosines (λ j. cosine_small (angle j)) (suc i)) l)

  imag_over : (i : ℕ) → i ≤ length xs → sizes x i ≤ exact_up_to → Over 30 (sums_to xs k i).imag (neg_ℤ (products x sines i))
  unfolding sums_to turned products
  imag_over zero h l = zero_over
  imag_over (suc i) h l =
      let s = products x sines i in
      let w = x i *ℤ sines i in
      let e : neg_ℤ s -ℤ w ≡ neg_ℤ (s +ℤ w) = sym (neg_ℤ-+ℤ s w) in
      subst (λ (z : ℤ). Over 30 (sums_to xs k (suc i)).imag z) e
      (sub_over binary64 30 (sums_to xs k i).imag (mul binary64 (get_or xs i nan) (sine_of (angle i))) (neg_ℤ s) w
      (imag_over i (le_of_lt h) (sizes_before x i l)) (term_over i h (sine_of (angle i)) (sines i) (sine_over (angle i)) (sine_small (angle i))) (lit≤ tt)
      (le_trans (le_of_eq (ap nat_abs e ∙ size_neg (s +ℤ w)))
      (light_size (nat_abs (products x sines (suc i))) (sizes x (suc i)) (products_size x sines (λ j. sine_small (angle j)) (suc i)) l)))

  pub real_exact : sizes x (length xs) ≤ exact_up_to → Over 30 (sums_of xs k).real (real_sum x (length xs) k)
  unfolding sums_of real_sum
  real_exact l = real_over (length xs) (le_refl (length xs)) l

  pub imag_exact : sizes x (length xs) ≤ exact_up_to → Over 30 (sums_of xs k).imag (imag_sum x (length xs) k)
  unfolding sums_of imag_sum
  imag_exact l = imag_over (length xs) (le_refl (length xs)) l

  -- ---- the sums of any codes are bounded
  term_bounded : (j : ℕ) → j < length xs → (y : Float) → Bounded 1 y → Bounded 32768 (mul binary64 (get_or xs j nan) y)
  term_bounded j h y b =
      mul_bounded binary64 (get_or xs j nan) y 32768 1 (round_whole binary64 false 32768 (lit≤ tt))
      (over_bounded 0 (get_or xs j nan) (x j) 32768 (is_over (get_or xs j nan) (x j) (c.are j h)) (c.small j h)) b

  few : (i : ℕ) → suc i ≤ 4096 → i * 32768 + 32768 ≤ 2 ^ 53
  few i h = omega arith

  next : (i : ℕ) → i * 32768 + 32768 ≤ suc i * 32768
  next i = omega arith

  real_bounded : (i : ℕ) → i ≤ length xs → i ≤ 4096 → Bounded (i * 32768) (sums_to xs k i).real
  unfolding sums_to turned
  real_bounded zero h l = over_bounded 30 (of_bits binary64 0) (pos 0) (0 * 32768) zero_over zero-le
  real_bounded (suc i) h l =
      bounded_more (i * 32768 + 32768) (suc i * 32768) (sums_to xs k (suc i)).real (next i)
      (add_bounded binary64 (sums_to xs k i).real (mul binary64 (get_or xs i nan) (cosine_of (angle i))) (i * 32768) 32768 (round_whole binary64 false (i * 32768 + 32768) (few i l))
      (real_bounded i (le_of_lt h) (le_of_lt l)) (term_bounded i h (cosine_of (angle i)) (cosine_bounded (angle i))))

  imag_bounded : (i : ℕ) → i ≤ length xs → i ≤ 4096 → Bounded (i * 32768) (sums_to xs k i).imag
  unfolding sums_to turned
  imag_bounded zero h l = over_bounded 30 (of_bits binary64 0) (pos 0) (0 * 32768) zero_over zero-le
  imag_bounded (suc i) h l =
      bounded_more (i * 32768 + 32768) (suc i * 32768) (sums_to xs k (suc i)).imag (next i)
      (sub_bounded binary64 (sums_to xs k i).imag (mul binary64 (get_or xs i nan) (sine_of (angle i))) (i * 32768) 32768 (round_whole binary64 false (i * 32768 + 32768) (few i l))
      (imag_bounded i (le_of_lt h) (le_of_lt l)) (term_bounded i h (sine_of (angle i)) (sine_bounded (angle i))))

  reach : (n : ℕ) → n ≤ 4096 → n * 32768 ≤ 2 ^ 27
  reach n h = omega arith

  pub real_27 : length xs ≤ 4096 → Bounded (2 ^ 27) (sums_of xs k).real
  unfolding sums_of
  real_27 h = bounded_more (length xs * 32768) (2 ^ 27) (sums_to xs k (length xs)).real (reach (length xs) h) (real_bounded (length xs) (le_refl (length xs)) h)

  pub imag_27 : length xs ≤ 4096 → Bounded (2 ^ 27) (sums_of xs k).imag
  unfolding sums_of
  imag_27 h = bounded_more (length xs * 32768) (2 ^ 27) (sums_to xs k (length xs)).imag (reach (length xs) h) (imag_bounded (length xs) (le_refl (length xs)) h)

  -- ---- and off by at most n² / 2^38, one part in 2^53 of i 32768 for the i-th
  square_next : (i : ℕ) → i * i + 0 + suc i ≤ suc i * suc i
  square_next i = let e : suc i * suc i ≡ i * suc i + suc i = suc-mul i (suc i) in let f : i * suc i ≡ i * i + i = mul-suc i i in omega arith

  share : (i : ℕ) → (i * 32768 + 32768) * 2 ^ 38 ≡ suc i * 2 ^ 53
  share i = omega arith

  more : (i : ℕ) → 0 < i * 32768 + 32768
  more i = omega arith

  real_off : (i : ℕ) → i ≤ length xs → i ≤ 4096 → Off 38 (sums_to xs k i).real (products x cosines i *ℤ pos (2 ^ 8)) (i * i)
  unfolding sums_to turned products
  real_off zero h l = over_off 30 8 (of_bits binary64 0) (pos 0) zero_over
  real_off (suc i) h l =
      let s = (sums_to xs k i).real in
      let m = mul binary64 (get_or xs i nan) (cosine_of (angle i)) in
      let p = products x cosines i in
      let t = x i *ℤ cosines i in
      let bs = real_bounded i (le_of_lt h) (le_of_lt l) in
      let bm = term_bounded i h (cosine_of (angle i)) (cosine_bounded (angle i)) in
      let a = add_off 38 s m (p *ℤ pos (2 ^ 8)) (t *ℤ pos (2 ^ 8)) (i * i) 0 (real_off i (le_of_lt h) (le_of_lt l))
      (over_off 30 8 m t (term_over i h (cosine_of (angle i)) (cosines i) (cosine_over (angle i)) (cosine_small (angle i)))) in
      off_more 38 (add binary64 s m) ((p +ℤ t) *ℤ pos (2 ^ 8)) (i * i + 0 + suc i) (suc i * suc i) (square_next i)
      (subst (λ (w : ℤ). Off 38 (add binary64 s m) w (i * i + 0 + suc i)) (sym (scale_add p t (pos (2 ^ 8))))
      (off_rounded binary64 38 (add binary64 s m) (value s *ℤ pos (den m) +ℤ value m *ℤ pos (den s)) (den s * den m) (p *ℤ pos (2 ^ 8) +ℤ t *ℤ pos (2 ^ 8)) (i * i + 0) (i * 32768 + 32768) (suc i)
      (add_rounded binary64 s m bs.0 bm.0) (real_bounded (suc i) h l).0 (mul-pos (den_pos s) (den_pos m)) (more i) (add_size s m (i * 32768) 32768 bs bm) (share i) a))

  imag_off : (i : ℕ) → i ≤ length xs → i ≤ 4096 → Off 38 (sums_to xs k i).imag (neg_ℤ (products x sines i) *ℤ pos (2 ^ 8)) (i * i)
  unfolding sums_to turned products
  imag_off zero h l = over_off 30 8 (of_bits binary64 0) (pos 0) zero_over
  imag_off (suc i) h l =
      let s = (sums_to xs k i).imag in
      let m = mul binary64 (get_or xs i nan) (sine_of (angle i)) in
      let p = products x sines i in
      let t = x i *ℤ sines i in
      let bs = imag_bounded i (le_of_lt h) (le_of_lt l) in
      let bm = term_bounded i h (sine_of (angle i)) (sine_bounded (angle i)) in
      let a = sub_off 38 s m (neg_ℤ p *ℤ pos (2 ^ 8)) (t *ℤ pos (2 ^ 8)) (i * i) 0 (imag_off i (le_of_lt h) (le_of_lt l))
      (over_off 30 8 m t (term_over i h (sine_of (angle i)) (sines i) (sine_over (angle i)) (sine_small (angle i)))) in
      let e : neg_ℤ p *ℤ pos (2 ^ 8) -ℤ t *ℤ pos (2 ^ 8) ≡ neg_ℤ (p +ℤ t) *ℤ pos (2 ^ 8) =
      ap (λ (z : ℤ). neg_ℤ p *ℤ pos (2 ^ 8) +ℤ z) (sym (neg_scale t (2 ^ 8))) ∙ sym (scale_add (neg_ℤ p) (neg_ℤ t) (pos (2 ^ 8))) ∙ ap (λ (z : ℤ). z *ℤ pos (2 ^ 8)) (sym (neg_ℤ-+ℤ p t)) in
      off_more 38 (sub binary64 s m) (neg_ℤ (p +ℤ t) *ℤ pos (2 ^ 8)) (i * i + 0 + suc i) (suc i * suc i) (square_next i)
      (subst (λ (w : ℤ). Off 38 (sub binary64 s m) w (i * i + 0 + suc i)) e
      (off_rounded binary64 38 (sub binary64 s m) (value s *ℤ pos (den m) -ℤ value m *ℤ pos (den s)) (den s * den m) (neg_ℤ p *ℤ pos (2 ^ 8) -ℤ t *ℤ pos (2 ^ 8)) (i * i + 0) (i * 32768 + 32768) (suc i)
      (sub_rounded binary64 s m bs.0 bm.0) (imag_bounded (suc i) h l).0 (mul-pos (den_pos s) (den_pos m)) (more i) (sub_size s m (i * 32768) 32768 bs bm) (share i) a))

  -- 2^8 times an exact sum
  all_size : (g : ℕ → ℤ) → ((j : ℕ) → nat_abs (g j) ≤ 2 ^ 30) → nat_abs (products x g (length xs)) * 2 ^ 8 ≤ length xs * 2 ^ 53
  all_size g G =
      let n = length xs in
      le_trans (mul-le-mul_right (2 ^ 8) (le_trans (products_size x g G n) (mul-le-mul_right (2 ^ 30) (sizes_most x n 32768 c.small n (le_refl n)))))
      (le_of_eq (ap (λ (m : ℕ). m * 2 ^ 8) (mul_assoc n 32768 (2 ^ 30)) ∙ mul_assoc n (32768 * 2 ^ 30) (2 ^ 8)))

  pub rough : length xs ≤ 4096 → Rough (sums_of xs k) (length xs) (real_sum x (length xs) k) (imag_sum x (length xs) k)
  unfolding sums_of real_sum imag_sum
  rough h =
      let n = length xs in
      record {
        real = real_off n (le_refl n) h;
        imag = imag_off n (le_refl n) h;
        real_most = real_bounded n (le_refl n) h;
        imag_most = imag_bounded n (le_refl n) h;
        real_size = le_trans (le_of_eq (size_mul (products x cosines n) (pos (2 ^ 8)))) (all_size cosines (λ j. cosine_small (angle j)));
        imag_size = le_trans (le_of_eq (size_mul (neg_ℤ (products x sines n)) (pos (2 ^ 8)) ∙ ap (λ (m : ℕ). m * 2 ^ 8) (size_neg (products x sines n)))) (all_size sines (λ j. sine_small (angle j)));
      }

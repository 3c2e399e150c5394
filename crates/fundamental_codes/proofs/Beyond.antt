-- Codes of any weight: where the exact sum or difference is beyond all that the roundings come to, its sign is the figure's. Assumes nothing.
use mathlib.Core.Path.{◌≡◌, sym, ap, ap₂, ◌∙◌, subst}
use mathlib.Core.Logic.{inl, inr}
use mathlib.Core.Bool.{Bool, true, false}
use Prim.Native.Nat.{ℕ, ◌+◌, ◌*◌, ◌^◌, ◌≤◌, ◌<◌}
use native.Mathlib.Nat.{le_trans, le_of_eq, lt_of_le_of_lt, lt_of_lt_of_le, mul_comm, mul_assoc, mul-pos, mul-mul-mul_comm, add-mul, add-le-add, mul-le-mul_right}
use native.Mathlib.Nat.{le_of_mul-le-mul_right, le-mul_of_pos_right, eq-zero-or-pos, mul-lt-mul_of_pos_right, zero-mul}
use native.Mathlib.Omega.{arith}
use lib.Dec.{lit≤, lit<}
use lib.IntN.{ℤ, pos, neg_ℤ, nat_abs, ◌+ℤ◌, ◌-ℤ◌, ◌*ℤ◌, neg_ℤ-+ℤ, neg_ℤ-neg_ℤ}
use lib.Ieee.{Float, binary64, add, sub, mul}
use lib.Ieee.Positive.{den, den_pos}
use Rattle.laws.specs.Whole.{signed, value}
use Rattle.laws.proofs.Signs.{sign_of, by_sign, size_mul, size_neg, signed_scale, scale_add}
use Rattle.laws.proofs.Factors.{interchange, neg_scale}
use Rattle.laws.proofs.Size.{SizeOf}
use Rattle.laws.proofs.Zero.{Number}
use Rattle.laws.proofs.Rounded.{mul_rounded, add_rounded, sub_rounded}
use Rattle.laws.proofs.Bounded.{Bounded, mul_size, add_size, sub_size}
use Rattle.laws.proofs.Lower.{rounded_stays}
use Rattle.laws.proofs.Distance.{dist, dist_left, Off, off_rounded, add_off, sub_off, mul_off}
use Rattle.spectrum.specs.declared.parts.Sums.{Sums}
use Rattle.accuracy.specs.Accuracy.{sign}
use Rattle.accuracy.proofs.Sentences.{sign_same}
use Rattle.fundamental.specs.Fundamental.{in_phase, across}
use Rattle.fundamental_codes.specs.Claims.{Beyond}
use Rattle.fundamental_codes.proofs.Sums.{Rough}
use Rattle.fundamental_codes.proofs.Along.{Along, along_trans, rounded_along}
use Rattle.fundamental_codes.proofs.Figures.{Small, product_bounded, in_phase_bounded, across_bounded}

-- ---- signs

-- a factor above 0 keeps the sign
sign_scale : (v : ℤ) (d : ℕ) → 0 < d → sign (v *ℤ pos d) ≡ sign v
sign_scale v d D =
    elim (eq-zero-or-pos (nat_abs v)) [
      | inl e ↦
          let z : v ≡ signed (sign_of v) 0 = by_sign v ∙ ap (λ (n : ℕ). signed (sign_of v) n) e in
          ap sign (ap (λ (k : ℤ). k *ℤ pos d) z ∙ signed_scale (sign_of v) 0 d ∙ ap (λ (n : ℕ). signed (sign_of v) n) (zero-mul d) ∙ sym z)
      | inr p ↦
          ap sign (ap (λ (k : ℤ). k *ℤ pos d) (by_sign v) ∙ signed_scale (sign_of v) (nat_abs v) d)
          ∙ sign_same (sign_of v) (nat_abs v * d) (nat_abs v) (mul-pos p D) p
          ∙ ap sign (sym (by_sign v))
    ]

-- a number nearer to another than 0 is has its sign
not_less : (a b : ℕ) → a + b < b → ⊥
not_less a b h = omega arith

some_left : (a b d : ℕ) → b ≤ a + d → d < b → 0 < a
some_left a b d h l = omega arith

above_zero_lem : (d b : ℕ) → d < b → 0 < b
above_zero_lem d b h = omega arith

nearer_signed : (s t : Bool) (a b : ℕ) → 0 < a → 0 < b → dist (signed s a) (signed t b) < b → sign (signed s a) ≡ sign (signed t b)
nearer_signed false false a b p q h = sign_same false a b p q
nearer_signed true true a b p q h = sign_same true a b p q
nearer_signed false true a b p q h = absurd (not_less a b (subst (λ (n : ℕ). n < b) (ap (λ (z : ℤ). nat_abs (pos a +ℤ z)) (neg_ℤ-neg_ℤ (pos b))) h))
nearer_signed true false a b p q h = absurd (not_less a b (subst (λ (n : ℕ). n < b) (ap nat_abs (sym (neg_ℤ-+ℤ (pos a) (pos b))) ∙ size_neg (pos (a + b))) h))

nearer : (x y : ℤ) → dist x y < nat_abs y → sign x ≡ sign y
nearer x y h =
    let a : 0 < nat_abs x = some_left (nat_abs x) (nat_abs y) (dist x y) (dist_left x y) h in
    ap sign (by_sign x)
    ∙ nearer_signed (sign_of x) (sign_of y) (nat_abs x) (nat_abs y) a (above_zero_lem (dist x y) (nat_abs y) h) (subst (λ (d : ℕ). d < nat_abs y) (ap₂ (λ (k l : ℤ). dist k l) (by_sign x) (by_sign y)) h)
    ∙ ap sign (sym (by_sign y))

-- ---- how far a product of two sums of n codes is off, in units of 2^-76
abbrev share : ℕ → ℕ
share n = n * n * (n * 32768 * 2 ^ 38) + n * 2 ^ 53 * (n * n) + n * 32768 * (n * 32768) * 2 ^ 23

share_is : (n : ℕ) → share n ≡ n * n * n * 2 ^ 53 + n * n * n * 2 ^ 53 + n * n * 2 ^ 53
share_is n =
    ap₂ (λ (a b : ℕ). a + b)
    (ap₂ (λ (a b : ℕ). a + b) (ap (λ (a : ℕ). n * n * a) (mul_assoc n 32768 (2 ^ 38)) ∙ sym (mul_assoc (n * n) n (32768 * 2 ^ 38)))
    (mul_comm (n * 2 ^ 53) (n * n) ∙ sym (mul_assoc (n * n) n (2 ^ 53))))
    (ap (λ (a : ℕ). a * 2 ^ 23) (mul-mul-mul_comm n 32768 n 32768) ∙ mul_assoc (n * n) (32768 * 32768) (2 ^ 23))

room : (c q d : ℕ) → q ≤ c → c * 2 ^ 40 < d → c * 2 ^ 53 + c * 2 ^ 53 + q * 2 ^ 53 + (c * 2 ^ 53 + c * 2 ^ 53 + q * 2 ^ 53) + 2 ^ 15 ≤ d * 2 ^ 16
room c q d h l = omega arith

enough : (n d : ℕ) → 0 < n → n * n * n * 2 ^ 40 < d → share n + share n + 2 ^ 15 ≤ d * 2 ^ 16
enough n d N h =
    le_trans (le_of_eq (ap (λ (a : ℕ). a + a + 2 ^ 15) (share_is n))) (room (n * n * n) (n * n) d (le-mul_of_pos_right (n * n) N) h)

-- ---- so a sum or difference that is beyond that is left with its sign, and is not small
module _ (n : ℕ) (N : 0 < n) (v w d : ℤ) (c : ℕ) (C : 0 < c) (near : dist (v *ℤ pos (2 ^ 76)) (w *ℤ pos c) ≤ (share n + share n) * c) (e : w ≡ d *ℤ pos (2 ^ 16)) (b : Beyond n d) where
  wide : share n + share n + 2 ^ 15 ≤ nat_abs w
  wide = le_trans (enough n (nat_abs d) N b) (le_of_eq (sym (ap nat_abs e ∙ size_mul d (pos (2 ^ 16)))))

  pub beyond_sign : sign v ≡ sign d
  beyond_sign =
      sym (sign_scale v (2 ^ 76) (lit< tt))
      ∙ nearer (v *ℤ pos (2 ^ 76)) (w *ℤ pos c)
      (lt_of_le_of_lt near (lt_of_lt_of_le (mul-lt-mul_of_pos_right (less (share n + share n) (nat_abs w) wide) C) (le_of_eq (sym (size_mul w (pos c))))))
      ∙ sign_scale w c C
      ∙ ap sign e
      ∙ sign_scale d (2 ^ 16) (lit< tt)
    where
      less : (a b : ℕ) → a + 2 ^ 15 ≤ b → a < b
      less a b h = omega arith

  pub beyond_size : c ≤ nat_abs v * 2 ^ 61
  beyond_size =
      let t = share n + share n in
      let l : nat_abs w * c ≤ nat_abs v * 2 ^ 76 + t * c =
      le_trans (le_of_eq (sym (size_mul w (pos c))))
      (le_trans (dist_left (v *ℤ pos (2 ^ 76)) (w *ℤ pos c)) (add-le-add (le_of_eq (size_mul v (pos (2 ^ 76)))) near)) in
      last (nat_abs v) c (t * c) (le_trans (le_of_eq (sym (add-mul t (2 ^ 15) c))) (le_trans (mul-le-mul_right c wide) l))
    where
      last : (v c t : ℕ) → t + 2 ^ 15 * c ≤ v * 2 ^ 76 + t → c ≤ v * 2 ^ 61
      last v c t h = le_of_mul-le-mul_right (le_trans (first c v t h) (le_of_eq (sym (mul_assoc v (2 ^ 61) (2 ^ 15))))) (lit< tt)
        where
          first : (c v t : ℕ) → t + 2 ^ 15 * c ≤ v * 2 ^ 76 + t → c * 2 ^ 15 ≤ v * 2 ^ 76
          first c v t h = omega arith

-- ---- products of sums
product_off : (n : ℕ) (x y : Float) (a c : ℤ) → 0 < n → Off 38 x (a *ℤ pos (2 ^ 8)) (n * n) → Off 38 y (c *ℤ pos (2 ^ 8)) (n * n) → Bounded (n * 32768) x → Bounded (n * 32768) y
    → nat_abs (a *ℤ pos (2 ^ 8)) ≤ n * 2 ^ 53 → Number (mul binary64 x y) → Off 76 (mul binary64 x y) (a *ℤ pos (2 ^ 8) *ℤ (c *ℤ pos (2 ^ 8))) (share n)
product_off n x y a c N o q bx by s X =
    let B = n * 32768 in
    let B+ : 0 < B = mul-pos N (lit< tt) in
    off_rounded binary64 76 (mul binary64 x y) (value x *ℤ value y) (den x * den y) (a *ℤ pos (2 ^ 8) *ℤ (c *ℤ pos (2 ^ 8))) (n * n * (n * 32768 * 2 ^ 38) + n * 2 ^ 53 * (n * n)) (B * B)
    (B * B * 2 ^ 23) (mul_rounded binary64 x y o.0 q.0) X (mul-pos (den_pos x) (den_pos y)) (mul-pos B+ B+) (mul_size x y B B bx by) (sym (mul_assoc (B * B) (2 ^ 23) (2 ^ 53)))
    (mul_off 38 x y (a *ℤ pos (2 ^ 8)) (c *ℤ pos (2 ^ 8)) (n * n) (n * n) B (n * 2 ^ 53) o q by.1 s)

units : (a c : ℤ) → a *ℤ pos (2 ^ 8) *ℤ (c *ℤ pos (2 ^ 8)) ≡ a *ℤ c *ℤ pos (2 ^ 16)
units a c = interchange a (pos (2 ^ 8)) c (pos (2 ^ 8))

-- ---- a sum or a difference of two products, rounded
abbrev scaled_up : ℤ → ℤ → ℤ
scaled_up a c = a *ℤ pos (2 ^ 8) *ℤ (c *ℤ pos (2 ^ 8))

module _ (n : ℕ) (N : 0 < n) (x y : Float) (a c b d : ℤ) (bx : Bounded (2 ^ 54) x) (by : Bounded (2 ^ 54) y) (ox : Off 76 x (scaled_up a c) (share n)) (oy : Off 76 y (scaled_up b d) (share n)) where
  C : 0 < den x * den y
  C = mul-pos (den_pos x) (den_pos y)

  module _ (X : Number (add binary64 x y)) (far : Beyond n (a *ℤ c +ℤ b *ℤ d)) where
    abbrev plus : ℤ
    plus = value x *ℤ pos (den y) +ℤ value y *ℤ pos (den x)

    plus_near : dist (plus *ℤ pos (2 ^ 76)) ((scaled_up a c +ℤ scaled_up b d) *ℤ pos (den x * den y)) ≤ (share n + share n) * (den x * den y)
    plus_near = add_off 76 x y (scaled_up a c) (scaled_up b d) (share n) (share n) ox oy

    plus_units : scaled_up a c +ℤ scaled_up b d ≡ (a *ℤ c +ℤ b *ℤ d) *ℤ pos (2 ^ 16)
    plus_units = ap₂ (λ (k l : ℤ). k +ℤ l) (units a c) (units b d) ∙ sym (scale_add (a *ℤ c) (b *ℤ d) (pos (2 ^ 16)))

    pub plus_right : Along (value (add binary64 x y)) (a *ℤ c +ℤ b *ℤ d)
    plus_right =
        along_trans (value (add binary64 x y)) plus (a *ℤ c +ℤ b *ℤ d)
        (rounded_along binary64 (add binary64 x y) plus (den x * den y) C X (add_rounded binary64 x y bx.0 by.0))
        (inl (beyond_sign n N plus (scaled_up a c +ℤ scaled_up b d) (a *ℤ c +ℤ b *ℤ d) (den x * den y) C plus_near plus_units far))

    pub plus_size : SizeOf (add binary64 x y) (2 ^ 62) (2 ^ 56)
    plus_size =
        rounded_stays binary64 (add binary64 x y) plus (den x * den y) (2 ^ 61) (2 ^ 55) (add_rounded binary64 x y bx.0 by.0) X
        (record {
          whole = C;
          least = beyond_size n N plus (scaled_up a c +ℤ scaled_up b d) (a *ℤ c +ℤ b *ℤ d) (den x * den y) C plus_near plus_units far;
          most = add_size x y (2 ^ 54) (2 ^ 54) bx by;
        }) (lit≤ tt) (lit< tt)

  module _ (X : Number (sub binary64 x y)) (far : Beyond n (a *ℤ c -ℤ b *ℤ d)) where
    abbrev minus : ℤ
    minus = value x *ℤ pos (den y) -ℤ value y *ℤ pos (den x)

    minus_near : dist (minus *ℤ pos (2 ^ 76)) ((scaled_up a c -ℤ scaled_up b d) *ℤ pos (den x * den y)) ≤ (share n + share n) * (den x * den y)
    minus_near = sub_off 76 x y (scaled_up a c) (scaled_up b d) (share n) (share n) ox oy

    minus_units : scaled_up a c -ℤ scaled_up b d ≡ (a *ℤ c -ℤ b *ℤ d) *ℤ pos (2 ^ 16)
    minus_units =
        ap₂ (λ (k l : ℤ). k -ℤ l) (units a c) (units b d)
        ∙ ap (λ (k : ℤ). a *ℤ c *ℤ pos (2 ^ 16) +ℤ k) (sym (neg_scale (b *ℤ d) (2 ^ 16)))
        ∙ sym (scale_add (a *ℤ c) (neg_ℤ (b *ℤ d)) (pos (2 ^ 16)))

    pub minus_right : Along (value (sub binary64 x y)) (a *ℤ c -ℤ b *ℤ d)
    minus_right =
        along_trans (value (sub binary64 x y)) minus (a *ℤ c -ℤ b *ℤ d)
        (rounded_along binary64 (sub binary64 x y) minus (den x * den y) C X (sub_rounded binary64 x y bx.0 by.0))
        (inl (beyond_sign n N minus (scaled_up a c -ℤ scaled_up b d) (a *ℤ c -ℤ b *ℤ d) (den x * den y) C minus_near minus_units far))

    pub minus_size : SizeOf (sub binary64 x y) (2 ^ 62) (2 ^ 56)
    minus_size =
        rounded_stays binary64 (sub binary64 x y) minus (den x * den y) (2 ^ 61) (2 ^ 55) (sub_rounded binary64 x y bx.0 by.0) X
        (record {
          whole = C;
          least = beyond_size n N minus (scaled_up a c -ℤ scaled_up b d) (a *ℤ c -ℤ b *ℤ d) (den x * den y) C minus_near minus_units far;
          most = sub_size x y (2 ^ 54) (2 ^ 54) bx by;
        }) (lit≤ tt) (lit< tt)

-- ---- the two figures before they are scaled
module _ (v i : Sums) (n : ℕ) (N : 0 < n) (sv : Small v) (si : Small i) (a b c d : ℤ) (rv : Rough v n a b) (ri : Rough i n c d) where
  pub in_phase_right : Beyond n (a *ℤ c +ℤ b *ℤ d) → Along (value (in_phase v i)) (a *ℤ c +ℤ b *ℤ d) × SizeOf (in_phase v i) (2 ^ 62) (2 ^ 56)
  unfolding in_phase
  in_phase_right far =
      let x = mul binary64 v.real i.real in
      let y = mul binary64 v.imag i.imag in
      let bx = product_bounded v.real i.real sv.real si.real in
      let by = product_bounded v.imag i.imag sv.imag si.imag in
      let ox = product_off n v.real i.real a c N rv.real ri.real rv.real_most ri.real_most rv.real_size bx.0 in
      let oy = product_off n v.imag i.imag b d N rv.imag ri.imag rv.imag_most ri.imag_most rv.imag_size by.0 in
      let X = (in_phase_bounded v i sv si).0 in
      (plus_right n N x y a c b d bx by ox oy X far, plus_size n N x y a c b d bx by ox oy X far)

  pub across_right : Beyond n (b *ℤ c -ℤ a *ℤ d) → Along (value (across v i)) (b *ℤ c -ℤ a *ℤ d) × SizeOf (across v i) (2 ^ 62) (2 ^ 56)
  unfolding across
  across_right far =
      let x = mul binary64 v.imag i.real in
      let y = mul binary64 v.real i.imag in
      let bx = product_bounded v.imag i.real sv.imag si.real in
      let by = product_bounded v.real i.imag sv.real si.imag in
      let ox = product_off n v.imag i.real b c N rv.imag ri.real rv.imag_most ri.real_most rv.imag_size bx.0 in
      let oy = product_off n v.real i.imag a d N rv.real ri.imag rv.real_most ri.imag_most rv.real_size by.0 in
      let X = (across_bounded v i sv si).0 in
      (minus_right n N x y b c a d bx by ox oy X far, minus_size n N x y b c a d bx by ox oy X far)

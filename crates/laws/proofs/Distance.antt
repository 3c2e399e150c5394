-- How far two whole numbers are apart, and floats from fractions: `Off p x w E` says that x is within E / 2^p of w / 2^p. One rounding adds at most one part in 2^prec of a bound. Assumes nothing.
use mathlib.Core.Path.{◌≡◌, refl, sym, ap, ap₂, ◌∙◌}
use mathlib.Core.Bool.{Bool, true, false, not}
use Prim.Native.Nat.{ℕ, suc, ◌+◌, ◌-◌, ◌*◌, ◌/◌, ◌^◌, ◌≤◌, ◌<◌, zero-le}
use native.Mathlib.Nat.{le_trans, le_of_eq, le_of_lt, mul_comm, mul_assoc, mul_left_comm, mul_right_comm, mul-pos, mul-one, add-mul, mul-le-mul, mul-le-mul_right}
use native.Mathlib.Nat.{le_of_mul-le-mul_right, add_comm, add-le-add}
use native.Mathlib.Omega.{arith}
use native.Mathlib.Decide.{dec_le}
use lib.Dec.{T, leb, leb→le, nleb→lt, lit≤}
use lib.Pow.{pow-add, pow_pos}
use lib.IntN.{ℤ, pos, negsuc, neg_ℤ, nat_abs, ◌+ℤ◌, ◌-ℤ◌, ◌*ℤ◌, +ℤ_assoc, +ℤ_comm, +ℤ_invr, -ℤ-+ℤ_cancel, *ℤ_comm, *ℤ-negsuc, neg_ℤ-+ℤ, neg_ℤ-neg_ℤ}
use lib.Ieee.{Float, nan, inf, fin, Format, binary32, binary64, prec, low, up, size}
use lib.Ieee.Fits.{two, two-le_pos}
use lib.Ieee.Order.{drop, kept}
use lib.Ieee.Scale.{grid}
use lib.Ieee.Positive.{num, den}
use Rattle.laws.specs.Whole.{gap, signed, value}
use Rattle.laws.proofs.Signs.{signed_scale, size_mul, size_add, size_neg, scale_add, minus_le, minus_ge}
use Rattle.laws.proofs.Factors.{interchange, times_assoc, times_swap, neg_scale}
use Rattle.laws.proofs.Near.{gap_mul, half, unit_le}
use Rattle.laws.proofs.Close.{cross}
use Rattle.laws.proofs.Size.{Signed}
use Rattle.laws.proofs.Zero.{Number}
use Rattle.laws.proofs.Rounded.{Rounded, rounded_size}
use Rattle.laws.proofs.Over.{Over}
use Rattle.laws.proofs.Bounded.{shares, rounded_value, rounded_signed, size_value}

-- ---- distances
abbrev pub dist : ℤ → ℤ → ℕ
dist a b = nat_abs (a -ℤ b)

pub dist_through : (a b c : ℤ) → dist a c ≤ dist a b + dist b c
dist_through a b c =
    le_trans (le_of_eq (ap nat_abs (sym (sym (+ℤ_assoc (a -ℤ b) b (neg_ℤ c)) ∙ ap (λ (x : ℤ). x +ℤ neg_ℤ c) (-ℤ-+ℤ_cancel a b))))) (size_add (a -ℤ b) (b -ℤ c))

pub dist_swap : (a b : ℤ) → dist a b ≡ dist b a
dist_swap a b = sym (size_neg (a -ℤ b)) ∙ ap nat_abs (neg_ℤ-+ℤ a (neg_ℤ b) ∙ +ℤ_comm (neg_ℤ a) (neg_ℤ (neg_ℤ b)) ∙ ap (λ (x : ℤ). x +ℤ neg_ℤ a) (neg_ℤ-neg_ℤ b))

four_swap : (a c b d : ℤ) → a +ℤ c +ℤ (b +ℤ d) ≡ a +ℤ b +ℤ (c +ℤ d)
four_swap a c b d =
    +ℤ_assoc a c (b +ℤ d) ∙ ap (λ (x : ℤ). a +ℤ x) (sym (+ℤ_assoc c b d) ∙ ap (λ (x : ℤ). x +ℤ d) (+ℤ_comm c b) ∙ +ℤ_assoc b c d) ∙ sym (+ℤ_assoc a b (c +ℤ d))

pub dist_add : (a b c d : ℤ) → dist (a +ℤ c) (b +ℤ d) ≤ dist a b + dist c d
dist_add a b c d =
    le_trans (le_of_eq (ap nat_abs (ap (λ (x : ℤ). a +ℤ c +ℤ x) (neg_ℤ-+ℤ b d) ∙ four_swap a c (neg_ℤ b) (neg_ℤ d)))) (size_add (a -ℤ b) (c -ℤ d))

pub dist_neg : (a b : ℤ) → dist (neg_ℤ a) (neg_ℤ b) ≡ dist a b
dist_neg a b = ap nat_abs (sym (neg_ℤ-+ℤ a (neg_ℤ b))) ∙ size_neg (a -ℤ b)

neg_times : (b c : ℤ) → neg_ℤ b *ℤ c ≡ neg_ℤ (b *ℤ c)
neg_times b (pos d) = neg_scale b d
neg_times b (negsuc d) = *ℤ-negsuc (neg_ℤ b) d ∙ ap neg_ℤ (neg_scale b (suc d)) ∙ ap neg_ℤ (sym (*ℤ-negsuc b d))

pub dist_times : (a b c : ℤ) → dist (a *ℤ c) (b *ℤ c) ≡ dist a b * nat_abs c
dist_times a b c = ap nat_abs (ap (λ (x : ℤ). a *ℤ c +ℤ x) (sym (neg_times b c)) ∙ sym (scale_add a (neg_ℤ b) c)) ∙ size_mul (a -ℤ b) c

pub dist_product : (a b c d : ℤ) → dist (a *ℤ c) (b *ℤ d) ≤ dist a b * nat_abs c + nat_abs b * dist c d
dist_product a b c d =
    le_trans (dist_through (a *ℤ c) (b *ℤ c) (b *ℤ d))
    (add-le-add (le_of_eq (dist_times a b c))
    (le_of_eq (ap₂ (λ (x y : ℤ). dist x y) (*ℤ_comm b c) (*ℤ_comm b d) ∙ dist_times c d b ∙ mul_comm (dist c d) (nat_abs b))))

-- what is near b is not much smaller
pub dist_left : (a b : ℤ) → nat_abs b ≤ nat_abs a + dist a b
dist_left a b =
    le_trans (le_of_eq (ap nat_abs (sym (+ℤ_comm a (b -ℤ a) ∙ -ℤ-+ℤ_cancel b a)))) (le_trans (size_add a (b -ℤ a)) (add-le-add (le_of_eq refl) (le_of_eq (dist_swap b a))))

pub dist_pos : (a b : ℕ) → dist (pos a) (pos b) ≡ gap a b
dist_pos a b = go (leb a b) (leb→le a b) (nleb→lt a b)
  where
    left : (a b : ℕ) → a ≤ b → b - a ≡ gap a b
    left a b h = omega arith

    right : (a b : ℕ) → b < a → a - b ≡ gap a b
    right a b h = omega arith

    go : (t : Bool) → (T t → a ≤ b) → (T (not t) → b < a) → dist (pos a) (pos b) ≡ gap a b
    go true p q = ap nat_abs (minus_ge a b (p tt)) ∙ size_neg (pos (b - a)) ∙ left a b (p tt)
    go false p q = ap nat_abs (minus_le a b (le_of_lt (q tt))) ∙ right a b (q tt)

pub dist_signed : (s : Bool) (a b : ℕ) → dist (signed s a) (signed s b) ≡ gap a b
dist_signed false a b = dist_pos a b
dist_signed true a b = dist_neg (pos a) (pos b) ∙ dist_pos a b

-- ---- one rounding, of a fraction that is at most B: off by one part in 2 ^ prec of B, in the normal range or below it
plenty : (f : Format) → 2 ^ (prec f - 1) ≤ 2 ^ low f
plenty binary32 = lit≤ tt
plenty binary64 = lit≤ tt

twice_half : (f : Format) → 2 * 2 ^ (prec f - 1) ≡ 2 ^ prec f
twice_half binary32 = refl
twice_half binary64 = refl

module _ (f : Format) (a c B : ℕ) (C : 0 < c) (B+ : 0 < B) (h : a ≤ B * c) where
  unit_small : c * 2 ^ drop (prec f) (a * 2 ^ low f) c * 2 ^ (prec f - 1) ≤ B * c * 2 ^ low f
  unit_small =
      let p = prec f in
      let n = a * 2 ^ low f in
      elim (dec_le p (size (n / c))) [
        | yes l ↦ le_trans (unit_le p n c (two-le_pos p (two f)) C l) (mul-le-mul_right (2 ^ low f) h)
        | no g ↦
            let z : drop p n c ≡ 0 = none (size (n / c)) p g in
            le_trans (le_of_eq (ap (λ (k : ℕ). c * 2 ^ k * 2 ^ (p - 1)) z ∙ ap (λ (k : ℕ). k * 2 ^ (p - 1)) (mul-one c)))
            (mul-le-mul (le_trans (le_of_eq (sym (one-mul c))) (mul-le-mul_right c B+)) (plenty f))
      ]
    where
      none : (s p : ℕ) → (p ≤ s → ⊥) → s - p ≡ 0
      none s p g = omega arith

      one-mul : (c : ℕ) → 1 * c ≡ c
      one-mul c = omega arith

  grid_near : gap (grid f a c * c) (a * 2 ^ low f) * 2 ^ prec f ≤ B * c * 2 ^ low f
  grid_near =
      let p = prec f in
      let n = a * 2 ^ low f in
      let k = drop p n c in
      let u = c * 2 ^ k in
      let e : grid f a c * c ≡ kept p n c * u = mul_assoc (kept p n c) (2 ^ k) c ∙ ap (λ (x : ℕ). kept p n c * x) (mul_comm (2 ^ k) c) in
      le_trans
      (le_of_eq (ap (λ (x : ℕ). gap x n * 2 ^ p) e ∙ ap (λ (x : ℕ). gap (kept p n c * u) n * x) (sym (twice_half f)) ∙ sym (mul_assoc (gap (kept p n c * u) n) 2 (2 ^ (p - 1)))))
      (le_trans (mul-le-mul_right (2 ^ (p - 1)) (half n u (mul-pos C (pow_pos k)))) unit_small)

pub value_is : (x : Float) (s : Bool) → Signed x s → value x ≡ signed s (num x)
value_is nan s h = absurd h
value_is (inf t) s h = absurd h
value_is (fin t m e) s h = ap (λ (b : Bool). signed b (m * up e)) h.0

pub rounded_near : (f : Format) (x : Float) (z : ℤ) (c B : ℕ) → Rounded f x z c → Number x → 0 < c → 0 < B → nat_abs z ≤ B * c
    → dist (value x *ℤ pos c) (z *ℤ pos (den x)) * 2 ^ prec f ≤ B * c * den x
rounded_near f x z c B r X C B+ h =
    let s = r.side in
    let a = r.amount in
    let g = grid f a c in
    let u = 2 ^ low f in
    let e : num x * u ≡ g * den x = cross x s g u (rounded_value f x z c r X) in
    let f₁ : num x * c * u ≡ g * c * den x = mul_right_comm (num x) c u ∙ ap (λ (n : ℕ). n * c) e ∙ mul_right_comm g (den x) c in
    let f₂ : a * den x * u ≡ a * u * den x = mul_right_comm a (den x) u in
    let d = gap (num x * c) (a * den x) in
    let g₁ : d * u ≡ gap (g * c) (a * u) * den x = gap_mul (num x * c) (a * den x) u ∙ ap₂ (λ (m n : ℕ). gap m n) f₁ f₂ ∙ sym (gap_mul (g * c) (a * u) (den x)) in
    let t : d * 2 ^ prec f * u ≤ B * c * den x * u =
    le_trans (le_of_eq (mul_right_comm d (2 ^ prec f) u ∙ ap (λ (n : ℕ). n * 2 ^ prec f) g₁ ∙ mul_right_comm (gap (g * c) (a * u)) (den x) (2 ^ prec f)))
    (le_trans (mul-le-mul_right (den x) (grid_near f a c B C B+ (le_trans (le_of_eq (rounded_size f x z c r)) h))) (le_of_eq (mul_right_comm (B * c) u (den x)))) in
    let v : dist (value x *ℤ pos c) (z *ℤ pos (den x)) ≡ d =
    ap₂ (λ (m n : ℤ). dist m n) (ap (λ (k : ℤ). k *ℤ pos c) (value_is x s (rounded_signed f x z c r X)) ∙ signed_scale s (num x) c)
    (ap (λ (k : ℤ). k *ℤ pos (den x)) (sym r.whole) ∙ signed_scale s a (den x))
    ∙ dist_signed s (num x * c) (a * den x) in
    le_trans (le_of_eq (ap (λ (n : ℕ). n * 2 ^ prec f) v)) (le_of_mul-le-mul_right t (pow_pos (low f)))

-- ---- x is within E / 2^p of w / 2^p
abbrev pub Off : ℕ → Float → ℤ → ℕ → Type 0
Off p x w E = Number x × (dist (value x *ℤ pos (2 ^ p)) (w *ℤ pos (den x)) ≤ E * den x)

pub off_more : (p : ℕ) (x : Float) (w : ℤ) (E F : ℕ) → E ≤ F → Off p x w E → Off p x w F
off_more p x w E F h o = (o.0, le_trans o.1 (mul-le-mul_right (den x) h))

-- an exact fraction, in smaller units
pub over_off : (p q : ℕ) (x : Float) (z : ℤ) → Over p x z → Off (p + q) x (z *ℤ pos (2 ^ q)) 0
over_off p q x z o =
    let e : value x *ℤ pos (2 ^ (p + q)) ≡ z *ℤ pos (2 ^ q) *ℤ pos (den x) =
    ap (λ (n : ℕ). value x *ℤ pos n) (pow-add 2 p q) ∙ sym (times_assoc (value x) (pos (2 ^ p)) (pos (2 ^ q))) ∙ ap (λ (v : ℤ). v *ℤ pos (2 ^ q)) o.1 ∙ times_swap z (pos (den x)) (pos (2 ^ q)) in
    (o.0, le_trans (le_of_eq (ap (λ (v : ℤ). dist v (z *ℤ pos (2 ^ q) *ℤ pos (den x))) e ∙ ap nat_abs (+ℤ_invr (z *ℤ pos (2 ^ q) *ℤ pos (den x))))) zero-le)

-- what is rounded is within E of w: so is what comes of it, and b more
pub off_rounded : (f : Format) (p : ℕ) (x : Float) (z : ℤ) (c : ℕ) (w : ℤ) (E B b : ℕ) → Rounded f x z c → Number x → 0 < c → 0 < B → nat_abs z ≤ B * c → B * 2 ^ p ≡ b * 2 ^ prec f
    → dist (z *ℤ pos (2 ^ p)) (w *ℤ pos c) ≤ E * c → Off p x w (E + b)
off_rounded f p x z c w E B b r X C B+ h e g =
    let v = value x in
    let d = den x in
    let P = 2 ^ p in
    let t : dist (v *ℤ pos P) (w *ℤ pos d) * c ≤ dist (v *ℤ pos c) (z *ℤ pos d) * P + E * c * d =
    le_trans (le_of_eq (sym (dist_times (v *ℤ pos P) (w *ℤ pos d) (pos c))))
    (le_trans (dist_through (v *ℤ pos P *ℤ pos c) (z *ℤ pos d *ℤ pos P) (w *ℤ pos d *ℤ pos c))
    (add-le-add (le_of_eq (ap (λ (k : ℤ). dist k (z *ℤ pos d *ℤ pos P)) (times_swap v (pos P) (pos c)) ∙ dist_times (v *ℤ pos c) (z *ℤ pos d) (pos P)))
    (le_trans (le_of_eq (ap₂ (λ (k l : ℤ). dist k l) (times_swap z (pos d) (pos P)) (times_swap w (pos d) (pos c)) ∙ dist_times (z *ℤ pos P) (w *ℤ pos c) (pos d))) (mul-le-mul_right d g)))) in
    (X, last (dist (v *ℤ pos P) (w *ℤ pos d)) c (dist (v *ℤ pos c) (z *ℤ pos d)) P E d B b (2 ^ prec f) C (pow_pos (prec f)) t (rounded_near f x z c B r X C B+ h) e)
  where
    last : (D c R P E d B b K : ℕ) → 0 < c → 0 < K → D * c ≤ R * P + E * c * d → R * K ≤ B * c * d → B * P ≡ b * K → D ≤ (E + b) * d
    last D c R P E d B b K C K+ t r e =
        let l : R * P * K ≤ b * d * (c * K) =
        le_trans (le_of_eq (mul_right_comm R P K))
        (le_trans (mul-le-mul_right P r) (le_of_eq (q₁ B c d P ∙ ap (λ (n : ℕ). n * (c * d)) e ∙ q₂ b K c d))) in
        le_of_mul-le-mul_right
        (le_trans (le_of_eq (sym (mul_assoc D c K)))
        (le_trans (mul-le-mul_right K t)
        (le_trans (le_of_eq (add-mul (R * P) (E * c * d) K))
        (le_trans (add-le-add l (le_of_eq (q₃ E c d K))) (le_of_eq (q₄ b d (c * K) E))))))
        (mul-pos C K+)
      where
        q₁ : (B c d P : ℕ) → B * c * d * P ≡ B * P * (c * d)
        q₁ B c d P = simp (mul_assoc, mul_comm, mul_left_comm)

        q₂ : (b K c d : ℕ) → b * K * (c * d) ≡ b * d * (c * K)
        q₂ b K c d = simp (mul_assoc, mul_comm, mul_left_comm)

        q₃ : (E c d K : ℕ) → E * c * d * K ≡ E * d * (c * K)
        q₃ E c d K = simp (mul_assoc, mul_comm, mul_left_comm)

        q₄ : (b d m E : ℕ) → b * d * m + E * d * m ≡ (E + b) * d * m
        q₄ b d m E = sym (add-mul (b * d) (E * d) m) ∙ ap (λ (n : ℕ). n * m) (sym (add-mul b E d) ∙ ap (λ (n : ℕ). n * d) (add_comm b E))

-- ---- what a sum, a difference and a product of such numbers round
module _ (p : ℕ) (x y : Float) (w u : ℤ) (E F : ℕ) (o : Off p x w E) (q : Off p y u F) where
  abbrev P : ℤ
  P = pos (2 ^ p)

  left_off : dist (value x *ℤ pos (den y) *ℤ P) (w *ℤ pos (den x * den y)) ≡ dist (value x *ℤ P) (w *ℤ pos (den x)) * den y
  left_off =
      ap₂ (λ (k l : ℤ). dist k l) (times_swap (value x) (pos (den y)) P) (sym (times_assoc w (pos (den x)) (pos (den y))))
      ∙ dist_times (value x *ℤ P) (w *ℤ pos (den x)) (pos (den y))

  right_off : dist (value y *ℤ pos (den x) *ℤ P) (u *ℤ pos (den x * den y)) ≡ dist (value y *ℤ P) (u *ℤ pos (den y)) * den x
  right_off =
      ap₂ (λ (k l : ℤ). dist k l) (times_swap (value y) (pos (den x)) P)
      (ap (λ (n : ℕ). u *ℤ pos n) (mul_comm (den x) (den y)) ∙ sym (times_assoc u (pos (den y)) (pos (den x))))
      ∙ dist_times (value y *ℤ P) (u *ℤ pos (den y)) (pos (den x))

  both_off : dist (value x *ℤ pos (den y) *ℤ P) (w *ℤ pos (den x * den y)) + dist (value y *ℤ pos (den x) *ℤ P) (u *ℤ pos (den x * den y)) ≤ (E + F) * (den x * den y)
  both_off =
      le_trans (add-le-add (le_of_eq left_off) (le_of_eq right_off))
      (shares (dist (value x *ℤ P) (w *ℤ pos (den x))) (dist (value y *ℤ P) (u *ℤ pos (den y))) E F (den x) (den y) o.1 q.1)

  pub add_off : dist ((value x *ℤ pos (den y) +ℤ value y *ℤ pos (den x)) *ℤ P) ((w +ℤ u) *ℤ pos (den x * den y)) ≤ (E + F) * (den x * den y)
  add_off =
      le_trans
      (le_of_eq (ap₂ (λ (k l : ℤ). dist k l) (scale_add (value x *ℤ pos (den y)) (value y *ℤ pos (den x)) P) (scale_add w u (pos (den x * den y)))))
      (le_trans (dist_add (value x *ℤ pos (den y) *ℤ P) (w *ℤ pos (den x * den y)) (value y *ℤ pos (den x) *ℤ P) (u *ℤ pos (den x * den y))) both_off)

  pub sub_off : dist ((value x *ℤ pos (den y) -ℤ value y *ℤ pos (den x)) *ℤ P) ((w -ℤ u) *ℤ pos (den x * den y)) ≤ (E + F) * (den x * den y)
  sub_off =
      let a = value x *ℤ pos (den y) in
      let b = value y *ℤ pos (den x) in
      let n = pos (den x * den y) in
      le_trans
      (le_of_eq (ap₂ (λ (k l : ℤ). dist k l) (scale_add a (neg_ℤ b) P ∙ ap (λ (k : ℤ). a *ℤ P +ℤ k) (neg_times b P)) (scale_add w (neg_ℤ u) n ∙ ap (λ (k : ℤ). w *ℤ n +ℤ k) (neg_times u n))))
      (le_trans (dist_add (a *ℤ P) (w *ℤ n) (neg_ℤ (b *ℤ P)) (neg_ℤ (u *ℤ n)))
      (le_trans (add-le-add (le_of_eq refl) (le_of_eq (dist_neg (b *ℤ P) (u *ℤ n)))) both_off))

-- y is at most B in size, and w at most M
pub mul_off : (p : ℕ) (x y : Float) (w u : ℤ) (E F B M : ℕ) → Off p x w E → Off p y u F → num y ≤ B * den y → nat_abs w ≤ M
    → dist (value x *ℤ value y *ℤ pos (2 ^ (p + p))) (w *ℤ u *ℤ pos (den x * den y)) ≤ (E * (B * 2 ^ p) + M * F) * (den x * den y)
mul_off p x y w u E F B M o q b m =
    let P = 2 ^ p in
    let X = value x *ℤ pos P in
    let Y = value y *ℤ pos P in
    let x' = w *ℤ pos (den x) in
    let y' = u *ℤ pos (den y) in
    le_trans
    (le_of_eq
    (ap₂ (λ (k l : ℤ). dist k l) (ap (λ (n : ℕ). value x *ℤ value y *ℤ pos n) (pow-add 2 p p) ∙ interchange (value x) (value y) (pos P) (pos P)) (interchange w u (pos (den x)) (pos (den y)))))
    (le_trans (dist_product X x' Y y')
    (le_trans
    (add-le-add
    (mul-le-mul o.1 (le_trans (le_of_eq (size_mul (value y) (pos P) ∙ ap (λ (n : ℕ). n * P) (size_value y))) (mul-le-mul_right P b)))
    (mul-le-mul (le_trans (le_of_eq (size_mul w (pos (den x)))) (mul-le-mul_right (den x) m)) q.1))
    (le_of_eq (gather E (den x) B (den y) P M F))))
  where
    gather : (E c B d P M F : ℕ) → E * c * (B * d * P) + M * c * (F * d) ≡ (E * (B * P) + M * F) * (c * d)
    gather E c B d P M F = ap₂ (λ (m n : ℕ). m + n) (l E c B d P) (r M c F d) ∙ sym (add-mul (E * (B * P)) (M * F) (c * d))
      where
        l : (E c B d P : ℕ) → E * c * (B * d * P) ≡ E * (B * P) * (c * d)
        l E c B d P = simp (mul_assoc, mul_comm, mul_left_comm)

        r : (M c F d : ℕ) → M * c * (F * d) ≡ M * F * (c * d)
        r M c F d = simp (mul_assoc, mul_comm, mul_left_comm)

-- The root's error, once over the format: of every value of the format above zero, the root is the exact root within one part in 2 ^ prec, said of its square (`root-near`).
-- No size is asked for, since a root is never near the ends of the format. And the root of a zero is a zero. Assumes nothing.
use mathlib.Core.Path.{◌≡◌, refl, sym, ap, ◌∙◌, subst}
use mathlib.Core.Bool.{Bool, true, false, cond, ◌&&◌}
use Prim.Native.Nat.{ℕ, zero, suc, ◌+◌, ◌-◌, ◌*◌, ◌/◌, ◌%◌, ◌^◌, ◌≤◌, ◌<◌, zero-le}
use native.Mathlib.Nat.{le_trans, le_of_eq, le_of_lt, lt_of_lt_of_le, lt_of_le_of_lt, lt_of_not-le, not-le_of_lt, zero-lt-suc, lt_irrefl, le_of_suc-le-suc, mul_comm, mul_assoc, mul_left_comm}
use native.Mathlib.Nat.{mul_right_comm, mul-mul-mul_comm, mul-add, add-mul, one-mul, zero-mul, mul-pos, mul-one, mul-le-mul, mul-le-mul_left, mul-le-mul_right, mul-lt-mul_of_pos_right}
use native.Mathlib.Nat.{le_of_mul-le-mul_right, pow-suc}
use native.Mathlib.Omega.{arith}
use lib.Dec.{T, leb, ltb, eqb, leb→le, ltb→lt, eqb→eq, lit≤}
use lib.Pow.{pow-add, pow_pos, pow_mono, pow-lt}
use lib.IntN.{ℤ, pos, negsuc}
use lib.Ieee.{Float, nan, inf, fin, Format, binary32, binary64, prec, emax, low, up, down, size, fits}
use lib.Ieee.Fits.{two, two-le_pos, and_l, and_r}
use lib.Ieee.Exact.{HasValue}
use lib.Ieee.Order.{drop, kept}
use lib.Ieee.Scale.{grid, overflow, normal_of_fraction}
use lib.Ieee.Positive.{num, den, first_pos}
use Rattle.number.specs.Number.{root, whole_root}
use Rattle.number.proofs.WholeRoot.{IsRoot, whole_root_is, root_le}
use Rattle.number.proofs.RootBits.{sticky, Num, root_value}
use Rattle.laws.specs.Whole.{gap}
use Rattle.laws.proofs.Near.{gap_mul, half, unit_le}
use Rattle.laws.proofs.Ratio.{Ratio, respell}
use Rattle.laws.proofs.Close.{own, cross, round_is_grid}
use Rattle.laws.proofs.Size.{Signed}
use Rattle.laws.proofs.Zero.{Null}

-- ---- In whole numbers. r is the whole part of the root of n, and z, at most h from the root with its half, rounds it; h is one part in P at most.
pub square : (a b : ℕ) → a * b * (a * b) ≡ a * a * (b * b)
square a b = mul-mul-mul_comm a b a b

squares_le : {a b : ℕ} → a ≤ b → a * a ≤ b * b
squares_le l = mul-le-mul l l

module _ (n r z h P : ℕ) (is : IsRoot n r) (near : gap (2 * z) (2 * r + sticky n r) ≤ 2 * h) (fine : P * h ≤ r) where
  -- z and n lie on the same side of the middle between two roundings, since that is a whole number
  pub from_above : z ≤ r + h
  from_above = go (eqb (r * r) n) near
    where
      go : (b : Bool) → gap (2 * z) (2 * r + cond b 0 1) ≤ 2 * h → z ≤ r + h
      go true l = omega arith
      go false l = omega arith

  from_below : r ≤ z + h
  from_below = go (eqb (r * r) n) near
    where
      go : (b : Bool) → gap (2 * z) (2 * r + cond b 0 1) ≤ 2 * h → r ≤ z + h
      go true l = omega arith
      go false l = omega arith

  pub covered : n ≤ (z + h) * (z + h)
  covered = go (eqb (r * r) n) (eqb→eq (r * r) n) near
    where
      go : (b : Bool) → (T b → r * r ≡ n) → gap (2 * z) (2 * r + cond b 0 1) ≤ 2 * h → n ≤ (z + h) * (z + h)
      go true e l = le_trans (le_of_eq (sym (e tt))) (squares_le from_below)
      go false e l = le_trans (le_of_lt is.1) (squares_le (let k : suc r ≤ z + h = omega arith in k))

  times_high : P * z ≤ (P + 1) * r
  times_high =
      let a : P * z ≤ P * (r + h) = mul-le-mul_left P from_above in
      let b : P * (r + h) ≡ P * r + P * h = mul-add P r h in
      let c : (P + 1) * r ≡ P * r + r = add-mul P 1 r ∙ ap (λ (x : ℕ). P * r + x) (one-mul r) in
      omega arith

  times_low : (P - 1) * (z + h) ≤ P * z
  times_low = go P fine
    where
      go : (P : ℕ) → P * h ≤ r → (P - 1) * (z + h) ≤ P * z
      go zero f = le_trans (le_of_eq (zero-mul (z + h))) zero-le
      go (suc p) f =
          let a : (suc p - 1) * (z + h) ≡ p * z + p * h = ap (λ (x : ℕ). x * (z + h)) (less p) ∙ mul-add p z h in
          let b : suc p * z ≡ p * z + z = ap (λ (x : ℕ). x * z) (same p) ∙ add-mul p 1 z ∙ ap (λ (x : ℕ). p * z + x) (one-mul z) in
          let c : suc p * h ≡ p * h + h = ap (λ (x : ℕ). x * h) (same p) ∙ add-mul p 1 h ∙ ap (λ (x : ℕ). p * h + x) (one-mul h) in
          let d = from_below in
          omega arith
        where
          same : (x : ℕ) → suc x ≡ x + 1
          same x = omega arith

          less : (x : ℕ) → suc x - 1 ≡ x
          less x = omega arith

  square_high : z * z * (P * P) ≤ n * ((P + 1) * (P + 1))
  square_high =
      le_trans (le_of_eq (mul_comm (z * z) (P * P) ∙ sym (square P z)))
      (le_trans (squares_le times_high) (le_trans (le_of_eq (square (P + 1) r)) (le_trans (mul-le-mul_left ((P + 1) * (P + 1)) is.0) (le_of_eq (mul_comm ((P + 1) * (P + 1)) n)))))

  square_low : n * ((P - 1) * (P - 1)) ≤ z * z * (P * P)
  square_low =
      le_trans (mul-le-mul_right ((P - 1) * (P - 1)) covered)
      (le_trans (le_of_eq (mul_comm ((z + h) * (z + h)) ((P - 1) * (P - 1)) ∙ sym (square (P - 1) (z + h))))
      (le_trans (squares_le times_low) (le_of_eq (square P z ∙ mul_comm (P * P) (z * z)))))

-- ---- In the format: x is a of its smallest values, and so n quarters of 2 ^ -low of them
digits : (f : Format) → prec f + prec f ≤ suc (suc (low f))
digits binary32 = lit≤ tt
digits binary64 = lit≤ tt

reach : (f : Format) → low f + suc (emax f) + suc (suc (low f)) ≤ low f + suc (emax f) + (low f + suc (emax f))
reach binary32 = lit≤ tt
reach binary64 = lit≤ tt

lt_of_squares : (a b : ℕ) → a * a < b * b → a < b
lt_of_squares a b h = lt_of_not-le (λ (g : b ≤ a). not-le_of_lt h (mul-le-mul g g))

module _ (f : Format) (a : ℕ) (A : 0 < a) where
  abbrev pub n : ℕ
  n = a * 2 ^ suc (suc (low f))

  abbrev pub r : ℕ
  r = whole_root n

  -- the root in units of the smallest value, and half of what its last digit is worth there
  abbrev pub g : ℕ
  g = grid f (Num n) (2 ^ suc (suc (low f)))

  abbrev pub h : ℕ
  h = 2 ^ drop (prec f) (Num n * 2 ^ low f) (2 ^ suc (suc (low f)))

  abbrev pub P : ℕ
  P = 2 ^ prec f

  pub four : 2 ^ suc (suc (low f)) ≡ 4 * 2 ^ low f
  four = pow-suc 2 (suc (low f)) ∙ ap (λ (x : ℕ). x * 2) (pow-suc 2 (low f)) ∙ mul_comm (2 ^ low f * 2) 2 ∙ quarter (2 ^ low f)
    where
      quarter : (x : ℕ) → 2 * (x * 2) ≡ 4 * x
      quarter x = omega arith

  -- the whole root has more digits than the format keeps
  large : P ≤ r
  large =
      root_le n P r
      (le_trans (le_of_eq (sym (pow-add 2 (prec f) (prec f))))
      (le_trans (pow_mono (digits f)) (le_trans (le_of_eq (sym (one-mul (2 ^ suc (suc (low f)))))) (mul-le-mul_right (2 ^ suc (suc (low f))) A))))
      (whole_root_is n).1

  twice : P ≡ 2 * 2 ^ (prec f - 1)
  twice = ap (λ (x : ℕ). 2 ^ x) (back (prec f) (two f)) ∙ pow-suc 2 (prec f - 1) ∙ mul_comm (2 ^ (prec f - 1)) 2
    where
      back : (p : ℕ) → 2 ≤ p → p ≡ suc (p - 1)
      back p l = omega arith

  pub normal : prec f ≤ size (Num n * 2 ^ low f / 2 ^ suc (suc (low f)))
  normal =
      normal_of_fraction f (Num n) (2 ^ suc (suc (low f))) (pow_pos (suc (suc (low f))))
      (le_trans (le_of_eq (ap (λ (x : ℕ). 2 ^ (prec f - 1) * x) four ∙ sym (mul_assoc (2 ^ (prec f - 1)) 4 (2 ^ low f))))
      (mul-le-mul_right (2 ^ low f) (enough (2 ^ (prec f - 1)) P r (sticky n r) twice large)))
    where
      enough : (q P r s : ℕ) → P ≡ 2 * q → P ≤ r → q * 4 ≤ 2 * r + s
      enough q P r s e l = omega arith

  -- 2 g is the root in the units that the whole root counts
  pub near : gap (2 * (2 * g)) (Num n) ≤ 2 * h
  near =
      let L = 2 ^ low f in
      let c = 2 ^ suc (suc (low f)) in
      let k = kept (prec f) (Num n * L) c in
      let e : k * (c * h) ≡ 4 * g * L = ap (λ (x : ℕ). k * (x * h)) four ∙ regroup k h L in
      let b : gap (4 * g * L) (Num n * L) * 2 ≤ c * h = subst (λ (x : ℕ). gap x (Num n * L) * 2 ≤ c * h) e
      (half (Num n * L) (c * h) (mul-pos (pow_pos (suc (suc (low f)))) (pow_pos (drop (prec f) (Num n * L) c)))) in
      let d : gap (4 * g) (Num n) * 2 ≤ 4 * h =
      le_of_mul-le-mul_right
      (le_trans (le_of_eq (mul_right_comm (gap (4 * g) (Num n)) 2 L ∙ ap (λ (x : ℕ). x * 2) (gap_mul (4 * g) (Num n) L))) (le_trans b (le_of_eq (ap (λ (x : ℕ). x * h) four ∙ mul_right_comm 4 L h))))
      (pow_pos (low f)) in
      halved g (Num n) h d
    where
      regroup : (k h L : ℕ) → k * (4 * L * h) ≡ 4 * (k * h) * L
      regroup k h L = simp (mul_assoc, mul_comm, mul_left_comm)

      halved : (g R h : ℕ) → gap (4 * g) R * 2 ≤ 4 * h → gap (2 * (2 * g)) R ≤ 2 * h
      halved g R h l = omega arith

  pub fine : P * h ≤ r
  fine =
      let L = 2 ^ low f in
      let c = 2 ^ suc (suc (low f)) in
      let q = 2 ^ (prec f - 1) in
      let u : c * h * q ≤ Num n * L = unit_le (prec f) (Num n * L) c (two-le_pos (prec f) (two f)) (pow_pos (suc (suc (low f)))) normal in
      let e : c * h * q ≡ 2 * (P * h) * L = ap (λ (x : ℕ). x * h * q) four ∙ regroup L h q ∙ ap (λ (x : ℕ). 2 * (x * h) * L) (sym twice) in
      whole (P * h) r (sticky n r) (le_of_mul-le-mul_right (le_trans (le_of_eq (sym e)) u) (pow_pos (low f))) (sticky_le (eqb (r * r) n))
    where
      regroup : (L h q : ℕ) → 4 * L * h * q ≡ 2 * (2 * q * h) * L
      regroup L h q =
          let a : 4 * L * h * q ≡ 4 * (q * h * L) = simp (mul_assoc, mul_comm, mul_left_comm) in
          let b : 2 * (2 * q * h) * L ≡ 2 * (2 * (q * h * L)) = simp (mul_assoc) in
          omega arith

      sticky_le : (b : Bool) → cond b 0 1 ≤ 1
      sticky_le true = lit≤ tt
      sticky_le false = lit≤ tt

      whole : (x r s : ℕ) → 2 * x ≤ 2 * r + s → s ≤ 1 → x ≤ r
      whole x r s l t = omega arith

  in_units : Ratio (g * g) (2 ^ low f * 2 ^ low f) a (2 ^ low f) ((P - 1) * (P - 1)) ((P + 1) * (P + 1)) (P * P)
  in_units =
      record {
        low = scaled ((P - 1) * (P - 1)) (P * P) (square_low n r (2 * g) h P (whole_root_is n) near fine);
        high = scaled_back ((P + 1) * (P + 1)) (P * P) (square_high n r (2 * g) h P (whole_root_is n) near fine);
      }
    where
      L : ℕ
      L = 2 ^ low f

      left : (k : ℕ) → n * k * L ≡ a * (L * L) * k * 4
      left k = ap (λ (x : ℕ). a * x * k * L) four ∙ regroup a L k
        where
          regroup : (a l k : ℕ) → a * (4 * l) * k * l ≡ a * (l * l) * k * 4
          regroup a l k = simp (mul_assoc, mul_comm, mul_left_comm)

      right : (k : ℕ) → 2 * g * (2 * g) * k * L ≡ g * g * L * k * 4
      right k = ap (λ (x : ℕ). x * k * L) (square 2 g) ∙ regroup (g * g) k L
        where
          regroup : (q k l : ℕ) → 4 * q * k * l ≡ q * l * k * 4
          regroup q k l = simp (mul_assoc, mul_comm, mul_left_comm)

      scaled : (k l : ℕ) → n * k ≤ 2 * g * (2 * g) * l → a * (L * L) * k ≤ g * g * L * l
      scaled k l u = le_of_mul-le-mul_right (le_trans (le_of_eq (sym (left k))) (le_trans (mul-le-mul_right L u) (le_of_eq (right l)))) (zero-lt-suc 3)

      scaled_back : (k l : ℕ) → 2 * g * (2 * g) * l ≤ n * k → g * g * L * l ≤ a * (L * L) * k
      scaled_back k l u = le_of_mul-le-mul_right (le_trans (le_of_eq (sym (right l))) (le_trans (mul-le-mul_right L u) (le_of_eq (left k)))) (zero-lt-suc 3)

  -- no overflow
  below : a < overflow f → g < overflow f
  below o = lt_of_le_of_lt (le_of_mul-le-mul_right at_most (mul-pos (zero-lt-suc 1) (pow_pos (prec f)))) (lt_of_squares r (overflow f) (lt_of_le_of_lt (whole_root_is n).0 top))
    where
      at_most : g * (2 * P) ≤ r * (2 * P)
      at_most =
          let x : (P + 1) * r ≤ 2 * P * r = mul-le-mul_right r (more P (pow_pos (prec f))) in
          le_trans (le_of_eq (regroup g P)) (le_trans (times_high n r (2 * g) h P (whole_root_is n) near fine) (le_trans x (le_of_eq (mul_comm (2 * P) r))))
        where
          regroup : (g P : ℕ) → g * (2 * P) ≡ P * (2 * g)
          regroup g P = simp (mul_comm, mul_left_comm)

          more : (P : ℕ) → 0 < P → P + 1 ≤ 2 * P
          more P l = omega arith

      top : n < overflow f * overflow f
      top =
          lt_of_lt_of_le (mul-lt-mul_of_pos_right o (pow_pos (suc (suc (low f)))))
          (le_trans (le_of_eq (sym (pow-add 2 (low f + suc (emax f)) (suc (suc (low f)))))) (le_trans (pow_mono (reach f)) (le_of_eq (pow-add 2 (low f + suc (emax f)) (low f + suc (emax f))))))

  pub root_units : (x : Float) → HasValue x false a (2 ^ low f) → a < overflow f → HasValue (root f x) false g (2 ^ low f)
  root_units x v o =
      subst (λ (y : Float). HasValue y false g (2 ^ low f)) (sym (root_value f x a A v)) (round_is_grid f false (Num n) (2 ^ suc (suc (low f))) (below o))

-- ---- the value itself: a finite value of the format is so many of its smallest ones
pub record Units (f : Format) (x : Float) (s : Bool) : Type 0 where
  pub count : ℕ
  pub is : HasValue x s count (2 ^ low f)
  pub bound : count < overflow f

pub exponent : (i j : ℕ) → 2 ^ i ≤ 2 ^ j → i ≤ j
exponent i j l = le_of_suc-le-suc (lt_of_not-le (λ (g : suc j ≤ i). not-le_of_lt (pow-lt g) l))

-- the fraction's denominator divides 2 ^ low
rest : (f : Format) (e : ℤ) → down e ≤ 2 ^ low f → (t : ℕ) × (t * down e ≡ 2 ^ low f)
rest f (pos k) l = (2 ^ low f, mul-one (2 ^ low f))
rest f (negsuc k) l = let h = exponent (suc k) (low f) l in (2 ^ (low f - suc k), sym (pow-add 2 (low f - suc k) (suc k)) ∙ ap (λ (x : ℕ). 2 ^ x) (back (low f) (suc k) h))
  where
    back : (a b : ℕ) → b ≤ a → a - b + b ≡ a
    back a b h = omega arith

pub units_of : (f : Format) (x : Float) (s : Bool) → T (fits f x) → Signed x s → 0 < num x → Units f x s
unfolding fits
units_of f nan s t h p = absurd h
units_of f (inf u) s t h p = absurd h
units_of f (fin u zero e) s t h p = absurd (lt_irrefl 0 (subst (λ (k : ℕ). 0 < k) (zero-mul (up e)) p))
units_of f (fin u (suc m) e) s t h p =
    let a : Bool = eqb (suc m % 2) 1 in
    let b : Bool = ltb (suc m) (2 ^ prec f) in
    let c : Bool = leb (down e) (2 ^ low f) in
    let d : Bool = ltb (suc m * up e) (2 ^ suc (emax f) * down e) in
    let r = rest f e (leb→le (down e) (2 ^ low f) (and_r (a && b) c (and_l (a && b && c) d t))) in
    let top : suc m * up e < 2 ^ suc (emax f) * down e = ltb→lt (suc m * up e) (2 ^ suc (emax f) * down e) (and_r (a && b && c) d t) in
    record {
      count = suc m * up e * r.0;
      is = (h.0, ap (λ (k : ℕ). suc m * up e * k) (sym r.1) ∙ sym (mul_assoc (suc m * up e) r.0 (down e)));
      bound =
          lt_of_lt_of_le (mul-lt-mul_of_pos_right top (first_pos r.0 (down e) (subst (λ (k : ℕ). 0 < k) (sym r.1) (pow_pos (low f)))))
          (le_of_eq (mul_assoc (2 ^ suc (emax f)) (down e) r.0 ∙ ap (λ (k : ℕ). 2 ^ suc (emax f) * k) (mul_comm (down e) r.0 ∙ r.1) ∙ mul_comm (2 ^ suc (emax f)) (2 ^ low f)
          ∙ sym (pow-add 2 (low f) (suc (emax f)))));
    }

-- of a fraction that is near a / c, any other way to write it
respelled : (n d n' d' a c l h k : ℕ) → 0 < d → n * d' ≡ n' * d → Ratio n d a c l h k → Ratio n' d' a c l h k
respelled n d n' d' a c l h k D e p =
    record {
      low = le_of_mul-le-mul_right (le_trans (le_of_eq (e₁ l)) (le_trans (mul-le-mul_right d' p.low) (le_of_eq e₂))) D;
      high = le_of_mul-le-mul_right (le_trans (le_of_eq (sym e₂)) (le_trans (mul-le-mul_right d' p.high) (le_of_eq (sym (e₁ h))))) D;
    }
  where
    e₁ : (l : ℕ) → a * d' * l * d ≡ a * d * l * d'
    e₁ l = simp (mul_assoc, mul_comm, mul_left_comm)

    e₂ : n * c * k * d' ≡ n' * c * k * d
    e₂ =
        let x : n * c * k * d' ≡ n * d' * (c * k) = simp (mul_assoc, mul_comm, mul_left_comm) in
        let y : n' * d * (c * k) ≡ n' * c * k * d = simp (mul_assoc, mul_comm, mul_left_comm) in
        x ∙ ap (λ (z : ℕ). z * (c * k)) e ∙ y

-- y² lies between (1 - 2 ^ -prec)² and (1 + 2 ^ -prec)² of x
abbrev pub RootNear : Format → Float → Float → Type 0
RootNear f x y =
    Signed y false
    × Ratio (num y * num y) (den y * den y) (num x) (den x) ((2 ^ prec f - 1) * (2 ^ prec f - 1)) ((2 ^ prec f + 1) * (2 ^ prec f + 1)) (2 ^ prec f * 2 ^ prec f)

pub root_near : (f : Format) (x : Float) → T (fits f x) → Signed x false → 0 < num x → RootNear f x (root f x)
root_near f x t s p =
    let u = units_of f x false t s p in
    let a = u.count in
    let L = 2 ^ low f in
    let A : 0 < a = first_pos a (den x) (subst (λ (k : ℕ). 0 < k) (cross x false a L u.is) (mul-pos p (pow_pos (low f)))) in
    let y = root f x in
    let b = g f a A in
    let v : HasValue y false b L = root_units f a A x u.is u.bound in
    let e : num y * L ≡ b * den y = cross y false b L v in (
      own y false b L v,
      respelled (b * b) (L * L) (num y * num y) (den y * den y) (num x) (den x) _ _ _ (mul-pos (pow_pos (low f)) (pow_pos (low f)))
          (mul-mul-mul_comm b b (den y) (den y) ∙ ap (λ (k : ℕ). k * k) (sym e) ∙ mul-mul-mul_comm (num y) L (num y) L)
          (respell (b * b) (L * L) a L (num x) (den x) _ _ _ (pow_pos (low f)) (sym (cross x false a L u.is)) (in_units f a A)),
    )

-- ---- the root of a zero
pub null_root : (f : Format) (x : Float) → Null x → Null (root f x)
unfolding root
null_root f nan h = absurd h
null_root f (inf s) h = absurd h
null_root f (fin s zero e) h = refl
null_root f (fin s (suc m) e) h = absurd (no m h)
  where
    no : (k : ℕ) → suc k ≡ 0 → ⊥
    no k e = omega arith

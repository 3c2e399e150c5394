-- `round` gives the value nearest to the fraction that it rounds, of ties the even one, and an infinity from the limit on; so `narrow` does (`narrow-nearest`). Assumes nothing.
use mathlib.Core.Path.{◌≡◌, refl, sym, ap, ap₂, ◌∙◌, subst}
use mathlib.Core.Logic.{◌⊎◌, inl, inr}
use mathlib.Core.Bool.{Bool, false}
use Prim.Native.Nat.{ℕ, suc, ◌+◌, ◌-◌, ◌*◌, ◌/◌, ◌%◌, ◌^◌, ◌≤◌, ◌<◌, compare, Ordering}
use native.Mathlib.Nat.{pow-suc, le_trans, le_of_eq, le_of_lt, lt_of_lt_of_le, lt_of_not-le, mul_comm, mul_assoc, mul_left_comm, mul_right_comm, mul-le-mul_left, mul-le-mul_right}
use native.Mathlib.Nat.{mul-lt-mul_of_pos_right, le_of_mul-le-mul_right, eq_of_mul-eq-mul_right, eq-zero-or-pos, mul-pos, mul-one, add-mul, suc-mul, div-add-mod', div-div-eq-div-mul, mod-lt}
use native.Mathlib.Nat.{le-div_iff_mul-le}
use native.Mathlib.Decide.{dec_le}
use native.Mathlib.Omega.{arith}
use borrow.Author.Tests.{le-ltb}
use lib.Dec.{T, lit≤}
use lib.Pow.{pow-add, pow_pos, pow_mono}
use lib.Ieee.{Float, nan, inf, fin, Format, binary32, binary64, prec, emax, low, size, nearest, units, round, le}
use lib.Ieee.Exact.{HasValue}
use lib.Ieee.Fits.{two, two-le_pos, nearest-le, kept-lt, round_is, round-fits}
use lib.Ieee.Nearest.{nearest-ge}
use lib.Ieee.Order.{drop, kept, round_mono}
use lib.Ieee.Positive.{num, den, den_pos}
use lib.Ieee.Scale.{grid, overflow, round_val, normal_of_fraction}
use Rattle.laws.specs.Whole.{gap}
use Rattle.laws.proofs.Near.{Cmp, cmp, half, unit_le, relative}
use Rattle.laws.proofs.Close.{Close, own, cross, close_of, in_units as least-in-units, round_is_grid}
use Rattle.number.specs.Number.{narrow}
use Rattle.number.specs.Nearest.{WithSign, limit_of, Even, NearestValue, NarrowIsNearest}
use Rattle.number.proofs.Narrowing.{narrow_is}
use Rattle.number.proofs.Spaced.{spaced, multiple, step_up, digits_of_lem, first_in_units, second_in_units, in_order, reversed}

-- ---- n / c in units of the smallest value, rounded to p digits: G of them. Another value is b = m * 2 ^ j of them
module _ (p n c : ℕ) (one : 1 ≤ p) (C : 0 < c) where
  abbrev k : ℕ
  k = drop p n c

  abbrev q : ℕ
  q = kept p n c

  abbrev G : ℕ
  G = q * 2 ^ k

  abbrev unit : ℕ
  unit = c * 2 ^ k

  in_units : q * unit ≡ G * c
  in_units = ap (λ (x : ℕ). q * x) (mul_comm c (2 ^ k)) ∙ sym (mul_assoc q (2 ^ k) c)

  within : gap (G * c) n * 2 ≤ unit
  within = subst (λ (x : ℕ). gap x n * 2 ≤ unit) in_units (half n unit (mul-pos C (pow_pos k)))

  -- where digits are dropped, p are kept
  full : 0 < k → p ≤ size (n / c)
  full h = go p (size (n / c)) h
    where
      go : (p z : ℕ) → 0 < z - p → p ≤ z
      go p z h = omega arith

  reached : 0 < k → unit * 2 ^ (p - 1) ≤ n
  reached h = unit_le p n c one C (full h)

  lead : 0 < k → 2 ^ (p - 1) ≤ q
  lead h =
      le_trans ((le-div_iff_mul-le (mul-pos C (pow_pos k))).1 (le_trans (le_of_eq (mul_comm (2 ^ (p - 1)) unit)) (reached h)))
      (nearest-ge (n / unit) (compare (n % unit * 2) unit))

  one_more_lem : (a b t : ℕ) → t ≡ 1 → a < b → a + t ≤ b
  one_more_lem a b t e h = omega arith

  none : k ≡ 0 → 2 ^ k ≡ 1
  none e = ap (λ (x : ℕ). 2 ^ x) e

  module _ (m j : ℕ) (small : m < 2 ^ p) where
    abbrev b : ℕ
    b = m * 2 ^ j

    -- one that is larger is a step larger
    larger : G < b → G + 2 ^ k ≤ b
    larger l = elim (eq-zero-or-pos k) [ inl e ↦ one_more_lem G b (2 ^ k) (none e) l | inr h ↦ far h ]
      where
        far : 0 < k → G + 2 ^ k ≤ b
        far h =
            let e = multiple m j k (spaced p m j k one small (le_trans (mul-le-mul_right (2 ^ k) (lead h)) (le_of_lt l))) in
            le_trans (step_up q (m * 2 ^ (j - k)) (2 ^ k) (subst (λ (x : ℕ). G < x) e l)) (le_of_eq (sym e))

    -- one that is smaller is a step smaller, or else G is a power of two and n / c no less than that
    smaller : b < G → (b + 2 ^ k ≤ G) ⊎ (G * c ≤ n)
    smaller l = elim (eq-zero-or-pos k) [ inl e ↦ inl (one_more_lem b G (2 ^ k) (none e) l) | inr h ↦ far h ]
      where
        low_end : 0 < k → q ≤ 2 ^ (p - 1) → G * c ≤ n
        low_end h e =
            let same : 2 ^ (p - 1) * 2 ^ k * c ≡ unit * 2 ^ (p - 1) = simp (mul_assoc, mul_comm, mul_left_comm) in
            le_trans (mul-le-mul_right c (mul-le-mul_right (2 ^ k) e)) (le_trans (le_of_eq same) (reached h))

        step : 2 ^ (p - 1) < q → b + 2 ^ k ≤ G
        step e = elim (dec_le (2 ^ (p - 1) * 2 ^ k) b) [ yes i ↦ near_by i | no i ↦ below_all (lt_of_not-le i) ]
          where
            near_by : 2 ^ (p - 1) * 2 ^ k ≤ b → b + 2 ^ k ≤ G
            near_by i =
                let e = multiple m j k (spaced p m j k one small i) in
                le_trans (le_of_eq (ap (λ (x : ℕ). x + 2 ^ k) e)) (step_up (m * 2 ^ (j - k)) q (2 ^ k) (subst (λ (x : ℕ). x < G) e l))

            below_all : b < 2 ^ (p - 1) * 2 ^ k → b + 2 ^ k ≤ G
            below_all i = le_trans (plus b (2 ^ (p - 1) * 2 ^ k) (2 ^ k) (le_of_lt i)) (step_up (2 ^ (p - 1)) q (2 ^ k) (mul-lt-mul_of_pos_right e (pow_pos k)))
              where
                plus : (x y u : ℕ) → x ≤ y → x + u ≤ y + u
                plus x y u z = omega arith

        far : 0 < k → (b + 2 ^ k ≤ G) ⊎ (G * c ≤ n)
        far h = elim (dec_le q (2 ^ (p - 1))) [ yes e ↦ inr (low_end h e) | no e ↦ inl (step (lt_of_not-le e)) ]

    -- a step, in the units of n
    stepped : (x y : ℕ) → x + 2 ^ k ≤ y → x * c + unit ≤ y * c
    stepped x y h = le_trans (le_of_eq (ap (λ (z : ℕ). x * c + z) (mul_comm c (2 ^ k)) ∙ sym (add-mul x (2 ^ k) c))) (mul-le-mul_right c h)

    at_most : G < b → 2 * n ≤ (G + b) * c
    at_most l = le_trans (go (G * c) n unit (b * c) within (stepped G b (larger l))) (le_of_eq (sym (add-mul G b c)))
      where
        go : (g n u bc : ℕ) → gap g n * 2 ≤ u → g + u ≤ bc → 2 * n ≤ g + bc
        go g n u bc h i = omega arith

    at_least : b < G → (G + b) * c ≤ 2 * n
    at_least l =
        le_trans (le_of_eq (add-mul G b c))
        (elim (smaller l) [ inl h ↦ by_step (G * c) n unit (b * c) within (stepped b G h) | inr h ↦ at_end (G * c) n (b * c) h (mul-lt-mul_of_pos_right l C) ])
      where
        by_step : (g n u bc : ℕ) → gap g n * 2 ≤ u → bc + u ≤ g → g + bc ≤ 2 * n
        by_step g n u bc h i = omega arith

        at_end : (g n bc : ℕ) → g ≤ n → bc < g → g + bc ≤ 2 * n
        at_end g n bc h i = omega arith

    -- in the middle of both: half a unit off
    midway : (G ≡ b → ⊥) → 2 * n ≡ (G + b) * c → gap (G * c) n * 2 ≡ unit
    midway d e = elim (dec_le G b) [ yes h ↦ over (larger (apart G b d h)) | no h ↦ under (lt_of_not-le h) ]
      where
        apart : (a b : ℕ) → (a ≡ b → ⊥) → a ≤ b → a < b
        apart a b d h = omega (arith, d)

        s : 2 * n ≡ G * c + b * c
        s = e ∙ add-mul G b c

        go : (g n u bc : ℕ) → gap g n * 2 ≤ u → g + u ≤ bc → 2 * n ≡ g + bc → gap g n * 2 ≡ u
        go g n u bc h i s = omega arith

        back : (g n u bc : ℕ) → gap g n * 2 ≤ u → bc + u ≤ g → 2 * n ≡ g + bc → gap g n * 2 ≡ u
        back g n u bc h i s = omega arith

        never : (g n bc : ℕ) → g ≤ n → bc < g → 2 * n ≡ g + bc → ⊥
        never g n bc h i s = omega arith

        over : G + 2 ^ k ≤ b → gap (G * c) n * 2 ≡ unit
        over h = go (G * c) n unit (b * c) within (stepped G b h) s

        under : b < G → gap (G * c) n * 2 ≡ unit
        under l =
            elim (smaller l) [
              | inl h ↦ back (G * c) n unit (b * c) within (stepped b G h) s
              | inr h ↦ absurd (never (G * c) n (b * c) h (mul-lt-mul_of_pos_right l C) s)
            ]

  -- half a unit off, and the digits are even
  tied : (w u r n : ℕ) (o : Ordering) → w * u + r ≡ n → r < u → Cmp o (r * 2) u → gap (nearest w o * u) n * 2 ≡ u → nearest w o % 2 ≡ 0
  tied w u r n Ordering.lt e l h g = absurd (go (w * u) r n u e h g)
    where
      go : (wu r n u : ℕ) → wu + r ≡ n → r * 2 < u → gap wu n * 2 ≡ u → ⊥
      go wu r n u e h g = omega arith
  tied w u r n Ordering.eq e l h g = go w
    where
      go : (w : ℕ) → (w + w % 2) % 2 ≡ 0
      go w = omega arith
  tied w u r n Ordering.gt e l h g = absurd (go (w * u) (suc w * u) r n u (suc-mul w u) e l h g)
    where
      go : (wu su r n u : ℕ) → su ≡ wu + u → wu + r ≡ n → r < u → u < r * 2 → gap su n * 2 ≡ u → ⊥
      go wu su r n u s e l h g = omega arith

  even_digits : gap (G * c) n * 2 ≡ unit → q % 2 ≡ 0
  even_digits h =
      tied (n / unit) unit (n % unit) n (compare (n % unit * 2) unit) (div-add-mod' n unit) (mod-lt n (mul-pos C (pow_pos k))) (cmp (n % unit * 2) unit)
      (subst (λ (x : ℕ). gap x n * 2 ≡ unit) (sym in_units) h)

-- ---- From units to fractions: x is nx / dx, two values g and b of the smallest
module _ (nx dx ny dy nv dv g b L : ℕ) (ey : ny * L ≡ g * dy) (ev : nv * L ≡ b * dv) where
  middle : (ny * dv + nv * dy) * dx * L ≡ (g + b) * dx * (dy * dv)
  middle =
      let S = ny * dv + nv * dy in
      let D = dy * dv in
      let e : S * L ≡ (g + b) * D = add-mul (ny * dv) (nv * dy) L ∙ ap₂ (λ (x y : ℕ). x + y) (first_in_units ny dy nv dv g b L ey ev) (second_in_units ny dy nv dv g b L ey ev) ∙ sym (add-mul g b D) in
      mul_right_comm S dx L ∙ ap (λ (x : ℕ). x * dx) e ∙ mul_right_comm (g + b) D dx

  doubled : nx * (2 * (dy * dv)) * L ≡ 2 * (nx * L) * (dy * dv)
  doubled = simp (mul_assoc, mul_comm, mul_left_comm)

  no_more : 0 < L → 2 * (nx * L) ≤ (g + b) * dx → nx * (2 * (dy * dv)) ≤ (ny * dv + nv * dy) * dx
  no_more o l = le_of_mul-le-mul_right (le_trans (le_of_eq doubled) (le_trans (mul-le-mul_right (dy * dv) l) (le_of_eq (sym middle)))) o

  no_less : 0 < L → (g + b) * dx ≤ 2 * (nx * L) → (ny * dv + nv * dy) * dx ≤ nx * (2 * (dy * dv))
  no_less o l = le_of_mul-le-mul_right (le_trans (le_of_eq middle) (le_trans (mul-le-mul_right (dy * dv) l) (le_of_eq (sym doubled)))) o

  at_middle : 0 < dy * dv → nx * (2 * (dy * dv)) ≡ (ny * dv + nv * dy) * dx → 2 * (nx * L) ≡ (g + b) * dx
  at_middle o e = eq_of_mul-eq-mul_right (dy * dv) o (2 * (nx * L)) ((g + b) * dx) (sym doubled ∙ ap (λ (x : ℕ). x * L) e ∙ middle)

  other : 0 < L → (ny * dv ≡ nv * dy → ⊥) → g ≡ b → ⊥
  other o d e = d (eq_of_mul-eq-mul_right L o (ny * dv) (nv * dy) (first_in_units ny dy nv dv g b L ey ev ∙ ap (λ (x : ℕ). x * (dy * dv)) e ∙ sym (second_in_units ny dy nv dv g b L ey ev)))

-- ---- below the limit the result is finite
module _ (f : Format) (a c : ℕ) (C : 0 < c) where
  abbrev N : ℕ
  N = a * 2 ^ low f

  abbrev K : ℕ
  K = emax f - prec f + low f

  one : 1 ≤ prec f
  one = two-le_pos (prec f) (two f)

  room : (f : Format) → prec f ≤ emax f
  room binary32 = lit≤ tt
  room binary64 = lit≤ tt

  overflow_is : overflow f ≡ 2 ^ suc (prec f) * 2 ^ K
  overflow_is = ap (λ (x : ℕ). 2 ^ x) (go (prec f) (emax f) (low f) (room f)) ∙ pow-add 2 (suc (prec f)) K
    where
      go : (p e l : ℕ) → p ≤ e → l + suc e ≡ suc p + (e - p + l)
      go p e l h = omega arith

  -- the limit, in units
  short_of : a < limit_of f * c → N + 2 ^ K * c < 2 ^ suc (prec f) * (2 ^ K * c)
  short_of h =
      let W = 2 ^ suc (prec f) in
      let X = 2 ^ K * c in
      let e : limit_of f * c * 2 ^ low f ≡ (W - 1) * X =
      mul_right_comm (limit_of f) c (2 ^ low f)
      ∙ ap (λ (x : ℕ). x * c) (mul_assoc (W - 1) (2 ^ (emax f - prec f)) (2 ^ low f) ∙ ap (λ (x : ℕ). (W - 1) * x) (sym (pow-add 2 (emax f - prec f) (low f))))
      ∙ mul_assoc (W - 1) (2 ^ K) c in
      go N X W ((W - 1) * X) (pow_pos (suc (prec f))) refl (lt_of_lt_of_le (mul-lt-mul_of_pos_right h (pow_pos (low f))) (le_of_eq e))
    where
      back : (t : ℕ) → 0 < t → t ≡ suc (t - 1)
      back t h = omega arith

      plus : (n x y z : ℕ) → z ≡ y + x → n < y → n + x < z
      plus n x y z e h = omega arith

      go : (n x t y : ℕ) → 0 < t → y ≡ (t - 1) * x → n < y → n + x < t * x
      go n x t y o e h = plus n x y (t * x) (ap (λ (z : ℕ). z * x) (back t o) ∙ suc-mul (t - 1) x ∙ ap (λ (z : ℕ). z + x) (sym e)) h

  below_limit : a < limit_of f * c → grid f a c < overflow f
  below_limit h = elim (dec_le (overflow f) (grid f a c)) [ yes l ↦ absurd (impossible l) | no l ↦ lt_of_not-le l ]
    where
      over : overflow f ≤ grid f a c → 2 ^ suc (prec f) * (2 ^ K * c) ≤ grid f a c * c
      over l = le_trans (le_of_eq (sym (mul_assoc (2 ^ suc (prec f)) (2 ^ K) c) ∙ ap (λ (x : ℕ). x * c) (sym overflow_is))) (mul-le-mul_right c l)

      few : (g n u x t : ℕ) → gap g n * 2 ≤ u → u ≤ 2 * x → n + x < t → t ≤ g → ⊥
      few g n u x t i j k l = omega arith

      -- the digits that are dropped are few
      wide : (t x n r : ℕ) → t * x ≤ r → r ≤ n → n + x < t * x → ⊥
      wide t x n r i j k = omega arith

      up_to : drop (prec f) N c ≤ suc K → c * 2 ^ drop (prec f) N c ≤ 2 * (2 ^ K * c)
      up_to h = le_trans (mul-le-mul_left c (pow_mono h)) (le_of_eq (ap (λ (x : ℕ). c * x) (pow-suc 2 K) ∙ regroup (2 ^ K)))
        where
          regroup : (y : ℕ) → c * (y * 2) ≡ 2 * (y * c)
          regroup y = simp (mul_assoc, mul_comm, mul_left_comm)

      past : suc (suc K) ≤ drop (prec f) N c → 2 ^ suc (prec f) * (2 ^ K * c) ≤ c * 2 ^ drop (prec f) N c * 2 ^ (prec f - 1)
      past h =
          let e : 2 ^ suc (prec f) * (2 ^ K * c) ≡ c * (2 ^ suc (suc K) * 2 ^ (prec f - 1)) =
          sym (mul_assoc (2 ^ suc (prec f)) (2 ^ K) c) ∙ mul_comm (2 ^ suc (prec f) * 2 ^ K) c
          ∙ ap (λ (x : ℕ). c * x) (sym (pow-add 2 (suc (prec f)) K) ∙ ap (λ (x : ℕ). 2 ^ x) (digits (prec f) K one) ∙ pow-add 2 (suc (suc K)) (prec f - 1)) in
          le_trans (le_of_eq e) (le_trans (mul-le-mul_left c (mul-le-mul_right (2 ^ (prec f - 1)) (pow_mono h))) (le_of_eq (sym (mul_assoc c (2 ^ drop (prec f) N c) (2 ^ (prec f - 1))))))
        where
          digits : (p k : ℕ) → 1 ≤ p → suc p + k ≡ suc (suc k) + (p - 1)
          digits p k h = omega arith

      impossible : overflow f ≤ grid f a c → ⊥
      impossible l = elim (dec_le (drop (prec f) N c) (suc K)) [
        | yes i ↦ few (grid f a c * c) N (c * 2 ^ drop (prec f) N c) (2 ^ K * c) (2 ^ suc (prec f) * (2 ^ K * c)) (within (prec f) N c one C) (up_to i) (short_of h) (over l)
        | no i ↦
            let j = lt_of_not-le i in
            wide (2 ^ suc (prec f)) (2 ^ K * c) N (c * 2 ^ drop (prec f) N c * 2 ^ (prec f - 1)) (past j) (reached (prec f) N c one C (some K (drop (prec f) N c) j)) (short_of h)
      ]
        where
          some : (k d : ℕ) → suc k < d → 0 < d
          some k d h = omega arith

-- ---- and from the limit on it is none
limit_infinite : (f : Format) → round f false (limit_of f) 1 ≡ inf false
unfolding round units
limit_infinite binary32 = refl
limit_infinite binary64 = refl

none_above : (y : Float) (g l : ℕ) → T (le (inf false) y) → HasValue y false g l → ⊥
unfolding le
none_above nan g l t h = h
none_above (inf s) g l t h = h
none_above (fin s m e) g l t h = t

units_beyond : (f : Format) (s : Bool) (q k : ℕ) → overflow f ≤ q * 2 ^ k → units f s q k ≡ inf s
unfolding units
units_beyond f s q k h = rw (le-ltb (q * 2 ^ k) (overflow f) h)

pub round_beyond : (f : Format) (s : Bool) (a c : ℕ) → 0 < c → limit_of f * c ≤ a → round f s a c ≡ inf s
round_beyond f s a c C h =
    let t : T (le (inf false) (round f false a c)) =
    subst (λ (y : Float). T (le y (round f false a c))) (limit_infinite f) (round_mono f (limit_of f) 1 a c (pow_pos 0) C (le_trans h (le_of_eq (sym (mul-one a))))) in
    round_is f s a c
    ∙ units_beyond f s (kept (prec f) (a * 2 ^ low f) c) (drop (prec f) (a * 2 ^ low f) c)
    (elim (dec_le (overflow f) (grid f a c)) [ yes l ↦ l | no l ↦ absurd (none_above (round f false a c) (grid f a c) (2 ^ low f) t (round_val f a c (lt_of_not-le l))) ])

-- ---- even digits, and no more than the format has
kept_le : (p n c : ℕ) → kept p n c ≤ 2 ^ p
kept_le p n c =
    let k = drop p n c in
    let u = c * 2 ^ k in
    le_trans (nearest-le (n / u) (compare (n % u * 2) u)) (subst (λ (x : ℕ). x < 2 ^ p) (div-div-eq-div-mul n c (2 ^ k)) (kept-lt p (n / c)))

even_value : (f : Format) (y : Float) (g q k : ℕ) → g ≡ q * 2 ^ k → num y * 2 ^ low f ≡ g * den y → q % 2 ≡ 0 → q ≤ 2 ^ prec f → Even f y
even_value f y g q k e is t l =
    let h = halves q t in
    record { digits = q / 2; places = k; few = le_trans (le_of_eq (sym h)) l; is = is ∙ ap (λ (x : ℕ). x * den y) (e ∙ ap (λ (x : ℕ). x * 2 ^ k) h) }
  where
    halves : (q : ℕ) → q % 2 ≡ 0 → q ≡ 2 * (q / 2)
    halves q t = omega arith

-- ---- the theorem
pub round_nearest : (f : Format) (s : Bool) (x : Float) → WithSign s x → num x < limit_of f * den x → NearestValue f s x (round f s (num x) (den x))
round_nearest f s x sx h =
    let p = prec f in
    let o1 = two-le_pos (prec f) (two f) in
    let C = den_pos x in
    let L = 2 ^ low f in
    let o : 0 < L = pow_pos (low f) in
    let n = num x * L in
    let y = round f s (num x) (den x) in
    let g = grid f (num x) (den x) in
    let hy = round_is_grid f s (num x) (den x) (below_limit f (num x) (den x) C h) in
    let ey : num y * L ≡ g * den y = cross y s g L hy in
    record {
      value = round-fits f s (num x) (den x);
      sign = own y s g L hy;
      above = λ v tv sv l.
          let d = digits_of_lem f v s tv sv in
          let b = d.m * 2 ^ d.j in
          no_more (num x) (den x) (num y) (den y) (num v) (den v) g b L ey d.is o
          (at_most p n (den x) o1 C d.m d.j d.small (in_order (num y) (den y) (num v) (den v) g b L ey d.is o l));
      below = λ v tv sv l.
          let d = digits_of_lem f v s tv sv in
          let b = d.m * 2 ^ d.j in
          no_less (num x) (den x) (num y) (den y) (num v) (den v) g b L ey d.is o
          (at_least p n (den x) o1 C d.m d.j d.small (reversed (num y) (den y) (num v) (den v) g b L ey d.is o l));
      tie = λ v tv sv w e.
          let d = digits_of_lem f v s tv sv in
          let b = d.m * 2 ^ d.j in
          let z = at_middle (num x) (den x) (num y) (den y) (num v) (den v) g b L ey d.is (mul-pos (den_pos y) (den_pos v)) e in
          even_value f y g (kept p n (den x)) (drop p n (den x)) refl ey
          (even_digits p n (den x) o1 C (midway p n (den x) o1 C d.m d.j d.small (other (num x) (den x) (num y) (den y) (num v) (den v) g b L ey d.is o w) z))
          (kept_le p n (den x));
    }

-- ---- an f64 as the nearest f32
pub narrow_nearest : NarrowIsNearest
narrow_nearest =
    record {
      near = λ x s sx h. subst (λ (y : Float). NearestValue binary32 s x y) (sym (narrow_is x s sx)) (round_nearest binary32 s x sx h);
      beyond = λ x s sx h. narrow_is x s sx ∙ round_beyond binary32 s (num x) (den x) (den_pos x) h;
    }

-- in the whole normal range of f32, from 2 ^ -126 to below the limit, it is within one part in 2 ^ 24
pub narrow_normal : (x : Float) (s : Bool) → WithSign s x → den x ≤ num x * 2 ^ (emax binary32 - 1) → num x < limit_of binary32 * den x
    → Close (narrow x) s (num x) (den x) (2 ^ prec binary32 - 1) (2 ^ prec binary32 + 1) (2 ^ prec binary32)
narrow_normal x s sx l h =
    let f = binary32 in
    let C = den_pos x in
    let r = relative f (num x) (den x) C (normal_of_fraction f (num x) (den x) C (least-in-units f (num x) (den x) l)) in
    subst (λ (y : Float). Close y s (num x) (den x) (2 ^ prec f - 1) (2 ^ prec f + 1) (2 ^ prec f)) (sym (narrow_is x s sx))
    (close_of (round f s (num x) (den x)) s (num x) (den x) (grid f (num x) (den x)) (2 ^ low f) (2 ^ prec f) (pow_pos (low f))
    (round_is_grid f s (num x) (den x) (below_limit f (num x) (den x) C h)) r)

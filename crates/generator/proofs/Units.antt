-- A magnitude by its bits, what one leaves of another, and the remainder of two floats over it. Assumes nothing.
use mathlib.Core.Path.{◌≡◌, refl, sym, ap, ap₂, ◌∙◌, subst}
use mathlib.Core.Logic.{inl, inr}
use Prim.Native.Nat.{ℕ, suc, ◌+◌, ◌-◌, ◌*◌, ◌/◌, ◌%◌, ◌^◌, ◌≤◌, ◌<◌, min}
use native.Mathlib.Nat.{le_trans, le_of_eq, lt_of_le_of_lt, lt_of_lt_of_le, mul_assoc, add-mul, mul-pos, mod-lt, mod-eq_of_lt}
use native.Mathlib.Nat.{mul-lt-mul_of_pos_right, mul-le-mul_right, eq-zero-or-pos}
use native.Mathlib.Omega.{arith}
use native.Mathlib.Decide.{dec_lt}
use lib.Count.{count_leading_zeros, leading_top}
use lib.Pow.{pow-add, pow_pos, pow_mono, shl_lt, shl_exact}
use Rattle.std.proofs.lemmas.Nat.{mul-mod_first, mod-mul-add, div-add-mod'}
use Rattle.number.proofs.Pack.{pow_lt_back}
use Rattle.generator.specs.Units.{places, digits, units}

-- ---- one turn of `left_of`

-- digits moved up within 64 places
pub moved : (r k : ℕ) → r < 2 ^ 24 → k ≤ 40 → r * 2 ^ k % 2 ^ 64 ≡ r * 2 ^ k
moved r k h l = shl_exact 24 k 64 h (omega (arith, l))

pub turn : (r k n m : ℕ) → r < 2 ^ 24 → 40 ≤ k → r * 2 ^ k % n ≡ m → r * 2 ^ 40 % 2 ^ 64 % n * 2 ^ (k - 40) % n ≡ m
turn r k n m h l e =
    let s : 40 + (k - 40) ≡ k = omega (arith, l) in
    ap (λ (x : ℕ). x % n * 2 ^ (k - 40) % n) (moved r 40 h (omega arith))
    ∙ mul-mod_first (r * 2 ^ 40) (2 ^ (k - 40)) n
    ∙ ap (λ (x : ℕ). x % n) (mul_assoc r (2 ^ 40) (2 ^ (k - 40)) ∙ ap (λ (x : ℕ). r * x) (sym (pow-add 2 40 (k - 40)) ∙ ap (λ (x : ℕ). 2 ^ x) s))
    ∙ e

-- ---- a magnitude from its digits and places

places_packed : (m k : ℕ) → m < 2 ^ 24 → (0 < k → 2 ^ 23 ≤ m) → (k * 2 ^ 23 + m) / 2 ^ 23 - 1 ≡ k
places_packed m k h full = elim (dec_lt m (2 ^ 23)) [
  | yes s ↦ elim (eq-zero-or-pos k) [
    | inl z ↦ omega (arith, z, s)
    | inr y ↦ absurd (omega (arith, full y, s))
  ]
  | no n ↦ omega (arith, h, n)
]

-- k * 2^23 + m are the bits of m * 2^k, if m has all its digits or k is 0
pub of_packed : (m k : ℕ) → m < 2 ^ 24 → (0 < k → 2 ^ 23 ≤ m) → units (k * 2 ^ 23 + m) ≡ m * 2 ^ k
unfolding units
of_packed m k h full =
    let p = places_packed m k h full in
    let d : k * 2 ^ 23 + m - places (k * 2 ^ 23 + m) * 2 ^ 23 ≡ m = ap (λ (x : ℕ). k * 2 ^ 23 + m - x * 2 ^ 23) p ∙ omega arith in
    ap₂ (λ (a x : ℕ). a * 2 ^ x) d p

-- the digits and places of any magnitude below infinity
pub places_le : (b : ℕ) → b < 2139095040 → places b ≤ 253
places_le b h = omega (arith, h)

pub digits_lt : (b : ℕ) → digits b < 2 ^ 24
digits_lt b = omega arith

pub digits_full : (b : ℕ) → 0 < places b → 2 ^ 23 ≤ digits b
digits_full b l = omega (arith, l)

pub digits_pos : (b : ℕ) → 0 < b → 0 < digits b
digits_pos b l = omega (arith, l)

pub repacked : (b : ℕ) → places b * 2 ^ 23 + digits b ≡ b
repacked b = omega arith

pub units_is : (b : ℕ) → units b ≡ digits b * 2 ^ places b
unfolding units
units_is b = refl

pub units_pos : (b : ℕ) → 0 < b → 0 < units b
unfolding units
units_pos b l = mul-pos (digits_pos b l) (pow_pos (places b))

-- ---- what is left

pub mod_scaled : (a b c : ℕ) → 0 < b → 0 < c → a * c % (b * c) ≡ a % b * c
mod_scaled a b c bp cp =
    let e : a * c ≡ a / b * (b * c) + a % b * c
    = sym (ap (λ (x : ℕ). x * c) (div-add-mod' a b)) ∙ add-mul (a / b * b) (a % b) c ∙ ap (λ (x : ℕ). x + a % b * c) (mul_assoc (a / b) b c) in
    ap (λ (x : ℕ). x % (b * c)) e ∙ mod-mul-add (a / b) (b * c) (a % b * c) (mul-lt-mul_of_pos_right (mod-lt a bp) cp)

-- of a magnitude with fewer places all is left
pub smaller : (a b : ℕ) → places a < places b → units a ≡ units a % units b
unfolding units
smaller a b l =
    let x : digits a * 2 ^ places a < 2 ^ (24 + places a) = shl_lt 24 (places a) (digits_lt a) in
    let y : 2 ^ (24 + places a) ≤ 2 ^ (23 + places b) = pow_mono (omega (arith, l)) in
    let z : 2 ^ (23 + places b) ≤ digits b * 2 ^ places b
    = subst (λ (w : ℕ). w ≤ digits b * 2 ^ places b) (sym (pow-add 2 23 (places b))) (mul-le-mul_right (2 ^ places b) (digits_full b (omega (arith, l)))) in
    sym (mod-eq_of_lt (lt_of_lt_of_le x (le_trans y z)))

-- and else what the digits leave of the others', at the places of the divisor
pub brought_down : (a b r : ℕ) → places b ≤ places a → 0 < b → r ≡ digits a * 2 ^ (places a - places b) % digits b → r * 2 ^ places b ≡ units a % units b
unfolding units
brought_down a b r l y e =
    let q = places b in
    let k = places a - q in
    let s : k + q ≡ places a = omega (arith, l) in
    let up : digits a * 2 ^ k * 2 ^ q ≡ digits a * 2 ^ places a
    = mul_assoc (digits a) (2 ^ k) (2 ^ q) ∙ ap (λ (x : ℕ). digits a * x) (sym (pow-add 2 k q) ∙ ap (λ (x : ℕ). 2 ^ x) s) in
    ap (λ (x : ℕ). x * 2 ^ q) e ∙ sym (mod_scaled (digits a * 2 ^ k) (digits b) (2 ^ q) (digits_pos b y) (pow_pos q)) ∙ ap (λ (x : ℕ). x % (digits b * 2 ^ q)) up

pub units_zero : units 0 ≡ 0
unfolding units
units_zero = refl

pub brought : (a b p q r : ℕ) → p ≡ places a → q ≡ places b → q ≤ p → 0 < b → r ≡ (a - p * 2 ^ 23) * 2 ^ (p - q) % (b - q * 2 ^ 23) → r * 2 ^ q ≡ units a % units b
brought a b p q r ep eq l y e =
    ap (λ (x : ℕ). r * 2 ^ x) eq
    ∙ brought_down a b r (omega (arith, ep, eq, l)) y (e ∙ ap₂ (λ (x z : ℕ). (a - x * 2 ^ 23) * 2 ^ (x - z) % (b - z * 2 ^ 23)) ep eq)

-- ---- digits brought to their place

-- r moved up by u places, as far as k and its leading digit allow
pub record Placed (r k u : ℕ) : Type 0 where
  pub within : u ≤ k
  pub exact : r * 2 ^ u % 2 ^ 64 ≡ r * 2 ^ u
  pub small : r * 2 ^ u < 2 ^ 24
  pub full : 0 < k - u → 2 ^ 23 ≤ r * 2 ^ u

pub zeros : (r : ℕ) → 0 < r → r < 2 ^ 24 → 40 ≤ count_leading_zeros 64 r
zeros r p h =
    let l = leading_top 64 r p (lt_of_lt_of_le h (pow_mono {i = 24} {j = 64} (omega arith))) in
    let s : l.0 < 24 = pow_lt_back l.0 24 (lt_of_le_of_lt l.2 h) in
    let e : count_leading_zeros 64 r + suc l.0 ≡ 64 = l.1 in
    omega arith

pub placed : (r k u : ℕ) → 0 < r → r < 2 ^ 24 → u ≡ min (count_leading_zeros 64 r - 40) k → Placed r k u
placed r k u p h e =
    let l = leading_top 64 r p (lt_of_lt_of_le h (pow_mono {i = 24} {j = 64} (omega arith))) in
    let j = l.0 in
    let L = count_leading_zeros 64 r in
    let s : j < 24 = pow_lt_back j 24 (lt_of_le_of_lt l.2 h) in
    let f : L + suc j ≡ 64 = l.1 in
    let up : r * 2 ^ u < 2 ^ 24 = lt_of_lt_of_le (shl_lt (suc j) u l.3) (pow_mono {j = 24} (omega (arith, e, f, s))) in
    record {
      within = omega (arith, e);
      exact = mod-eq_of_lt (lt_of_lt_of_le up (pow_mono {i = 24} {j = 64} (omega arith)));
      small = up;
      full = λ (w : 0 < k - u).
          let z : j + u ≡ 23 = omega (arith, e, f, s, w) in
          le_trans (le_of_eq (ap (λ (x : ℕ). 2 ^ x) (sym z) ∙ pow-add 2 j u)) (mul-le-mul_right (2 ^ u) l.2);
    }

pub placed_units : (r k u : ℕ) → Placed r k u → units ((k - u) * 2 ^ 23 + r * 2 ^ u % 2 ^ 64) ≡ r * 2 ^ k
placed_units r k u w =
    let s : u + (k - u) ≡ k = omega (arith, w.within) in
    ap (λ (x : ℕ). units ((k - u) * 2 ^ 23 + x)) w.exact
    ∙ of_packed (r * 2 ^ u) (k - u) w.small w.full
    ∙ mul_assoc r (2 ^ u) (2 ^ (k - u))
    ∙ ap (λ (x : ℕ). r * x) (sym (pow-add 2 u (k - u)) ∙ ap (λ (x : ℕ). 2 ^ x) s)

pub placed_finite : (r k u : ℕ) → k ≤ 253 → Placed r k u → (k - u) * 2 ^ 23 + r * 2 ^ u % 2 ^ 64 < 2139095040
placed_finite r k u h w = let a = w.exact in let b = w.small in omega (arith, a, b, h)

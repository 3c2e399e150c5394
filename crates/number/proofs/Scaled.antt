-- What `round` drops and keeps of m * 2 ^ g / 2 ^ D, a whole number times a power of two, by how many digits m has. Assumes nothing.
use mathlib.Core.Path.{◌≡◌, refl, sym, ap, ◌∙◌, subst}
use Prim.Native.Nat.{ℕ, suc, ◌+◌, ◌-◌, ◌*◌, ◌/◌, ◌%◌, ◌^◌, ◌≤◌, ◌<◌, compare}
use native.Mathlib.Nat.{le_of_lt, mul-le-mul_left, mul-lt-mul_of_pos_right, le_trans, le_of_eq, lt_of_lt_of_le, lt_of_le_of_lt, mul-one, mul_assoc, mul-pos, mul-le-mul_right, div-lt_iff_lt-mul}
use native.Mathlib.Nat.{le-div_iff_mul-le, div-eq_of_lt, mod-eq_of_lt}
use native.Mathlib.Omega.{arith}
use lib.Pow.{pow-add, pow_pos, pow_mono, shl_lt}
use lib.Ieee.{size, nearest}
use lib.Ieee.Digits.{size-le}
use lib.Ieee.Nearest.{closest, closest_same}
use lib.Ieee.Order.{drop}
use Rattle.number.proofs.Pack.{size_exact}
use Rattle.number.proofs.Shift.{nearest_lt}

-- 2 ^ a * 2 ^ b at any way to write the sum
pub pow_sum : (a b c : ℕ) → a + b ≡ c → 2 ^ a * 2 ^ b ≡ 2 ^ c
pow_sum a b c e = sym (pow-add 2 a b) ∙ ap (λ (x : ℕ). 2 ^ x) e

pub shift_sum : (m a b c : ℕ) → a + b ≡ c → m * 2 ^ a * 2 ^ b ≡ m * 2 ^ c
shift_sum m a b c e = mul_assoc m (2 ^ a) (2 ^ b) ∙ ap (λ (x : ℕ). m * x) (pow_sum a b c e)

-- with m of P + 1 digits, in the normal range of a format of p + 1 digits
pub drop_at : (p m g D k P : ℕ) → 2 ^ P ≤ m → m < 2 ^ suc P → g + P ≡ D + (p + k) → drop (suc p) (m * 2 ^ g) (2 ^ D) ≡ k
drop_at p m g D k P lo hi e =
    let n = m * 2 ^ g in
    let L : 2 ^ (p + k) * 2 ^ D ≤ n = le_trans (le_of_eq (pow_sum (p + k) D (P + g) (omega arith) ∙ pow-add 2 P g)) (mul-le-mul_right (2 ^ g) lo) in
    let H : n < 2 ^ suc (p + k) * 2 ^ D = lt_of_lt_of_le (shl_lt (suc P) g hi) (le_of_eq (sym (pow_sum (suc (p + k)) D (suc P + g) (omega arith)))) in
    ap (λ (z : ℕ). z - suc p) (size_exact (p + k) (n / 2 ^ D) ((le-div_iff_mul-le (pow_pos D)).1 L) ((div-lt_iff_lt-mul (pow_pos D)).1 H)) ∙ less p k
  where
    less : (a b : ℕ) → suc (a + b) - suc a ≡ b
    less a b = omega arith

-- below it
pub drop_zero : (p m g D P : ℕ) → m < 2 ^ P → P + g ≤ p + D → drop p (m * 2 ^ g) (2 ^ D) ≡ 0
drop_zero p m g D P hi e =
    let H : m * 2 ^ g < 2 ^ p * 2 ^ D = lt_of_lt_of_le (shl_lt P g hi) (le_trans (pow_mono e) (le_of_eq (pow-add 2 p D))) in
    none (size (m * 2 ^ g / 2 ^ D)) p (size-le (m * 2 ^ g / 2 ^ D) p ((div-lt_iff_lt-mul (pow_pos D)).1 H))
  where
    none : (z q : ℕ) → z ≤ q → z - q ≡ 0
    none z q h = omega arith

-- the same fraction in smaller numbers
pub kept_at : (m g D k d : ℕ) → g + d ≡ D + k → closest (m * 2 ^ g) (2 ^ D * 2 ^ k) ≡ closest m (2 ^ d)
kept_at m g D k d e =
    closest_same (m * 2 ^ g) (2 ^ D * 2 ^ k) m (2 ^ d) (mul-pos (pow_pos D) (pow_pos k)) (pow_pos d) (shift_sum m g d (D + k) e ∙ ap (λ (x : ℕ). m * x) (pow-add 2 D k))

-- less than a half
pub closest_zero : (n u : ℕ) → n * 2 < u → closest n u ≡ 0
closest_zero n u h =
    let l : n < u = omega arith in
    ap (λ (x : ℕ). nearest x (compare (n % u * 2) u)) (div-eq_of_lt l) ∙ ap (λ (x : ℕ). nearest 0 (compare (x * 2) u)) (mod-eq_of_lt l) ∙ nearest_lt 0 (n * 2) u h

pub kept_zero : (m g D P : ℕ) → m < 2 ^ P → suc (P + g) ≤ D → closest (m * 2 ^ g) (2 ^ D * 2 ^ 0) ≡ 0
kept_zero m g D P hi e =
    closest_zero (m * 2 ^ g) (2 ^ D * 1)
    (subst (λ (x : ℕ). m * 2 ^ g * 2 < x) (sym (mul-one (2 ^ D)))
    (lt_of_lt_of_le (lt_of_le_of_lt (le_of_eq (shift_sum m g 1 (g + 1) refl)) (shl_lt P (g + 1) hi)) (pow_mono (omega arith))))

-- a product of numbers of i and of j digits
pub product : (i j : ℕ) {a b : ℕ} → a < 2 ^ i → b < 2 ^ j → a * b < 2 ^ (i + j)
product i j {a} {b} h k = subst (λ (x : ℕ). a * b < x) (sym (pow-add 2 i j)) (lt_of_le_of_lt (mul-le-mul_left a (le_of_lt k)) (mul-lt-mul_of_pos_right h (pow_pos j)))

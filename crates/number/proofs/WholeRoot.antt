-- `wholeRoot n` is the one r with r * r ≤ n < (r + 1) * (r + 1); the digits that are worked out one by one are its digits (`Left`); and cutting j digits off a root
-- is cutting 2 * j digits off the number (`root-cut`). Assumes nothing.
use mathlib.Core.Path.{◌≡◌, refl, sym, ap, ◌∙◌, subst}
use Prim.Native.Nat.{ℕ, zero, suc, ◌+◌, ◌*◌, ◌/◌, ◌%◌, ◌^◌, ◌≤◌, ◌<◌, zero-le}
use native.Mathlib.Nat.{le_refl, le_trans, le_of_eq, le_antisymm, lt_irrefl, lt_of_lt_of_le, lt_of_not-le, le_of_suc-le-suc, zero-lt-suc, mul_comm, mul_assoc, mul_left_comm, mul_right_comm}
use native.Mathlib.Nat.{mul-mul-mul_comm, mul-pos, one-mul, mul-add, add-mul, suc-mul, mul-le-mul, div-lt_iff_lt-mul, le-div_iff_mul-le, pow-suc, div-mul-le_self, le_of_mul-le-mul_right}
use native.Mathlib.Nat.{lt_of_mul-lt-mul_right, mul-lt-mul_of_pos_right}
use native.Mathlib.Omega.{arith}
use mathlib.Core.Bool.{Bool, true, false, not, cond}
use lib.Dec.{T, leb, leb→le, nleb→lt, lit≤}
use lib.Ieee.{size}
use lib.Ieee.Digits.{size-lt}
use Rattle.number.specs.Number.{digit, root_in, whole_root}

abbrev pub IsRoot : ℕ → ℕ → Type 0
IsRoot n r = (r * r ≤ n) × (n < suc r * suc r)

sq_mono : {a b : ℕ} → a ≤ b → a * a ≤ b * b
sq_mono h = mul-le-mul h h

pub root_le : (n a b : ℕ) → a * a ≤ n → n < suc b * suc b → a ≤ b
root_le n a b h k = le_of_suc-le-suc (lt_of_not-le (λ (g : suc b ≤ a). lt_irrefl n (lt_of_lt_of_le k (le_trans (sq_mono g) h))))

pub unique : (n a b : ℕ) → IsRoot n a → IsRoot n b → a ≡ b
unique n a b x y = le_antisymm (root_le n a b x.0 y.1) (root_le n b a y.0 x.1)

-- ---- `wholeRoot` is a root

double_sq : (x y : ℕ) → y ≡ 2 * x → y * y ≡ x * x * 4
double_sq x y e =
    let a : 2 * x * (2 * x) ≡ 2 * (2 * (x * x)) = simp (mul_assoc, mul_left_comm) in
    ap (λ (z : ℕ). z * z) e ∙ a ∙ four (x * x)
  where
    four : (s : ℕ) → 2 * (2 * s) ≡ s * 4
    four s = omega arith

digit_root : (n r : ℕ) → IsRoot (n / 4) r → IsRoot n (digit n r)
digit_root n r h = go (leb ((2 * r + 1) * (2 * r + 1)) n) (leb→le ((2 * r + 1) * (2 * r + 1)) n) (nleb→lt ((2 * r + 1) * (2 * r + 1)) n)
  where
    go : (b : Bool) → (T b → (2 * r + 1) * (2 * r + 1) ≤ n) → (T (not b) → n < (2 * r + 1) * (2 * r + 1)) → IsRoot n (cond b (2 * r + 1) (2 * r))
    go true l g = (l tt, subst (λ (x : ℕ). n < x) (sym (double_sq (suc r) (suc (2 * r + 1)) (omega arith))) ((div-lt_iff_lt-mul (zero-lt-suc 3)).0 h.1))
    go false l g = (
      subst (λ (x : ℕ). x ≤ n) (sym (double_sq r (2 * r) refl)) ((le-div_iff_mul-le (zero-lt-suc 3)).0 h.0),
      subst (λ (x : ℕ). n < x * x) (same (2 * r)) (g tt),
    )
      where
        same : (x : ℕ) → x + 1 ≡ suc x
        same x = omega arith

root_in_is : (k n : ℕ) → n < 4 ^ k → IsRoot n (root_in k n)
unfolding root_in
root_in_is zero n h = (zero-le, h)
root_in_is (suc k) n h = digit_root n (root_in k (n / 4)) (root_in_is k (n / 4) ((div-lt_iff_lt-mul (zero-lt-suc 3)).1 (subst (λ (x : ℕ). n < x) (pow-suc 4 k) h)))

two_four : (k : ℕ) → 2 ^ k ≤ 4 ^ k
two_four zero = le_refl 1
two_four (suc k) = le_trans (le_of_eq (pow-suc 2 k)) (le_trans (mul-le-mul (two_four k) (lit≤ tt)) (le_of_eq (sym (pow-suc 4 k))))

pub whole_root_is : (n : ℕ) → IsRoot n (whole_root n)
unfolding whole_root
whole_root_is n = root_in_is (size n) n (lt_of_lt_of_le (size-lt n) (two_four (size n)))

pub whole_root_lem : (n r : ℕ) → IsRoot n r → r ≡ whole_root n
whole_root_lem n r h = unique n r (whole_root n) h (whole_root_is n)

-- ---- digit by digit. q is the root so far, a multiple of w; y is twice what its square leaves of N, in units of w
pub record Left (N P q y w : ℕ) : Type 0 where
  pub exact : q * q + q * q + y * w ≡ N + N
  pub small : y < 4 * q + 2 * w
  pub room : q + w ≤ P

module _ (N P q y r w : ℕ) (W : w ≡ 2 * r) (L : Left N P q y w) where
  pub digit_set : (z : ℕ) → y ≡ z + (q + q + r) → Left N P (q + r) (z + z) r
  digit_set z e =
      let a : (q + r) * (q + r) ≡ q * q + q * r + (q * r + r * r) = add-mul q r (q + r) ∙ ap (λ (x : ℕ). x + r * (q + r)) (mul-add q q r)
      ∙ ap (λ (x : ℕ). q * q + q * r + x) (mul-add r q r ∙ ap (λ (x : ℕ). x + r * r) (mul_comm r q)) in
      let b : (z + z) * r ≡ z * r + z * r = add-mul z z r in
      let c : y * r ≡ z * r + (q * r + q * r + r * r) = ap (λ (x : ℕ). x * r) e ∙ add-mul z (q + q + r) r
      ∙ ap (λ (x : ℕ). z * r + x) (add-mul (q + q) r r ∙ ap (λ (x : ℕ). x + r * r) (add-mul q q r)) in
      let d : y * w ≡ 2 * (y * r) = ap (λ (x : ℕ). y * x) W ∙ mul_left_comm y 2 r in
      let x = L.exact in
      let s = L.small in
      let o = L.room in
      record { exact = omega arith; small = omega arith; room = omega arith }

  pub digit_clear : y < q + q + r → Left N P q (y + y) r
  digit_clear h =
      let b : (y + y) * r ≡ y * r + y * r = add-mul y y r in
      let d : y * w ≡ 2 * (y * r) = ap (λ (x : ℕ). y * x) W ∙ mul_left_comm y 2 r in
      let x = L.exact in
      let o = L.room in
      record { exact = omega arith; small = omega arith; room = omega arith }

-- with all but the last digits worked out, those below u: what stands there is the root without them
pub digits_done : (N P k y u : ℕ) → 0 < u → Left N P (k * u) y u → k ≡ whole_root N / u
digits_done N P k y u U L =
    let q = k * u in
    let R = whole_root N in
    let i = whole_root_is N in
    let a : (q + u) * (q + u) ≡ q * q + q * u + (q * u + u * u) = add-mul q u (q + u) ∙ ap (λ (x : ℕ). x + u * (q + u)) (mul-add q q u)
    ∙ ap (λ (x : ℕ). q * q + q * u + x) (mul-add u q u ∙ ap (λ (x : ℕ). x + u * u) (mul_comm u q)) in
    let b : (4 * q + 2 * u) * u ≡ 4 * (q * u) + 2 * (u * u) = add-mul (4 * q) (2 * u) u ∙ ap (λ (x : ℕ). x + 2 * u * u) (mul_assoc 4 q u) ∙ ap (λ (x : ℕ). 4 * (q * u) + x) (mul_assoc 2 u u) in
    let c : y * u < (4 * q + 2 * u) * u = mul-lt-mul_of_pos_right L.small U in
    let x = L.exact in
    let below : q * q ≤ N = omega arith in
    let above : N < (q + u) * (q + u) = omega arith in
    let lo : q ≤ R = root_le N q R below i.1 in
    let hi : R < q + u = lt_of_not-le (λ (g : q + u ≤ R). lt_irrefl N (lt_of_lt_of_le above (le_trans (sq_mono g) i.0))) in
    le_antisymm ((le-div_iff_mul-le U).1 lo) (le_of_suc-le-suc ((div-lt_iff_lt-mul U).1 (lt_of_lt_of_le hi (le_of_eq (sym (suc-mul k u))))))

-- ---- j digits off the root are 2 * j digits off the number

pub root_cut : (N r w : ℕ) → 0 < w → IsRoot (N * (w * w)) r → IsRoot N (r / w)
root_cut N r w W h =
    let q = r / w in
    let lo : q * w ≤ r = div-mul-le_self r w in
    let hi : r < suc q * w = (div-lt_iff_lt-mul W).0 (le_refl (suc q)) in (
      le_of_mul-le-mul_right (le_trans (le_of_eq (sym (mul-mul-mul_comm q w q w))) (le_trans (sq_mono lo) h.0)) (mul-pos W W),
      lt_of_mul-lt-mul_right (w * w) (lt_of_lt_of_le h.1 (le_trans (sq_mono hi) (le_of_eq (mul-mul-mul_comm (suc q) w (suc q) w)))),
    )

-- ---- an odd number's square is no even number
pub odd_square : (r n : ℕ) → r % 2 ≡ 1 → n % 2 ≡ 0 → r * r ≡ n → ⊥
odd_square r n o e h =
    let k = r / 2 in
    let s : r * r ≡ k * r * 2 + r = ap (λ (x : ℕ). x * r) (half r o) ∙ add-mul (k * 2) 1 r ∙ ap (λ (x : ℕ). x + 1 * r) (mul_right_comm k 2 r) ∙ ap (λ (x : ℕ). k * r * 2 + x) (one-mul r) in
    clash (k * r) r n (sym s ∙ h) o e
  where
    half : (x : ℕ) → x % 2 ≡ 1 → x ≡ x / 2 * 2 + 1
    half x p = omega arith

    clash : (a x m : ℕ) → a * 2 + x ≡ m → x % 2 ≡ 1 → m % 2 ≡ 0 → ⊥
    clash a x m p q s = omega arith

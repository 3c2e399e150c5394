-- What the first 25 digits of a 54 digit root decide. The root R of M * 2 ^ 54 becomes an f64's 53 digits, (R + 1) / 2, and those become an f32's 24. k is the 25 digits
-- of the root of M + 1, and M + 1 is 16 * k * k and a rest. With a rest of at most 2 the f64 is k * 2 ^ 28 itself (`met`), so that k / 2 is rounded, a tie to even;
-- else it lies between k * 2 ^ 28 and the next such number (`between`), and k / 2 is rounded up. Assumes nothing.
use mathlib.Core.Path.{◌≡◌, sym, ap, ◌∙◌}
use mathlib.Core.Logic.{◌⊎◌, inl, inr, ⊎_elim}
use Prim.Native.Nat.{ℕ, suc, ◌+◌, ◌-◌, ◌*◌, ◌/◌, ◌^◌, ◌≤◌, ◌<◌}
use native.Mathlib.Nat.{eq-or-lt_of_le, le_of_suc-le-suc, lt_of_not-le, mul-le-mul, mul-mul-mul_comm, mul-suc, suc-mul}
use native.Mathlib.Omega.{arith}
use lib.Dec.{lit<}
use lib.Ieee.Nearest.{closest, closest_same}
use Rattle.number.proofs.RootBits.{closest_half}
use Rattle.number.proofs.WholeRoot.{IsRoot, root_le}

square_suc : (x : ℕ) → suc x * suc x ≡ x * x + x + suc x
square_suc x = suc-mul x (suc x) ∙ ap (λ (y : ℕ). y + suc x) (mul-suc x x)

square_at : (k : ℕ) → k * 2 ^ 29 * (k * 2 ^ 29) ≡ k * k * 2 ^ 58
square_at k = mul-mul-mul_comm k (2 ^ 29) k (2 ^ 29)

-- what the digits and the rest tell of M, in units of M
pub record First (M k e : ℕ) : Type 0 where
  pub exact : M + 1 ≡ 16 * (k * k) + e
  pub small : e < 32 * k + 16
  pub least : 2 ^ 52 ≤ M
  pub from : 2 ^ 24 ≤ k
  pub below : k < 2 ^ 25

-- ---- the root is at most one from k * 2 ^ 29
module _ (M k e R : ℕ) (D : First M k e) (I : IsRoot (M * 2 ^ 54) R) where
  abbrev T : ℕ
  T = k * 2 ^ 29

  least_or_more : (2 ^ 24 < k) ⊎ (1 ≤ e)
  least_or_more = ⊎_elim (λ (p : 2 ^ 24 ≡ k). inr (one p)) (λ (p : 2 ^ 24 < k). inl p) (eq-or-lt_of_le D.from)
    where
      one : 2 ^ 24 ≡ k → 1 ≤ e
      one p =
          let x = D.exact in
          let l = D.least in
          let s : 2 ^ 48 ≡ k * k = ap (λ (z : ℕ). z * z) p in
          omega arith

  met : e ≤ 2 → (R + 1) / 2 ≡ k * 2 ^ 28
  met z =
      let x = D.exact in
      let f = D.from in
      let s = square_at k in
      let a = square_suc T in
      let hi : R ≤ T = root_le (M * 2 ^ 54) R T I.0 (omega arith) in
      let t = T - 1 in
      let i : suc t ≡ T = omega arith in
      let b : T * T ≡ t * t + t + suc t = ap (λ (y : ℕ). y * y) (sym i) ∙ square_suc t in
      let c : t * t ≤ M * 2 ^ 54 = ⊎_elim (λ (p : 2 ^ 24 < k). omega arith) (λ (p : 1 ≤ e). omega arith) least_or_more in
      let lo : t ≤ R = root_le (M * 2 ^ 54) t R c I.1 in
      omega arith

  between : 3 ≤ e → (k * 2 ^ 28 < (R + 1) / 2) × ((R + 1) / 2 < k * 2 ^ 28 + 2 ^ 28)
  between z =
      let x = D.exact in
      let l = D.small in
      let h = D.below in
      let s = square_at k in
      let a = square_suc T in
      let lo : suc T ≤ R = root_le (M * 2 ^ 54) (suc T) R (omega arith) I.1 in
      let n = suc k * 2 ^ 29 in
      let t = n - 2 in
      let i : suc (suc t) ≡ n = omega arith in
      let b : n * n ≡ suc t * suc t + suc t + suc (suc t) = ap (λ (y : ℕ). y * y) (sym i) ∙ square_suc (suc t) in
      let s' = square_at (suc k) in
      let k' = square_suc k in
      let hi : R ≤ t = root_le (M * 2 ^ 54) R t I.0 (omega arith) in
      (omega arith, omega arith)

  pub even_half : e ≤ 2 → closest k 2 ≡ closest ((R + 1) / 2) (2 ^ 29)
  even_half z = sym (ap (λ (y : ℕ). closest y (2 ^ 29)) (met z) ∙ closest_same (k * 2 ^ 28) (2 ^ 29) k 2 (lit< tt) (lit< tt) (omega arith))

  pub upper_half : 3 ≤ e → (k + 1) / 2 ≡ closest ((R + 1) / 2) (2 ^ 29)
  upper_half z =
      let b = between z in
      let H = (R + 1) / 2 in
      let i : H ≡ k * 2 ^ 28 + (H - k * 2 ^ 28) = omega arith in
      sym (ap (λ (y : ℕ). closest y (2 ^ 29)) i ∙ closest_half k (2 ^ 28) (H - k * 2 ^ 28) (omega arith) (λ (o : _). omega arith))

-- ---- as the program has them: the rest in units of the 25th digit

pub first : (M k y : ℕ) → k * 2 ^ 29 * (k * 2 ^ 29) + k * 2 ^ 29 * (k * 2 ^ 29) + y * 2 ^ 29 ≡ (M + 1) * 2 ^ 54 + (M + 1) * 2 ^ 54 → y < 4 * (k * 2 ^ 29) + 2 * 2 ^ 29 → 2 ^ 52 ≤ M → M + 1 < 2 ^ 54
    → (y ≡ (M + 1 - 16 * (k * k)) * 2 ^ 26) × First M k (M + 1 - 16 * (k * k))
first M k y x l m h =
    let s = square_at k in
    let e = M + 1 - 16 * (k * k) in
    let r : y ≡ e * 2 ^ 26 = omega arith in
    let d : M + 1 ≡ 16 * (k * k) + e = omega arith in
    let g : e < 32 * k + 16 = omega arith in
    (r, record { exact = d; small = g; least = m; from = le_of_suc-le-suc (lt_of_not-le (λ (n : suc k ≤ 2 ^ 24). low n d g)); below = lt_of_not-le (λ (n : 2 ^ 25 ≤ k). high n d) })
  where
    low : suc k ≤ 2 ^ 24 → M + 1 ≡ 16 * (k * k) + (M + 1 - 16 * (k * k)) → M + 1 - 16 * (k * k) < 32 * k + 16 → ⊥
    low n d g =
        let a = square_suc k in
        let b : suc k * suc k ≤ 2 ^ 48 = mul-le-mul n n in
        omega arith

    high : 2 ^ 25 ≤ k → M + 1 ≡ 16 * (k * k) + (M + 1 - 16 * (k * k)) → ⊥
    high n d =
        let b : 2 ^ 50 ≤ k * k = mul-le-mul n n in
        omega arith

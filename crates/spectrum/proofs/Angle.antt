-- The angles of a bin's places. Each place is k places on from the one before, around the turn; and a quarter of the turn is n / 4 places. Assumes nothing.
use Rattle.std.proofs.Common.{◌≡◌, ℕ, zero, suc, ◌+◌, ◌*◌, ◌/◌, ◌%◌, ◌<◌, ◌≤◌, true, sym, ap, ◌∙◌, subst, mod-lt, mod-eq_of_lt, mul_assoc, add-mul, add_comm, mul-lt-mul_of_pos_right, mul-zero, div-add-mod', zero-mul, mul-one, mul-add, mul_left_comm, arith}
use native.Mathlib.Nat.{zero-mod, zero-div, mod-add-mod, add-mul-mod_self_right}
use native.Mathlib.Nat.{mul-div_right}
use Rattle.quarter.specs.Turn.{sine_of, cosine_of}
use Rattle.spectrum.specs.Grid.{on_grid}
use Rattle.spectrum.specs.Bin.{step_of, angle_of}
use Rattle.spectrum.specs.Sines.{sine_at}
use Rattle.spectrum.proofs.Grid.{grid_whole, grid_eights}

-- a remainder, scaled: both numbers times q
scaled_mod : (m n q : ℕ) → 0 < n → 0 < q → (m % n) * q ≡ (m * q) % (n * q)
scaled_mod m n q hn hq =
    sym (mod-eq_of_lt (mul-lt-mul_of_pos_right (mod-lt m hn) hq))
    ∙ sym (add-mul-mod_self_right (m % n * q) (m / n) (n * q))
    ∙ ap (λ (x : ℕ). x % (n * q))
    (ap (λ (x : ℕ). m % n * q + x) (sym (mul_assoc (m / n) n q))
    ∙ sym (add-mul (m % n) (m / n * n) q)
    ∙ ap (λ (x : ℕ). x * q) (add_comm (m % n) (m / n * n) ∙ div-add-mod' m n))

factor_pos : (n q : ℕ) → n * q ≡ 4096 → 0 < q
factor_pos n q e = go q e
  where
    go : (q : ℕ) → n * q ≡ 4096 → 0 < q
    go zero e = absurd (let z : n * 0 ≡ 0 = mul-zero n in omega arith)
    go (suc q) e = omega arith

module _ (n : ℕ) (g : on_grid n ≡ true) (h : 0 < n) where
  -- each place of the n is 4096 / n steps
  pub step_is : (j : ℕ) → step_of n j ≡ j * (4096 / n)
  unfolding step_of
  step_is j =
      ap (λ (x : ℕ). j * x / n) (sym (grid_whole g h)) ∙ ap (λ (x : ℕ). x / n) (mul_left_comm j n (4096 / n)) ∙ mul-div_right (j * (4096 / n)) h

  q_pos : 0 < 4096 / n
  q_pos = factor_pos n (4096 / n) (grid_whole g h)

  -- a place around the turn, in steps
  around : (m : ℕ) → step_of n (m % n) ≡ m * (4096 / n) % 4096
  around m = step_is (m % n) ∙ scaled_mod m n (4096 / n) h q_pos ∙ ap (λ (x : ℕ). m * (4096 / n) % x) (grid_whole g h)

  pub step_lt : {j : ℕ} → j < n → j * (4096 / n) < 4096
  step_lt {j} l = subst (λ (x : ℕ). j * (4096 / n) < x) (grid_whole g h) (mul-lt-mul_of_pos_right l q_pos)

  pub angle_next : (k i : ℕ) → angle_of n k (i + 1) ≡ (angle_of n k i + k * (4096 / n)) % 4096
  unfolding angle_of
  angle_next k i =
      let q = 4096 / n in
      around (k * (i + 1))
      ∙ ap (λ (x : ℕ). x * q % 4096) (mul-add k i 1 ∙ ap (λ (x : ℕ). k * i + x) (mul-one k))
      ∙ ap (λ (x : ℕ). x % 4096) (add-mul (k * i) k q)
      ∙ sym (mod-add-mod (k * i * q) 4096 (k * q))
      ∙ ap (λ (x : ℕ). (x + k * q) % 4096) (sym (around (k * i)))

  -- the cosine of a place is the sine of the place a quarter of the n on
  pub quarter_on : 8 ≤ n → (j : ℕ) → cosine_of (step_of n j) ≡ sine_at n ((j + n / 4) % n)
  unfolding cosine_of sine_at
  quarter_on l j =
      let q = 4096 / n in
      let m = n / 4 in
      let e8 : n % 8 ≡ 0 = grid_eights g l in
      let e4 : n ≡ 4 * m = omega arith in
      let e : 4 * m * q ≡ 4096 = subst (λ (x : ℕ). x * q ≡ 4096) e4 (grid_whole g h) in
      let d : 4 * m * q ≡ 4 * (m * q) = mul_assoc 4 m q in
      let a : j * q + 1024 ≡ (j + m) * q = (let z : j * q + 1024 ≡ j * q + m * q = omega arith in z) ∙ sym (add-mul j m q) in
      ap (λ (s : ℕ). sine_of ((s + 1024) % 4096)) (step_is j) ∙ ap (λ (s : ℕ). sine_of (s % 4096)) a ∙ ap sine_of (sym (around (j + m)))

pub angle_first : (n k : ℕ) → angle_of n k 0 ≡ 0
unfolding angle_of step_of
angle_first n k = rw (mul-zero, zero-mod, zero-mul, zero-div)

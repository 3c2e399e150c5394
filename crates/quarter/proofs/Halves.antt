-- The sine on either half of the turn, by the place of the half turn folded into the quarter. Assumes nothing.
use mathlib.Core.Path.{◌≡◌, sym, ap, ◌∙◌}
use Prim.Native.Nat.{ℕ, ◌-◌, ◌/◌, ◌%◌, ◌<◌, ◌≤◌}
use native.Mathlib.Omega.{arith}
use native.Mathlib.Decide.{dec_le}
use lib.Ieee.{neg}
use borrow.Author.Tests.{le-leb, lt-leb}
use Rattle.quarter.specs.Wave.{t}
use Rattle.quarter.specs.Turn.{fraction, quadrant, folded, sine_of}

-- the sine in the quadrant q, at the step r of it
at_quadrant : (s q r : ℕ) → s / 1024 ≡ q → s % 1024 ≡ r → sine_of s ≡ quadrant q (fraction (t r)) (fraction (t (1024 - r)))
unfolding sine_of
at_quadrant s q r d m = rw (d, m)

up_to : (h : ℕ) → h ≤ 1024 → folded h ≡ h
up_to h l = rw (le-leb h 1024 l)

past : (h : ℕ) → 1024 ≤ h → folded h ≡ 2048 - h
past h l = elim (dec_le h 1024) [
  | yes e ↦ up_to h e ∙ (let z : h ≡ 2048 - h = omega arith in z)
  | no n ↦ rw (lt-leb h 1024 (omega arith))
]

-- the first half of the turn, quadrants 0 and 1, and the second, 2 and 3
pub first_half : (s : ℕ) → s < 2048 → fraction (t (folded s)) ≡ sine_of s
unfolding quadrant
first_half s h = elim (dec_le 1024 s) [
  | yes l ↦
      sym (at_quadrant s 1 (s - 1024) (omega arith) (omega arith)
      ∙ ap (λ (j : ℕ). fraction (t j)) (let z : 1024 - (s - 1024) ≡ 2048 - s = omega arith in z ∙ sym (past s l)))
  | no n ↦
      sym (at_quadrant s 0 s (omega arith) (omega arith) ∙ ap (λ (j : ℕ). fraction (t j)) (sym (up_to s (omega arith))))
]

pub second_half : (s : ℕ) → 2048 ≤ s → s < 4096 → neg (fraction (t (folded (s - 2048)))) ≡ sine_of s
unfolding quadrant
second_half s m h = elim (dec_le 3072 s) [
  | yes l ↦
      sym (at_quadrant s 3 (s - 3072) (omega arith) (omega arith)
      ∙ ap (λ (j : ℕ). neg (fraction (t j))) (let z : 1024 - (s - 3072) ≡ 2048 - (s - 2048) = omega arith in z ∙ sym (past (s - 2048) (omega arith))))
  | no n ↦
      sym (at_quadrant s 2 (s - 2048) (omega arith) (omega arith)
      ∙ ap (λ (j : ℕ). neg (fraction (t j))) (sym (up_to (s - 2048) (omega arith))))
]

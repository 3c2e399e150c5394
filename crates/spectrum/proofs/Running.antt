-- A bin underway over the lent sines, and one turn of its walk: one law for each of the four. Assumes nothing.
use Rattle.std.proofs.Common.{◌≡◌, ℕ, ◌+◌, ◌-◌, ◌*◌, ◌/◌, ◌%◌, ◌<◌, ◌≤◌, true, List, length, get_or, sym, refl, ap, ◌∙◌, subst, mod-lt, mul-zero, mul-one, mul-add, add-one, arith}
use native.Mathlib.Nat.{zero-mod, mod-add-mod}
use lib.Bits.{bit_and, and_mask}
use lib.Ieee.{Float, nan}
use Rattle.laws.specs.Filled.{filled}
use Rattle.laws.proofs.Filling.{filled_length, filled_at, filled_next}
use Rattle.quarter.specs.Turn.{sine_of, cosine_of}
use Rattle.spectrum.specs.declared.parts.Sums.{Sums}
use Rattle.spectrum.specs.declared.several.Running.{Running}
use Rattle.spectrum.specs.declared.several.Four.{Four}
use Rattle.spectrum.specs.Grid.{on_grid}
use Rattle.spectrum.specs.Bin.{step_of, angle_of, turned, sums_to, sums_of, size_of, magnitude_of}
use Rattle.spectrum.specs.Spectrum.{halved, bin_of}
use Rattle.spectrum.specs.Sines.{sine_at, Sines}
use Rattle.spectrum.specs.Running.{running, stepped, stored, stored_four}
use Rattle.spectrum.proofs.Grid.{power, grid_power}
use Rattle.spectrum.proofs.Angle.{quarter_on}

-- ---- the sines

-- where the first n places are filled with the sines, they hold them
pub sines_of : (n : ℕ) (w₀ w : List Float) → n ≤ length w₀ → w ≡ filled (sine_at n) n w₀ → Sines n w
sines_of n w₀ w h e = record {
  room = rw (e, filled_length (sine_at n) n w₀) h;
  at = λ j l. ap (λ (v : List Float). get_or v j nan) e ∙ filled_at (sine_at n) n w₀ nan j l (omega arith);
}

-- ---- a mask takes a place around the turn
pub mask_is : (n m : ℕ) → on_grid n ≡ true → 0 < n → bit_and m (n - 1) ≡ m % n
mask_is n m g h = subst (λ (x : ℕ). bit_and m (x - 1) ≡ m % x) (sym (grid_power g h)) (and_mask m (power n))

pub mask_lt : (n m : ℕ) → on_grid n ≡ true → 0 < n → bit_and m (n - 1) < n
mask_lt n m g h = rw (mask_is n m g h) (mod-lt m h)

-- ---- one sample more

-- the code's turn, which reads the sine and the cosine from the list, is the definition's
pub step_is : (n : ℕ) (w : List Float) (b : Running) (x : Float) (k : ℕ) (ahead next : ℕ) (r : Sums) → on_grid n ≡ true → 8 ≤ n → Sines n w → b.at < n
    → ahead ≡ (b.at + n / 4) % n → next ≡ (b.at + k) % n → r ≡ turned b.sums x (get_or w ahead nan) (get_or w b.at nan)
    → running r next ≡ stepped n b x k
unfolding stepped sine_at
step_is n w b x k ahead next r g l s h p q e =
    let pos : 0 < n = omega arith in
    let a = (b.at + n / 4) % n in
    let c : get_or w ahead nan ≡ cosine_of (step_of n b.at) =
    ap (λ (j : ℕ). get_or w j nan) p ∙ s.at a (mod-lt (b.at + n / 4) pos) ∙ sym (quarter_on n g pos l b.at) in
    let d : get_or w b.at nan ≡ sine_of (step_of n b.at) = s.at b.at h in
    rw (q, e, c, d)

-- bin k when the first i samples are in its sums
abbrev pub running_to : List Float → ℕ → ℕ → Running
running_to xs k i = running (sums_to xs k i) (k * i % length xs)

pub running_none : (xs : List Float) (k : ℕ) (b : Running) → b ≡ running (sums_to xs k 0) 0 → b ≡ running_to xs k 0
running_none xs k b e = e ∙ ap (λ (j : ℕ). running (sums_to xs k 0) j) (sym (ap (λ (m : ℕ). m % length xs) (mul-zero k) ∙ zero-mod (length xs)))

on_one : (n k i : ℕ) → (k * i % n + k) % n ≡ k * (i + 1) % n
on_one n k i = mod-add-mod (k * i) n k ∙ ap (λ (m : ℕ). m % n) (sym (mul-add k i 1 ∙ ap (λ (m : ℕ). k * i + m) (mul-one k)))

turned_on : (xs : List Float) (k i : ℕ) → stepped (length xs) (running_to xs k i) (get_or xs i nan) k ≡ running_to xs k (i + 1)
unfolding stepped sums_to angle_of
turned_on xs k i =
    ap (λ (j : ℕ). running (turned (sums_to xs k i) (get_or xs i nan) (cosine_of (step_of (length xs) (k * i % length xs))) (sine_of (step_of (length xs) (k * i % length xs)))) j) (on_one (length xs) k i)
    ∙ ap (λ (m : ℕ). running (sums_to xs k m) (k * (i + 1) % length xs)) (sym (add-one i))

pub running_next : (xs : List Float) (k i : ℕ) {b r : Running} {x : Float} → b ≡ running_to xs k i → x ≡ get_or xs i nan
    → r ≡ stepped (length xs) b x k → r ≡ running_to xs k (i + 1)
running_next xs k i e f d = d ∙ rw (e, f) (turned_on xs k i)

pub running_at : (xs : List Float) (k i : ℕ) {b : Running} → b ≡ running_to xs k i → 0 < length xs → b.at < length xs
running_at xs k i e h = rw e (mod-lt (k * i) h)

pub running_all : (xs : List Float) (k i : ℕ) {b : Running} → b ≡ running_to xs k i → i ≡ length xs → b.sums ≡ sums_of xs k
unfolding sums_of
running_all xs k i e f = rw e (ap (sums_to xs k) f)

-- ---- the stores

-- one bin more in its place
stored_next : (xs out o : List Float) (k m : ℕ) (s : Sums) → k + 1 ≡ m → k < length out → s ≡ sums_of xs k → o ≡ filled (bin_of xs) k out
    → stored o k s (length xs) ≡ filled (bin_of xs) m out
unfolding stored bin_of magnitude_of
stored_next xs out o k m s e h p q =
    filled_next (bin_of xs) k out o (halved k (size_of s (length xs))) h (ap (λ (z : Sums). halved k (size_of z (length xs))) p) q
    ∙ ap (λ (j : ℕ). filled (bin_of xs) j out) e

pub four_more : (xs out o : List Float) (k : ℕ) (r : Four) → k + 3 < length out
    → (r.first ≡ sums_of xs k) × (r.second ≡ sums_of xs (k + 1)) × (r.third ≡ sums_of xs (k + 2)) × (r.fourth ≡ sums_of xs (k + 3))
    → o ≡ filled (bin_of xs) k out → stored_four o k r (length xs) ≡ filled (bin_of xs) (k + 4) out
unfolding stored_four
four_more xs out o k r h p q =
    stored_next xs out _ (k + 3) (k + 4) r.fourth (omega arith) h p.3
    (stored_next xs out _ (k + 2) (k + 3) r.third (omega arith) (omega arith) p.2
    (stored_next xs out _ (k + 1) (k + 2) r.second (omega arith) (omega arith) p.1
    (stored_next xs out o k (k + 1) r.first refl (omega arith) p.0 q)))

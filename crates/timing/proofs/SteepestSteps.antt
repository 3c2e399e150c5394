-- What the proof of `timing::parts::steepest` counts with. Assumes nothing.
use Rattle.std.proofs.Common.{◌≡◌, ℕ, ◌+◌, ◌-◌, ◌<◌, ◌≤◌, true, not, T, List, length, get_or, sym, refl, ap, ◌∙◌, subst, arith}
use lib.Ieee.{Float, nan, binary32, is_nan, sub, div}
use Rattle.laws.specs.Literals.{zero32}
use Rattle.laws.specs.Samples.{higher, unsigned}
use Rattle.laws.specs.Walks.{pairs}
use Rattle.laws.proofs.Turn.{pairs_next}
use Rattle.timing.specs.Timing.{slew_at}
use Rattle.timing.specs.Steps.{step_at, NextAbove}
use Rattle.timing.proofs.Steepness.{Covered, covered_step, above_number, unchanged}

-- what is known where the search stands at i
pub record Known (dt : Float) (xs : List Float) (m : Float) (i : ℕ) : Type 0 where
  pub from : 1 ≤ i
  pub inside : i - 1 ≤ length xs - 1
  pub largest : m ≡ pairs (slew_at dt) zero32 xs (i - 1)
  pub sign : T (unsigned m)
  pub number : i < length xs → T (not (is_nan (step_at xs i)))

-- after a search from a place on
pub known : (dt : Float) (xs : List Float) (m w : Float) (from r : ℕ) → Covered dt m w → 1 ≤ from → m ≡ pairs (slew_at dt) zero32 xs (from - 1) → NextAbove xs w from r → Known dt xs m r
known dt xs m w from r v l e n =
    record { from = omega (arith, n.reached); inside = n.inside; largest = unchanged dt m w xs from r v l n e; sign = v.sign; number = λ h. above_number w _ (n.found h) }

-- one turn: the step to i, the larger of m and its slew rate, and the next search
pub turned : (dt : Float) (xs : List Float) (m w m' : Float) (i r : ℕ) → unsigned dt ≡ true → Known dt xs m i → i < length xs → w ≡ step_at xs i → m' ≡ higher m (div binary32 w dt)
    → NextAbove xs w (i + 1) r
    → Known dt xs m' r
unfolding slew_at
turned dt xs m w m' i r D k h e q n =
    subst (λ (x : Float). Known dt xs x r) (ap (λ (x : Float). higher m (div binary32 x dt)) (sym e) ∙ sym q)
    (known dt xs (higher m (div binary32 (step_at xs i) dt)) (step_at xs i) (i + 1) r
    (covered_step dt D m (sub binary32 (get_or xs i nan) (get_or xs (i - 1) nan)) k.sign (k.number h))
    (omega arith) (pairs_next (slew_at dt) zero32 xs i k.from k.largest refl refl) (subst (λ (x : Float). NextAbove xs x (i + 1) r) e n))

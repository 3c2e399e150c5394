-- Each number of 01's table is given exactly when the table says: of any two slices one of the three premises holds, and no two of them hold together.
-- A refusal has no record; the zeros that C is shown for it are crossing's `coded_power`. Assumes nothing.
use Rattle.std.proofs.Common.{◌≡◌, ℕ, ◌<◌, ◌≤◌, Bool, true, false, not, eqb, ◌⊎◌, List, length, Ok, Err, sym, refl, ap, inl, inr, arith, ltb-false, le-ltb, lt-ltb, eq-eqb, ne_eqb, eqb-true}
use lib.Ieee.{Float}
use Rattle.answers.specs.declared.Refusal.{Refusal}
use Rattle.answers.specs.declared.Refusal.TheVariants.{LengthsDiffer, TooLong}
use Rattle.answers.specs.Numbers.{number_of, done, longest, too_long, refuse}
use Rattle.answers.proofs.Ended.{given_refused}
use Rattle.power.specs.declared.Power.{Power}
use Rattle.power.specs.Power.{capture_sums, record_of, zero_power, power_of, outcome_of, answer_of}

-- ---- how a call with n volts and m amps ends
pub long_volts : (n m : ℕ) → longest < n → outcome_of n m ≡ Err TooLong
unfolding outcome_of
long_volts n m h = rw (lt-ltb longest n h)

pub long_amps : (n m : ℕ) → longest < m → outcome_of n m ≡ Err TooLong
unfolding outcome_of
long_amps n m h = rw (lt-ltb longest m h) (either (too_long n))
  where
    either : (b : Bool) → refuse b TooLong (Err TooLong) ≡ Err TooLong
    either true = refl
    either false = refl

pub differing : (n m : ℕ) → n ≤ longest → m ≤ longest → (n ≡ m → ⊥) → outcome_of n m ≡ Err LengthsDiffer
unfolding outcome_of
differing n m a b d = simp (le-ltb _ _ a, le-ltb _ _ b, ne_eqb _ _ d)

pub taken : (n m : ℕ) → n ≤ longest → m ≤ longest → n ≡ m → outcome_of n m ≡ done
unfolding outcome_of
taken n m a b e = simp (le-ltb _ _ a, le-ltb _ _ b, eq-eqb _ _ e)

-- and where it is done
pub together : (n m : ℕ) (u : Unit {0}) → outcome_of n m ≡ Ok u → (n ≤ longest) × (n ≡ m)
unfolding outcome_of
together n m u e = go (too_long n) (too_long m) (eqb n m) refl refl (ap number_of e)
  where
    go : (a b c : Bool) → too_long n ≡ a → eqb n m ≡ c → number_of (refuse a TooLong (refuse b TooLong (refuse (not c) LengthsDiffer done))) ≡ 0 → (n ≤ longest) × (n ≡ m)
    go true b c p q e = absurd (omega arith)
    go false true c p q e = absurd (omega arith)
    go false false false p q e = absurd (omega arith)
    go false false true p q e = (ltb-false longest n p, eqb-true n m q)

-- ---- the record of no pairs, and of some
pub no_pairs : (v i : List Float) → length v ≡ 0 → power_of v i ≡ zero_power
unfolding power_of
no_pairs v i h = simp (eq-eqb _ _ h)

pub some_pairs : (v i : List Float) → (length v ≡ 0 → ⊥) → power_of v i ≡ record_of (capture_sums v i (length v))
unfolding power_of
some_pairs v i h = simp (ne_eqb _ _ h)

-- ---- what a call answers
module _ (v i : List Float) where
  pub refused : (r : Refusal) → outcome_of (length v) (length i) ≡ Err r → Err r ≡ answer_of v i
  unfolding answer_of
  refused r e = given_refused _ (power_of v i) r e

  pub measured : (u : Unit {0}) (w : Power) → outcome_of (length v) (length i) ≡ Ok u → w ≡ power_of v i → Ok w ≡ answer_of v i
  unfolding answer_of
  measured u w e h = rw (h, e) refl

pub record Refusals (v i : List Float) : Type 0 where
  pub too_long_lem : (longest < length v) ⊎ (longest < length i) → answer_of v i ≡ Err TooLong
  pub lengths_differ : length v ≤ longest → length i ≤ longest → (length v ≡ length i → ⊥) → answer_of v i ≡ Err LengthsDiffer
  pub done : length v ≤ longest → length i ≤ longest → length v ≡ length i → answer_of v i ≡ Ok (power_of v i)

pub refusals : (v i : List Float) → Refusals v i
refusals v i =
    record {
      too_long_lem = λ c. sym (refused v i TooLong (elim c [ inl h ↦ long_volts _ _ h | inr h ↦ long_amps _ _ h ]));
      lengths_differ = λ a b d. sym (refused v i LengthsDiffer (differing _ _ a b d));
      done = λ a b e. sym (measured v i tt (power_of v i) (taken _ _ a b e) refl);
    }

-- What samples that are no numbers do to a capture's answer: a NaN or an infinity at any place of the voltage or the current. Assumes nothing.
use Rattle.std.proofs.Common.{◌≡◌, ℕ, zero, suc, ◌<◌, ◌≤◌, Bool, true, false, not, ◌&&◌, T, List, length, get_or, Result, Ok, sym, refl, ap, ◌∙◌, subst, arith}
use native.Mathlib.Decide.{dec_le}
use lib.Ieee.{Float, nan, inf, binary64, is_nan, mul}
use lib.Ieee.Positive.{above}
use lib.Ieee.Scale.{finite}
use Rattle.laws.specs.Walks.{over}
use Rattle.laws.specs.Samples.{still_numbers, numbers_in, all_numbers}
use Rattle.laws.proofs.Zero.{Null}
use Rattle.answers.specs.declared.Refusal.{Refusal}
use Rattle.answers.specs.Numbers.{longest}
use Rattle.power.specs.declared.Power.{Power}
use Rattle.power.specs.Power.{sum_to, capture_sums, record_of, nan_power, answer_of}
use Rattle.power.proofs.Infinite.{beside_inf, beside_nan, rms_of, sum_beyond, voltage_inf, voltage_alone, current_inf, current_alone, rms_inf}
use Rattle.power.proofs.NotNumbers.{nan_voltage, nan_current}
use Rattle.power.proofs.OneInfinity.{Finite, FiniteBut, sum_one, one_numbers}
use Rattle.power.proofs.Refusals.{refusals, some_pairs}

-- a NaN at the place j is found
module _ (xs : List Float) (j : ℕ) (e : get_or xs j nan ≡ nan) where
  by_then : (n : ℕ) → j < n → over still_numbers true xs n ≡ false
  unfolding over still_numbers is_nan
  by_then zero h = absurd (never j h)
    where
      never : (i : ℕ) → i < 0 → ⊥
      never i h = omega arith
  by_then (suc n) h =
      elim (dec_le n j) [
        | yes l ↦
            let m : n ≡ j = omega arith in
            ap (λ (x : Float). over still_numbers true xs n && not (is_nan x)) (ap (λ (i : ℕ). get_or xs i nan) m ∙ e) ∙ none (over still_numbers true xs n)
        | no l ↦ ap (λ (b : Bool). b && not (is_nan (get_or xs n nan))) (by_then n (omega arith))
      ]
    where
      none : (b : Bool) → (b && false) ≡ false
      none true = refl
      none false = refl

  found : j < length xs → all_numbers xs ≡ false
  unfolding all_numbers numbers_in
  found h = by_then (length xs) h

-- the call is done, and answers w
abbrev did : Power → Result Power Refusal
did w = Ok w

-- a capture that is taken, of at least one pair
module _ (v i : List Float) (j : ℕ) (h : j < length v) (l : length v ≤ longest) (e : length v ≡ length i) where
  taken : (w : Power) → record_of (capture_sums v i (length v)) ≡ w → answer_of v i ≡ Ok w
  taken w r = (refusals v i).done l (subst (λ (n : ℕ). n ≤ longest) e l) e ∙ ap did (some_pairs v i (λ z. none (length v) h z) ∙ r)
    where
      none : (n : ℕ) → j < n → n ≡ 0 → ⊥
      none n h z = omega arith

  -- one NaN in the voltage, or in the current, at any place: the call is done, p and s are NaN, nonactive and pf are 0
  pub nan_in_voltage : get_or v j nan ≡ nan → answer_of v i ≡ Ok nan_power
  nan_in_voltage a = taken nan_power (nan_voltage v i (found v j a h))

  pub nan_in_current : get_or i j nan ≡ nan → answer_of v i ≡ Ok nan_power
  nan_in_current a = taken nan_power (nan_current v i e (found i j a (subst (λ (n : ℕ). j < n) e h)))

  -- an infinity in the voltage, at any place, and no NaN there: p is the sum of the products, which is not finite; where the root mean square of the current
  -- is above 0, s is infinite and pf a NaN; where it is 0, s is a NaN and pf 0; nonactive is 0 in either case
  module _ (b : Bool) (at : get_or v j nan ≡ inf b) (a : all_numbers v ≡ true) where
    voltage_beyond : finite (sum_to v i (length v)) ≡ false
    voltage_beyond = (sum_beyond v i j (ap finite at) (length v) h).0

    pub infinity_in_voltage : T (above (rms_of i (length v))) → answer_of v i ≡ Ok (beside_inf (sum_to v i (length v)))
    infinity_in_voltage t = taken _ (voltage_inf v i (length v) l voltage_beyond (rms_inf v j b a at h l) t)

    pub infinity_without_current : Null (rms_of i (length v)) → answer_of v i ≡ Ok (beside_nan (sum_to v i (length v)))
    infinity_without_current t = taken _ (voltage_alone v i (length v) l voltage_beyond (rms_inf v j b a at h l) t)

  -- and in the current
  module _ (b : Bool) (at : get_or i j nan ≡ inf b) (a : all_numbers i ≡ true) where
    current_beyond : finite (sum_to v i (length v)) ≡ false
    current_beyond = (sum_beyond i v j (ap finite at) (length v) h).1

    current_rms : rms_of i (length v) ≡ inf false
    current_rms = ap (rms_of i) e ∙ rms_inf i j b a at (subst (λ (n : ℕ). j < n) e h) (subst (λ (n : ℕ). n ≤ longest) e l)

    pub infinity_in_current : T (above (rms_of v (length v))) → answer_of v i ≡ Ok (beside_inf (sum_to v i (length v)))
    infinity_in_current t = taken _ (current_inf v i (length v) l current_beyond current_rms t)

    pub infinity_without_voltage : Null (rms_of v (length v)) → answer_of v i ≡ Ok (beside_nan (sum_to v i (length v)))
    infinity_without_voltage t = taken _ (current_alone v i (length v) l current_beyond current_rms t)

  -- one infinity, and every other sample finite: p is the product there, an infinity by the signs, and a NaN beside a 0
  module _ (b : Bool) (at : get_or v j nan ≡ inf b) (p : FiniteBut v j (length v)) (q : Finite i (length v)) where
    abbrev there : Float
    there = mul binary64 (inf b) (get_or i j nan)

    pub one_in_voltage : T (above (rms_of i (length v))) → answer_of v i ≡ Ok (beside_inf there)
    one_in_voltage t = infinity_in_voltage b at (one_numbers v i j b at p) t ∙ ap (λ (x : Float). did (beside_inf x)) (sum_one v i j b at (length v) l h p q).0

    pub one_without_current : Null (rms_of i (length v)) → answer_of v i ≡ Ok (beside_nan there)
    one_without_current t = infinity_without_current b at (one_numbers v i j b at p) t ∙ ap (λ (x : Float). did (beside_nan x)) (sum_one v i j b at (length v) l h p q).0

  module _ (b : Bool) (at : get_or i j nan ≡ inf b) (p : FiniteBut i j (length i)) (q : Finite v (length v)) where
    abbrev beside : Float
    beside = mul binary64 (get_or v j nan) (inf b)

    sum_there : sum_to v i (length v) ≡ beside
    sum_there = (sum_one i v j b at (length v) l h (subst (FiniteBut i j) (sym e) p) q).1

    pub one_in_current : T (above (rms_of v (length v))) → answer_of v i ≡ Ok (beside_inf beside)
    one_in_current t = infinity_in_current b at (one_numbers i v j b at p) t ∙ ap (λ (x : Float). did (beside_inf x)) sum_there

    pub one_without_voltage : Null (rms_of v (length v)) → answer_of v i ≡ Ok (beside_nan beside)
    one_without_voltage t = infinity_without_voltage b at (one_numbers i v j b at p) t ∙ ap (λ (x : Float). did (beside_nan x)) sum_there

-- What a sequence tells of how its calls ended: as the signal was made, since a setting of one that was made sees its edition and as many samples.
--     measured_told, powered_told        what `measured` and `powered` answer: how the signal was made, and what the last call says
--     told_as_made and the laws behind it          what specs/Told.antt claims
-- Assumes nothing.
use Rattle.std.specs.Prelude.{Option}
use mathlib.Core.Path.{◌≡◌, sym, ap, ◌∙◌}
use mathlib.Core.List.{List, []}
use Prim.Native.Nat.{ℕ}
use lib.Ieee.{Float}
use lib.ListN.{length}
use Rattle.answers.specs.Numbers.{Outcome}
use Rattle.answers.specs.Answers.{given}
use Rattle.answers.specs.Left.{Left, left, answered_as}
use Rattle.answers.specs.Numbers.{number_of}
use Rattle.answers.proofs.Ended.{if_not_zero, if_zero, ended_given, told_given, given_refused}
use Rattle.laws.specs.Literals.{zero32}
use Rattle.generator.specs.declared.Wave.{Wave}
use Rattle.signal.specs.declared.Metrics.{Metrics}
use Rattle.signal.specs.State.{zero_metrics}
use Rattle.signal.specs.Calls.{SignalLeft}
use Rattle.signal.specs.Sequence.{setting, duty}
use Rattle.signal.specs.Editions.{new_by, new_port_by, outcome_by, next_by}
use Rattle.signal.proofs.InEdition.{ends_new, ends_port, ends_set, named_new}
use Rattle.sequences.specs.Told.{with_voltage, metrics_in, port_power, measured_after, power_told, ToldAsMade, PowerAsMade}
use Rattle.sequences.specs.Told.{ToldDone, ToldRefused, PowerDone, PowerRefused, RefusalTold, RefusalOfPower, SetAfterMade}
use Rattle.sequences.proofs.Lengths.{new_length}

-- ---- `measured`

module _ (wave : Wave) (amplitude frequency : Float) (edition : ℕ) (cycle : Float) (xs : List Float) where
  abbrev first : SignalLeft
  first = new_by wave amplitude frequency edition xs

  abbrev last : SignalLeft
  last = next_by first (setting (duty cycle))

  pub measured_told : (o : Outcome) (m : Metrics) (ys : List Float) → o ≡ outcome_by edition (length xs) → left m ys ≡ answered_as metrics_in last
      → left (given o m) ys ≡ measured_after first (setting (duty cycle))
  measured_told o m ys ends read =
      ap (λ (t : Left Metrics (List Float)). left (given o t.answer) t.places) read
      ∙ ap (λ (u : Outcome). left (given u (metrics_in last.answer)) last.places) (ends ∙ sym (ends_new wave amplitude frequency edition xs))

-- ---- `powered`

module _ (voltage current : Float) (frequency : Option Float) (edition : ℕ) (next : Float) (xs : List Float) where
  abbrev set : SignalLeft
  set = with_voltage next (new_port_by voltage current frequency edition xs)

  pub powered_told : (o : Outcome) (w : Float) (ys : List Float) → o ≡ outcome_by edition (length xs) → left w ys ≡ answered_as port_power set
      → left (given o w) ys ≡ answered_as power_told set
  powered_told o w ys ends read =
      ap (λ (t : Left Float (List Float)). left (given o t.answer) t.places) read
      ∙ ap (λ (u : Outcome). left (given u (port_power set.answer)) set.places) (ends ∙ sym (ends_port voltage current frequency edition xs))

-- ---- what is claimed

pub told_as_made : ToldAsMade
told_as_made wave amplitude frequency edition xs c = ended_given _ _ ∙ ends_new wave amplitude frequency edition xs

pub power_as_made : PowerAsMade
power_as_made voltage current frequency edition v xs = ended_given _ _ ∙ ends_port voltage current frequency edition xs

pub told_done : ToldDone
told_done wave amplitude frequency edition xs c z =
    told_given zero_metrics (new_by wave amplitude frequency edition xs).answer.outcome _ ∙ if_zero (new_by wave amplitude frequency edition xs).answer.outcome _ _ (ap number_of (ends_new wave amplitude frequency edition xs) ∙ z)

pub told_refused : ToldRefused
told_refused wave amplitude frequency edition xs c n =
    told_given zero_metrics (new_by wave amplitude frequency edition xs).answer.outcome _ ∙ if_not_zero (new_by wave amplitude frequency edition xs).answer.outcome _ _ (λ e. n (sym (ap number_of (ends_new wave amplitude frequency edition xs)) ∙ e))

pub power_done : PowerDone
power_done voltage current frequency edition v xs z =
    told_given zero32 (new_port_by voltage current frequency edition xs).answer.outcome _ ∙ if_zero (new_port_by voltage current frequency edition xs).answer.outcome _ _ (ap number_of (ends_port voltage current frequency edition xs) ∙ z)

pub power_refused : PowerRefused
power_refused voltage current frequency edition v xs n =
    told_given zero32 (new_port_by voltage current frequency edition xs).answer.outcome _ ∙ if_not_zero (new_port_by voltage current frequency edition xs).answer.outcome _ _ (λ e. n (sym (ap number_of (ends_port voltage current frequency edition xs)) ∙ e))

pub refusal_told : RefusalTold
refusal_told wave amplitude frequency edition xs c r e = sym (given_refused _ _ r (ends_new wave amplitude frequency edition xs ∙ e))

pub refusal_of_power : RefusalOfPower
refusal_of_power voltage current frequency edition v xs r e = sym (given_refused _ _ r (ends_port voltage current frequency edition xs ∙ e))

pub set_after_made : SetAfterMade
set_after_made wave amplitude frequency edition xs c z =
    let l = new_by wave amplitude frequency edition xs in
    let same = named_new wave amplitude frequency edition xs [] z in
    ap number_of (ends_set l c) ∙ ap (λ (e : ℕ). number_of (outcome_by e (length l.places))) same
    ∙ ap (λ (n : ℕ). number_of (outcome_by edition n)) (new_length wave amplitude frequency edition xs)
    ∙ (sym (ap number_of (ends_new wave amplitude frequency edition xs)) ∙ z)

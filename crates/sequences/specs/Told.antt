-- What a sequence that ends in a reading hands out, and a setting of the port on what the calls before left. Definitions only.
use Rattle.std.specs.Prelude.{ℕ, ◌≡◌, List, length, Float, Option, Result, Err}
use Rattle.answers.specs.Numbers.{Outcome}
use Rattle.answers.specs.declared.Refusal.{Refusal}
use Rattle.answers.specs.Answers.{given, ended, told}
use Rattle.laws.specs.Literals.{zero32}
use Rattle.answers.specs.Numbers.{number_of}
use Rattle.generator.specs.declared.Wave.{Wave}
use Rattle.signal.specs.declared.Answer.{Answer}
use Rattle.signal.specs.declared.Metrics.{Metrics}
use Rattle.signal.specs.State.{metrics_of, zero_metrics}
use Rattle.answers.specs.Left.{Left, left, answered_as}
use Rattle.signal.specs.Calls.{SignalLeft}
use Rattle.signal.specs.Sequence.{Setting, Later, setting}
use Rattle.signal.specs.Editions.{new_by, new_port_by, outcome_by, next_by}
use Rattle.port.specs.Fields.{put, number, at_voltage}
use Rattle.port.specs.Readings.{instantaneous_power}
use Rattle.held.specs.Held.{swapped}

-- the samples and all but the port's voltage stay; a setting of the port is not refused, and the outcome is that of the call before
abbrev pub with_voltage : Float → SignalLeft → SignalLeft
with_voltage v l = left (swapped l.answer (put l.answer.state.port at_voltage (number v))) l.places

-- ---- what the last call says of the state, whether the calls before were refused or not

-- 01, item 10, `get_metrics`
abbrev pub metrics_in : Answer → Metrics
metrics_in a = metrics_of a.state

-- 01, item 9, `instantaneous_power`: of the state's port
abbrev pub port_power : Answer → Float
port_power a = instantaneous_power a.state.port

-- ---- what the sequence answers

-- how the signal was made, and what the last call says of it. Where it was refused a setting behind it would say 9, of the zero state's edition
abbrev pub metrics_told : Outcome → Answer → Result Metrics Refusal
metrics_told o a = given o (metrics_in a)

abbrev pub measured_after : SignalLeft → Later → Left (Result Metrics Refusal) (List Float)
measured_after signal c = answered_as (metrics_told signal.answer.outcome) (next_by signal c)

-- a setting of the port is not refused
abbrev pub power_told : Answer → Result Float Refusal
power_told a = given a.outcome (port_power a)

-- ---- what is claimed of these; each is proved in proofs/Endings.antt

-- what is told of a wave, and of a port, is how it was made: 9, 3, 4 or done (`told_as_made`, `power_as_made`)
abbrev pub ToldAsMade : Type 0
ToldAsMade =
    (wave : Wave) (amplitude frequency : Float) (edition : ℕ) (xs : List Float) (c : Later)
    → ended (measured_after (new_by wave amplitude frequency edition xs) c).answer ≡ outcome_by edition (length xs)

abbrev pub PowerAsMade : Type 0
PowerAsMade =
    (voltage current : Float) (frequency : Option Float) (edition : ℕ) (v : Float) (xs : List Float)
    → ended (power_told (with_voltage v (new_port_by voltage current frequency edition xs)).answer) ≡ outcome_by edition (length xs)

-- and beside it what the last call says where it was made (`told_done`, `power_done`), and zero is told where it was refused (`told_refused`, `power_refused`)
abbrev pub ToldDone : Type 0
ToldDone =
    (wave : Wave) (amplitude frequency : Float) (edition : ℕ) (xs : List Float) (c : Later) → number_of (outcome_by edition (length xs)) ≡ 0
    → told zero_metrics (measured_after (new_by wave amplitude frequency edition xs) c).answer ≡ metrics_of (next_by (new_by wave amplitude frequency edition xs) c).answer.state

abbrev pub ToldRefused : Type 0
ToldRefused =
    (wave : Wave) (amplitude frequency : Float) (edition : ℕ) (xs : List Float) (c : Later) → (number_of (outcome_by edition (length xs)) ≡ 0 → ⊥)
    → told zero_metrics (measured_after (new_by wave amplitude frequency edition xs) c).answer ≡ zero_metrics

abbrev pub PowerDone : Type 0
PowerDone =
    (voltage current : Float) (frequency : Option Float) (edition : ℕ) (v : Float) (xs : List Float) → number_of (outcome_by edition (length xs)) ≡ 0
    → told zero32 (power_told (with_voltage v (new_port_by voltage current frequency edition xs)).answer)
    ≡ instantaneous_power (with_voltage v (new_port_by voltage current frequency edition xs)).answer.state.port

abbrev pub PowerRefused : Type 0
PowerRefused =
    (voltage current : Float) (frequency : Option Float) (edition : ℕ) (v : Float) (xs : List Float) → (number_of (outcome_by edition (length xs)) ≡ 0 → ⊥)
    → told zero32 (power_told (with_voltage v (new_port_by voltage current frequency edition xs)).answer) ≡ zero32

-- where it was refused, that refusal is what is answered (`refusal_told`, `refusal_of_power`)
abbrev pub RefusalTold : Type 0
RefusalTold =
    (wave : Wave) (amplitude frequency : Float) (edition : ℕ) (xs : List Float) (c : Later) (r : Refusal) → outcome_by edition (length xs) ≡ Err r
    → (measured_after (new_by wave amplitude frequency edition xs) c).answer ≡ Err r

abbrev pub RefusalOfPower : Type 0
RefusalOfPower =
    (voltage current : Float) (frequency : Option Float) (edition : ℕ) (v : Float) (xs : List Float) (r : Refusal) → outcome_by edition (length xs) ≡ Err r
    → power_told (with_voltage v (new_port_by voltage current frequency edition xs)).answer ≡ Err r

-- a setting of a signal that was made is not refused (`set_after_made`)
abbrev pub SetAfterMade : Type 0
SetAfterMade =
    (wave : Wave) (amplitude frequency : Float) (edition : ℕ) (xs : List Float) (c : Setting) → number_of (new_by wave amplitude frequency edition xs).answer.outcome ≡ 0
    → number_of (next_by (new_by wave amplitude frequency edition xs) (setting c)).answer.outcome ≡ 0

-- What a held signal keeps through every call on it (02, e). Definitions only; the claims are proved in proofs/Kept.antt.
use Rattle.std.specs.Prelude.{ℕ, ◌≡◌, List, [], ◌∷◌, Float, Option}
use denote.Ref.{MutBor}
use Rattle.answers.specs.Left.{left}
use Rattle.answers.specs.Numbers.{number_of}
use Rattle.generator.specs.declared.Wave.{Wave}
use Rattle.port.specs.declared.Port.{Port}
use Rattle.port.specs.Fields.{Cell, put}
use Rattle.signal.specs.Calls.{reset_of}
use Rattle.signal.specs.Sequence.{Later, setting, reset, phase, duty}
use Rattle.signal.specs.Editions.{new_by, new_port_by, edition_in, phase_by, duty_by, next_by}
use Rattle.held.specs.declared.Signal.{Signal}
use Rattle.held.specs.Held.{beside, after, with_port, with_field}

-- what a call does to a held signal: a setting or a reset of the wave, or another port in the place of its own, as every setting of a reading and
-- `reset_power_params` has it. The other calls read
pub data Call : Type 0 where
  wave : Later → Call
  port : Port → Call

abbrev pub called : Signal → Call → Signal
called s (wave c) = after s (next_by (left s.answer s.samples.now) c)
called s (port p) = with_port s p

abbrev pub all_called : Signal → List Call → Signal
all_called s [] = s
all_called s (c ∷ cs) = all_called (called s c) cs

-- these are what the contracts say of `set_phase`, `set_duty_cycle`, `reset_waveform`, of another port, and of a field of it that is set; where two or four are
-- set, that comes as often (`as_contracts`)
pub record AsContracts (s : Signal) : Type 0 where
  pub phased : (p : Float) → called s (wave (setting (phase p))) ≡ after s (phase_by s.answer.state p s.samples.now)
  pub dutied : (d : Float) → called s (wave (setting (duty d))) ≡ after s (duty_by s.answer.state d s.samples.now)
  pub emptied : called s (wave reset) ≡ after s (reset_of s.answer.state s.samples.now)
  pub ported : (p : Port) → called s (port p) ≡ with_port s p
  pub fielded : (i : ℕ) (x : Cell) → called s (port (put s.answer.state.port i x)) ≡ with_field s i x

-- the number that the record of `get_metrics` carries
abbrev pub edition_held : Signal → ℕ
edition_held s = edition_in s.answer.state

-- "the signal keeps it through every reset": after any run of calls it is the one before them (`edition_held_lem`)
abbrev pub EditionHeld : Type 0
EditionHeld = (s : Signal) (cs : List Call) → edition_held (all_called s cs) ≡ edition_held s

-- and so, of a signal that was made, the one that was named (`named_held`, `named_port_held`)
abbrev pub NamedHeld : Type 0
NamedHeld =
    (x : MutBor (List Float)) (kind : Wave) (amplitude frequency : Float) (edition : ℕ) (cs : List Call)
    → number_of (new_by kind amplitude frequency edition x.now).answer.outcome ≡ 0
    → edition_held (all_called (beside x (new_by kind amplitude frequency edition x.now)) cs) ≡ edition

abbrev pub NamedPortHeld : Type 0
NamedPortHeld =
    (x : MutBor (List Float)) (voltage current : Float) (frequency : Option Float) (edition : ℕ) (cs : List Call)
    → number_of (new_port_by voltage current frequency edition x.now).answer.outcome ≡ 0
    → edition_held (all_called (beside x (new_port_by voltage current frequency edition x.now)) cs) ≡ edition

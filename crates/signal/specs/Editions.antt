-- The calls by the edition's number: 9 first, and else the call over the edition's highest order. 02, e: "Demand 2 speaks of edition 1, edition 2 follows the
-- same rule with 40". The contracts cite these. Definitions only.
use Rattle.std.specs.Prelude.{Err, ℕ, false, List, [], ◌∷◌, Float, Option}
use Rattle.answers.specs.Numbers.{Outcome}
use Rattle.answers.specs.declared.Refusal.TheVariants.{UnknownEdition}
use Rattle.answers.specs.Left.{left}
use Rattle.laws.specs.Literals.{zero32}
use Rattle.generator.specs.declared.Wave.{Wave}
use Rattle.generator.specs.declared.Wave.TheVariants.{DC}
use Rattle.spectrum.specs.Spectrum.{outcome_of}
use Rattle.distortion.specs.Editions.{by_edition}
use Rattle.signal.specs.declared.State.{State}
use Rattle.signal.specs.State.{zero_state, fresh, with_phase, with_duty, metrics_of}
use Rattle.signal.specs.Calls.{SignalLeft, answer, remade, ported, reset_of}
use Rattle.signal.specs.Sequence.{Later, setting, reset, phase, duty}

-- 02, e, "Refusals: 9, edition named or held by the state neither 1 nor 2, where THD is worked out, before all others": the earlier state comes back, and
-- "Nothing but 0 writes to what was lent" (01)
unfoldable pub remade_by : ℕ → State → State → List Float → SignalLeft
remade_by edition earlier next xs = by_edition edition (λ (top : ℕ). remade top earlier next xs) (left (answer (Err UnknownEdition) earlier) xs)

-- `new`: "the caller names the edition where the signal is made"; where refused, the zero state, whose edition is 0
abbrev pub new_by : Wave → Float → Float → ℕ → List Float → SignalLeft
new_by wave amplitude frequency edition xs = remade_by edition zero_state (fresh wave amplitude frequency edition) xs

abbrev pub new_port_by : Float → Float → Option Float → ℕ → List Float → SignalLeft
new_port_by voltage current frequency edition xs = ported voltage current frequency (new_by DC voltage zero32 edition xs)

-- the edition that a state holds
abbrev pub edition_in : State → ℕ
edition_in s = (metrics_of s).edition

-- `set_phase` and `set_duty_cycle`, in that edition
abbrev pub phase_by : State → Float → List Float → SignalLeft
phase_by s p xs = remade_by (edition_in s) s (with_phase s p) xs

abbrev pub duty_by : State → Float → List Float → SignalLeft
duty_by s d xs = remade_by (edition_in s) s (with_duty s d) xs

-- how such a call ends: 9 "before all others", and then 3 and 4 (01), by the number of samples
abbrev pub outcome_by : ℕ → ℕ → Outcome
outcome_by edition n = by_edition edition (λ (top : ℕ). outcome_of n false) (Err UnknownEdition)

-- ---- later calls in a row; `reset_waveform` works out no THD and knows no 9

abbrev pub next_by : SignalLeft → Later → SignalLeft
next_by l (setting (phase p)) = phase_by l.answer.state p l.places
next_by l (setting (duty d)) = duty_by l.answer.state d l.places
next_by l reset = reset_of l.answer.state l.places

abbrev pub run_by : SignalLeft → List Later → SignalLeft
run_by l [] = l
run_by l (c ∷ cs) = run_by (next_by l c) cs

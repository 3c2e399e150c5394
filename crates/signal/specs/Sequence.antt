-- Later calls, one after another, each on what the call before left behind. 01, 'How much a contract has to say', what must not pass: "a `Signal` right at
-- `new` that only pretends at later settings (demand 2, call by call)". The calls are those over any highest order; by the edition's number they stand in
-- Editions.antt, and are these where it is known (`KnownRun`, InEdition.antt). Definitions only.
use Rattle.std.specs.Prelude.{ℕ, ◌≡◌, ◌⊎◌, true, false, List, [], ◌∷◌, length, Float, Some}
use Rattle.answers.specs.Numbers.{too_long}
use Rattle.laws.specs.Literals.{zero32}
use Rattle.generator.specs.declared.Shape.{Shape}
use Rattle.generator.specs.Sample.{shape_of}
use Rattle.spectrum.specs.Grid.{on_grid}
use Rattle.port.specs.declared.Port.{Port}
use Rattle.port.specs.Fields.{cells, cell_at, at_voltage, at_voltage_thd, at_voltage_crest_factor}
use Rattle.figures.specs.declared.TimeFigures.{TimeFigures}
use Rattle.figures.specs.Figures.{zero_figures}
use Rattle.signal.specs.declared.State.{State}
use Rattle.signal.specs.State.{clamped, voltage_of, metrics_of}
use Rattle.signal.specs.Calls.{SignalLeft, phase_set, duty_set, reset_of}

-- `set_phase` and `set_duty_cycle`
pub data Setting : Type 0 where
  phase : Float → Setting
  duty : Float → Setting

-- those, and `reset_waveform`
pub data Later : Type 0 where
  setting : Setting → Later
  reset : Later

-- one of them, on what is left before it
abbrev pub next : ℕ → SignalLeft → Later → SignalLeft
next top l (setting (phase p)) = phase_set top l.answer.state p l.places
next top l (setting (duty d)) = duty_set top l.answer.state d l.places
next top l reset = reset_of l.answer.state l.places

-- all of them, "call by call"
abbrev pub run : ℕ → SignalLeft → List Later → SignalLeft
run top l [] = l
run top l (c ∷ cs) = run top (next top l c) cs

-- the shape that calls leave: the last phase and the last duty cycle, each where there is one
abbrev pub shaped : Shape → Setting → Shape
shaped s (phase p) = shape_of s.wave s.amplitude p s.frequency s.duty_cycle
shaped s (duty d) = shape_of s.wave s.amplitude s.phase s.frequency (clamped d)

abbrev pub shapes : Shape → List Later → Shape
shapes s [] = s
shapes s (setting c ∷ cs) = shapes (shaped s c) cs
shapes s (reset ∷ cs) = shapes s cs

-- ---- what is claimed of such calls, besides the shape, the samples, the figures and THD; each law is in `proofs/SequencePort.antt`

-- 01, rows 3 and 4: a length that is taken, and one that is refused
abbrev pub Taken : List Float → Type 0
Taken xs = (too_long (length xs) ≡ false) × (on_grid (length xs) ≡ true)

abbrev pub Refused : List Float → Type 0
Refused xs = (too_long (length xs) ≡ true) ⊎ (on_grid (length xs) ≡ false)

-- the three readings that follow a measurement show these figures of this wave, and this THD (`readings_after`)
pub record Shows (shape : Shape) (figures : TimeFigures) (thd : Float) (p : Port) : Type 0 where
  pub level : p.voltage ≡ voltage_of shape.wave figures
  pub crest : p.voltage_crest_factor ≡ Some figures.crest_factor
  pub distortion : p.voltage_thd ≡ Some thd

-- those that the state itself has (`readings_new`, `readings_follow`)
abbrev pub ShowsOwn : State → Type 0
ShowsOwn s = Shows s.shape (metrics_of s).figures (metrics_of s).thd s.port

-- the other 23 fields of the port are as they were (`others_stay`)
abbrev pub OthersStay : Port → Port → Type 0
OthersStay before after =
    (i : ℕ) → (i ≡ at_voltage → ⊥) → (i ≡ at_voltage_thd → ⊥) → (i ≡ at_voltage_crest_factor → ⊥) → cell_at (cells after) i ≡ cell_at (cells before) i

-- what a reset leaves in the state: this shape, and zero in all that is measured and in the readings that follow it (`reset_state`)
pub record Quiet (shape : Shape) (s : State) : Type 0 where
  pub kept : s.shape ≡ shape
  pub figures : (metrics_of s).figures ≡ zero_figures
  pub thd : (metrics_of s).thd ≡ zero32
  pub level : s.port.voltage ≡ zero32
  pub crest : s.port.voltage_crest_factor ≡ Some zero32
  pub distortion : s.port.voltage_thd ≡ Some zero32

-- 01, "Nothing but 0 writes to what was lent", and "a signal state .. handed in comes back unchanged" (`refused_run`)
pub record Unmoved (before after : SignalLeft) : Type 0 where
  pub state : after.answer.state ≡ before.answer.state
  pub samples : after.places ≡ before.places

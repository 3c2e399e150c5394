-- A signal's state: where it starts, what a setting changes, and what is measured of the samples. Definitions only.
use Rattle.std.specs.Prelude.{ℕ, false, cond, List, [], ◌∷◌, Float, Option, Some, None}
use Rattle.std.specs.Float.{binary32}
use Rattle.std.specs.Float.Ieee.{mul, lt}
use Rattle.answers.specs.Answers.{told}
use Rattle.laws.specs.Literals.{zero32, one32}
use Rattle.number.specs.Number.{abs}
use Rattle.generator.specs.declared.Wave.{Wave}
use Rattle.generator.specs.declared.Wave.TheVariants.{DC, PWM, Triangular, Sawtooth}
use Rattle.generator.specs.declared.Shape.{Shape}
use Rattle.generator.specs.Sample.{shape_of, half}
use Rattle.port.specs.declared.Port.{Port}
use Rattle.port.specs.Fields.{put, SetTo, set_to, puts, number, reading, flag}
use Rattle.port.specs.Fields.{at_voltage, at_current, at_frequency, at_phase_angle, at_active_power, at_apparent_power, at_power_factor, at_displacement_pf}
use Rattle.port.specs.Fields.{at_voltage_thd, at_voltage_crest_factor, at_is_enabled}
use Rattle.port.specs.Readings.{cleared}
use Rattle.figures.specs.declared.TimeFigures.{TimeFigures}
use Rattle.figures.specs.Figures.{zero_figures, answer_of}
use Rattle.distortion.specs.Thd.{thd_of}
use Rattle.signal.specs.declared.State.{State}
use Rattle.signal.specs.declared.Metrics.{Metrics}

-- nothing is measured yet, or no more; 02, e: "each record carries its number", that of the edition
abbrev pub unmeasured : ℕ → Metrics
unmeasured edition = record { figures = zero_figures; thd = zero32; edition = edition }

-- 01, "What a refusal returns is zero throughout", the edition too
abbrev pub zero_metrics : Metrics
zero_metrics = unmeasured 0

-- 01, "What a refusal returns is zero throughout (a reading absent, a flag false, the wave `DC` ..)"
abbrev pub zero_state : State
zero_state = record {
  shape = shape_of DC zero32 zero32 zero32 zero32;
  port = put cleared at_is_enabled (flag false);
  metrics = zero_metrics;
}

-- ---- the Rust's `new`, before anything is generated

-- DC apart from the other three, as the Rust's `is_dc`
abbrev pub of_kind : {A : Type 0} → Wave → A → A → A
of_kind DC a b = a
of_kind PWM a b = b
of_kind Triangular a b = b
of_kind Sawtooth a b = b

-- the Rust's `if is_dc { None } else { Some(frequency) }`
abbrev pub frequency_reading : Wave → Float → Option Float
frequency_reading wave frequency = of_kind wave None (Some frequency)

-- phase 0, duty cycle a half, nothing measured; a port with its defaults and that frequency. The Rust puts the amplitude into the voltage here: `with_measured`
-- replaces it before anyone reads it. 02, e: "the caller names the edition where the signal is made"
unfoldable pub fresh : Wave → Float → Float → ℕ → State
fresh wave amplitude frequency edition = record {
  shape = shape_of wave amplitude zero32 frequency half;
  port = put cleared at_frequency (reading (frequency_reading wave frequency));
  metrics = unmeasured edition;
}

-- ---- settings of the shape

abbrev pub with_shape : State → Shape → State
with_shape s shape = record { shape = shape; port = s.port; metrics = s.metrics }

unfoldable pub with_phase : State → Float → State
with_phase s phase = with_shape s (shape_of s.shape.wave s.shape.amplitude phase s.shape.frequency s.shape.duty_cycle)

-- the Rust's `max(0.0).min(1.0)`; 01, "A NaN duty cycle is set to 0.0"
unfoldable pub clamped : Float → Float
clamped d = cond (lt zero32 d) (cond (lt d one32) d one32) zero32

unfoldable pub with_duty : State → Float → State
with_duty s d = with_shape s (shape_of s.shape.wave s.shape.amplitude s.shape.phase s.shape.frequency (clamped d))

-- ---- what is measured of the samples, and the three readings of the port that follow it

-- the Rust's `if is_dc { average } else { dc_rms }`: the mean of a DC wave, the RMS of any other
unfoldable pub voltage_of : Wave → TimeFigures → Float
voltage_of wave f = of_kind wave f.average f.dc_rms

-- in the Rust's order
abbrev pub level_rows : Float → Float → Float → List SetTo
level_rows voltage crest thd =
    set_to at_voltage (number voltage) ∷
    set_to at_voltage_crest_factor (reading (Some crest)) ∷
    set_to at_voltage_thd (reading (Some thd)) ∷
    []

unfoldable pub levelled : Port → Float → Float → Float → Port
levelled p voltage crest thd = puts p (level_rows voltage crest thd)

-- 01, item 10: "with the THD of step 10 of `calculate_metrics`", of orders up to `top`
unfoldable pub with_measured : ℕ → State → List Float → State
with_measured top s xs =
    let figures = told s.metrics.figures (answer_of s.shape.wave s.shape.amplitude s.shape.frequency s.metrics.figures xs) in
    let thd = thd_of top s.shape.frequency s.metrics.thd xs in
    let port = levelled s.port (voltage_of s.shape.wave figures) figures.crest_factor thd in
    record { shape = s.shape; port = port; metrics = record { figures = figures; thd = thd; edition = s.metrics.edition } }

-- the Rust's `reset_waveform`: all that is measured is zero; 02, e: "the signal keeps [its edition] through every reset"
unfoldable pub silenced : State → State
silenced s = record { shape = s.shape; port = levelled s.port zero32 zero32 zero32; metrics = unmeasured s.metrics.edition }

-- ---- 01, item 10, `new_power_port`: the readings that it sets on a signal that `new` made, in the Rust's order

abbrev pub port_rows : Float → Float → Option Float → List SetTo
port_rows voltage current frequency =
    -- the Rust's `instantaneous_power()`, of the voltage and current that are set first
    let power = mul binary32 voltage current in
    -- the voltage and the current given
    set_to at_voltage (number voltage) ∷
    set_to at_current (number current) ∷
    -- the frequency given, a number or absent
    set_to at_frequency (reading frequency) ∷
    -- `Some(0.0)`
    set_to at_phase_angle (reading (Some zero32)) ∷
    -- the power, with its sign
    set_to at_active_power (number power) ∷
    -- its size, `fabsf`
    set_to at_apparent_power (reading (Some (abs power))) ∷
    -- `Some(1.0)`, both
    set_to at_power_factor (reading (Some one32)) ∷
    set_to at_displacement_pf (reading (Some one32)) ∷
    []

-- nothing but the port changes
unfoldable pub as_port : State → Float → Float → Option Float → State
as_port s voltage current frequency = record {
  shape = s.shape;
  port = puts s.port (port_rows voltage current frequency);
  metrics = s.metrics;
}

-- 01, "`get_metrics` gives the 19 figures and THD"; 02, h: the counts are in "the record that all readers share"; e: "each record carries its number"
abbrev pub metrics_of : State → Metrics
metrics_of s = s.metrics

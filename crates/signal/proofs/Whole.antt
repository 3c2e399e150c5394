-- Records put together from what the calls give. Assumes nothing.
use Rattle.std.specs.Prelude.{Option, Some}
use mathlib.Core.Path.{◌≡◌, ap}
use mathlib.Core.List.{List}
use Prim.Native.Nat.{ℕ}
use lib.Ieee.{Float, binary32, mul}
use Rattle.laws.specs.Literals.{zero32, one32}
use Rattle.number.specs.Number.{abs}
use Rattle.answers.specs.Numbers.{Outcome}
use Rattle.answers.specs.Numbers.{done}
use Rattle.answers.specs.Answers.{told}
use Rattle.answers.specs.Left.{Left, left}
use Rattle.generator.specs.Sample.{generated}
use Rattle.port.specs.declared.Port.{Port}
use Rattle.port.specs.Fields.{put, number, reading, at_voltage, at_current, at_frequency, at_phase_angle, at_active_power, at_apparent_power, at_power_factor, at_displacement_pf}
use Rattle.figures.specs.declared.TimeFigures.{TimeFigures}
use Rattle.figures.specs.Figures.{answer_of}
use Rattle.distortion.specs.Thd.{thd_of}
use Rattle.signal.specs.declared.State.{State}
use Rattle.signal.specs.State.{voltage_of, levelled, with_measured, as_port}
use Rattle.signal.specs.Calls.{SignalLeft, answer, made}
use Rattle.signal.specs.Editions.{remade_by}

pub measured_whole : (top : ℕ) (s : State) (xs : List Float) (f : TimeFigures) (thd v : Float) (p : Port)
    → f ≡ told s.metrics.figures (answer_of s.shape.wave s.shape.amplitude s.shape.frequency s.metrics.figures xs) → thd ≡ thd_of top s.shape.frequency s.metrics.thd xs
    → v ≡ voltage_of s.shape.wave f → p ≡ levelled s.port v f.crest_factor thd
    → ◌≡◌ {A = State} (record { shape = s.shape; port = p; metrics = record { figures = f; thd = thd; edition = s.metrics.edition } }) (with_measured top s xs)
unfolding with_measured
measured_whole top s xs f thd v p ea et ev ep = rw (ep, ev, et, ea)

pub made_whole : (top : ℕ) (s r : State) (xs ys : List Float) (o : Outcome) → left o ys ≡ generated s.shape xs → r ≡ with_measured top s ys → left (answer done r) ys ≡ made top s xs
unfolding made
made_whole top s r xs ys o g e = let p : ys ≡ (generated s.shape xs).places = ap (λ (w : Left Outcome (List Float)). w.places) g in rw (e, p)

pub remade_same : (edition : ℕ) (e e' n n' : State) (xs : List Float) (l : SignalLeft) → e ≡ e' → n ≡ n' → l ≡ remade_by edition e n xs → l ≡ remade_by edition e' n' xs
remade_same edition e e' n n' xs l p q h = rw (← p, ← q) h

pub port_whole : (s : State) (voltage current : Float) (frequency : Option Float) (apparent : Float) (p1 p2 p3 p4 p5 p6 p7 p8 : Port)
    → apparent ≡ abs (mul binary32 voltage current)
    → p1 ≡ put s.port at_voltage (number voltage) → p2 ≡ put p1 at_current (number current) → p3 ≡ put p2 at_frequency (reading frequency)
    → p4 ≡ put p3 at_phase_angle (reading (Some zero32)) → p5 ≡ put p4 at_active_power (number (mul binary32 voltage current))
    → p6 ≡ put p5 at_apparent_power (reading (Some apparent)) → p7 ≡ put p6 at_power_factor (reading (Some one32)) → p8 ≡ put p7 at_displacement_pf (reading (Some one32))
    → ◌≡◌ {A = State} (record { shape = s.shape; port = p8; metrics = s.metrics }) (as_port s voltage current frequency)
unfolding as_port
port_whole s voltage current frequency apparent p1 p2 p3 p4 p5 p6 p7 p8 ea e1 e2 e3 e4 e5 e6 e7 e8 = rw (e8, e7, e6, e5, e4, e3, e2, e1, ea)

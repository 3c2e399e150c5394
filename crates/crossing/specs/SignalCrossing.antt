-- How a signal crosses the boundary: its state as a flat record, a wave as its number, a port as PortCrossing has it. Definitions only.
use Rattle.std.specs.Prelude.{◌≡◌}
use Rattle.answers.specs.Numbers.{number_of}
use Rattle.generator.specs.Sample.{shape_of}
use Rattle.generator.specs.Wave.{wave_number, wave_of}
use Rattle.signal.specs.declared.State.{State}
use Rattle.signal.specs.declared.Answer.{Answer}
use Rattle.signal.specs.Editions.{edition_in}
use Rattle.crossing.specs.PortCrossing.{port_in, port_out}
use Rattle.crossing.specs.declared.signals.TjSignal.{TjSignal}
use Rattle.crossing.specs.declared.signals.CodedSignal.{CodedSignal}

-- the state that a flat record stands for; a number of no wave is DC
unfoldable pub state_in : TjSignal → State
state_in s = record {
  shape = shape_of (wave_of s.wave) s.amplitude s.phase s.frequency s.duty_cycle;
  port = port_in s.port;
  metrics = record { figures = s.figures; thd = s.thd; edition = s.edition };
}

unfoldable pub state_out : State → TjSignal
state_out s = record {
  wave = wave_number s.shape.wave;
  edition = s.metrics.edition;
  amplitude = s.shape.amplitude;
  phase = s.shape.phase;
  frequency = s.shape.frequency;
  duty_cycle = s.shape.duty_cycle;
  port = port_out s.port;
  figures = s.metrics.figures;
  thd = s.metrics.thd;
}

unfoldable pub coded_signal : Answer → CodedSignal
coded_signal a = record { code = number_of a.outcome; signal = state_out a.state }

-- what is claimed of the edition (02, e): it crosses as the number that it is, out and in, whatever number (`edition_out`, `edition_in_lem`)
abbrev pub EditionOut : Type 0
EditionOut = (s : State) → (state_out s).edition ≡ edition_in s

abbrev pub EditionIn : Type 0
EditionIn = (t : TjSignal) → edition_in (state_in t) ≡ t.edition

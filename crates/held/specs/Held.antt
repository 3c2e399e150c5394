-- What a signal that keeps the caller's samples is after a call, from what the call by value leaves behind. Definitions only.
use Rattle.std.specs.Prelude.{List, ℕ, Float}
use denote.Ref.{MutBor, at_last}
use Rattle.port.specs.declared.Port.{Port}
use Rattle.port.specs.Fields.{Cell, put}
use Rattle.signal.specs.declared.Answer.{Answer}
use Rattle.signal.specs.Calls.{SignalLeft}
use Rattle.held.specs.declared.Signal.{Signal}

-- 01, item 10, "A signal keeps the caller's sample slice beside its record": the slice that was lent, at what the call left in it
abbrev pub beside : MutBor (List Float) → SignalLeft → Signal
beside samples l = record { samples = at_last samples l.places; answer = l.answer }

-- the same slice, after a later call
abbrev pub after : Signal → SignalLeft → Signal
after s l = beside s.samples l

-- ---- settings of the port: the samples, the outcome and the rest of the state stay

abbrev pub swapped : Answer → Port → Answer
swapped a p = record { outcome = a.outcome; state = record { shape = a.state.shape; port = p; metrics = a.state.metrics } }

abbrev pub with_port : Signal → Port → Signal
with_port s p = record { samples = s.samples; answer = swapped s.answer p }

-- the port with the field at i set to x
abbrev pub with_field : Signal → ℕ → Cell → Signal
with_field s i x = with_port s (put s.answer.state.port i x)

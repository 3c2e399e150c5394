-- A state that crosses the boundary and comes back is the state it was. Assumes nothing.
use Rattle.std.proofs.Common.{◌≡◌, refl}
use Rattle.generator.proofs.Kept.{wave_of_number}
use Rattle.signal.specs.declared.State.{State}
use Rattle.crossing.specs.SignalCrossing.{state_in, state_out, EditionOut, EditionIn}
use Rattle.crossing.proofs.PortCrossing.{port_back}

-- nothing is lost on the way out and in again
pub state_back : (s : State) → state_in (state_out s) ≡ s
unfolding state_in state_out
state_back s = rw (wave_of_number s.shape.wave, port_back s.port)

pub edition_out : EditionOut
unfolding state_out
edition_out s = refl

pub edition_in_lem : EditionIn
unfolding state_in
edition_in_lem t = refl

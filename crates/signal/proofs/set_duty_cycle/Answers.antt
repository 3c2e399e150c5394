-- `signal::set_duty_cycle` meets its contract: the state with the setting, made anew. Assumes nothing.
use mathlib.Core.Path.{refl}
use Rattle.signal.proofs.Whole.{remade_same}
use Rattle.signal.proofs.set_duty_cycle.Goals as goal

pub returns : goal.returns
returns c = remade_same _ _ _ _ _ _ _ refl c.with_duty.ensures c.remake_by.ensures

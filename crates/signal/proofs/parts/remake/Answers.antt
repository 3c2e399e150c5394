-- `signal::parts::remake` meets its contract: a refusal writes nothing, and where none holds `make` writes the samples. Assumes nothing.
use Rattle.std.proofs.Common.{sym, ◌∙◌}
use Rattle.spectrum.proofs.Ends.{none_holds}
use Rattle.signal.specs.Calls.{remade}
use Rattle.signal.proofs.Ends.{refused, taken}
use Rattle.signal.proofs.parts.remake.Goals as goal

pub make-requires : goal.make-requires
make-requires c = record { samples_value = (none_holds _ _ _ c.in-Ok.ensures).0; le_top = c.requires }

pub returns-in-Ok : goal.returns-in-Ok
unfolding remade
returns-in-Ok c = c.make.ensures ∙ sym (taken _ _ _ _ c.in-Ok.ensures)

pub returns-in-Err : goal.returns-in-Err
unfolding remade
returns-in-Err c = refused _ _ _ _ c.in-Err.ensures

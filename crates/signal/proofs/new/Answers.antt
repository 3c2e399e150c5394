-- `signal::new` meets its contract: made anew. Assumes nothing.
use Rattle.signal.proofs.Whole.{remade_same}
use Rattle.signal.proofs.new.Goals as goal

pub returns : goal.returns
returns c = remade_same _ _ _ _ _ _ _ c.zero_state.ensures c.fresh.ensures c.remake_by.ensures

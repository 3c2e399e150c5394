-- `spectrum::several::store_four` meets its contract: four stores, one after the other. Assumes nothing.
use Rattle.spectrum.specs.Running.{stored_four}
use Rattle.spectrum.proofs.several.store_four.Goals as goal

pub returns : goal.returns
unfolding stored_four
returns c =
    rw (
      c.store-4.ensures,
      c.store-3.ensures,
      c.store-2.ensures,
      c.store.ensures,
    )

-- `quarter::parts::entry` meets its contract: the array of the code is the list of the definition. Assumes nothing.
use mathlib.Core.Path.{refl}
use Rattle.quarter.specs.Table.{quarter_table}
use Rattle.quarter.proofs.parts.entry.Goals as goal

pub returns : goal.returns
unfolding quarter_table
returns c = refl

-- `distortion::parts::thd` meets its contract. Assumes nothing.
use Rattle.std.proofs.Common.{sym, ◌∙◌}
use Rattle.quarter.specs.Table.{quarter_table}
use Rattle.spectrum.proofs.Grid.{grid_le}
use Rattle.distortion.proofs.Orders.{usable_bin}
use Rattle.distortion.proofs.Whole.{worked, kept}
use Rattle.distortion.proofs.parts.thd.Goals as goal

pub fundamental_bin-bin-requires : goal.fundamental_bin-bin-requires
fundamental_bin-bin-requires c = grid_le c.requires.samples_value

pub thd_at-requires : goal.thd_at-requires
unfolding quarter_table
thd_at-requires c =
    record { samples_value = c.requires.samples_value; bin_nonzero = usable_bin _ _ _ (sym c.usable.ensures ∙ c.if-usable.true); le_top = c.requires.le_top }

pub returns-then-usable : goal.returns-then-usable
returns-then-usable c =
    worked _ _ c.args.samples.now _ _ _ c.fundamental_bin-bin.ensures
    (sym c.usable.ensures ∙ c.if-usable.true) c.thd_at.ensures

pub returns : goal.returns
returns c =
    kept _ _ c.args.samples.now _ _ c.fundamental_bin-bin.ensures (sym c.usable.ensures ∙ c.if-usable.false)

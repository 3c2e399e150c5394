-- `spectrum::parts::on_grid` meets its contract. Assumes nothing.
use Rattle.std.proofs.Common.{sym, ap, ◌∙◌, arith}
use Rattle.spectrum.specs.Grid.{on_grid}
use Rattle.spectrum.proofs.Grid.{grid_zero, grid_test}
use Rattle.spectrum.proofs.parts.on_grid.Goals as goal

pub returns-then-n-eq0 : goal.returns-then-n-eq0
returns-then-n-eq0 c = sym (ap on_grid c.if-n-eq0.true ∙ grid_zero)

pub returns : goal.returns
returns c = grid_test c.args.n (omega arith)

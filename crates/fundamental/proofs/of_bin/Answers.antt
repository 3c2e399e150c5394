-- `fundamental::of_bin` meets its contract. Assumes nothing.
use Rattle.spectrum.proofs.Grid.{grid_le}
use Rattle.fundamental.specs.Fundamental.{fundamental_of}
use Rattle.fundamental.proofs.of_bin.Goals as goal

pub figures-requires : goal.figures-requires
figures-requires c = grid_le c.requires.voltage_value

pub returns : goal.returns
unfolding fundamental_of
returns c =
    let sums = c.both_sums-sums.ensures in
    rw (c.figures.ensures, sums.0, sums.1)

-- `figures::edges::edge_at` meets its contract. Assumes nothing.
use native.Mathlib.Omega.{arith}
use Rattle.figures.specs.Edges.{edge_at}
use Rattle.figures.proofs.Bounds.{rise_begins_lem, three}
use Rattle.figures.proofs.edges.edge_at.Goals as goal

pub rise_counts-risen-requires : goal.rise_counts-risen-requires
rise_counts-risen-requires c =
    let a = c.args in
    rw c.rise_begins-begun.ensures
    (omega (arith, rise_begins_lem 65535 65535 a.s (record { rise = omega arith; fall = omega arith }) a.low a.prev a.curr))

pub fall_counts-requires : goal.fall_counts-requires
fall_counts-requires c =
    let a = c.args in
    rw (c.fall_begins-turned.ensures, c.rise_counts-risen.ensures, c.rise_begins-begun.ensures)
    (omega (arith, three 65535 65535 a.low a.high a.prev a.curr a.s (record { rise = omega arith; fall = omega arith })))

pub returns : goal.returns
unfolding edge_at
returns c = rw (c.fall_counts.ensures, c.fall_begins-turned.ensures, c.rise_counts-risen.ensures, c.rise_begins-begun.ensures)

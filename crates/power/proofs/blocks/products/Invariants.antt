-- `power::blocks::products` meets its contract. The invariant: the first j places of each array hold their products. Assumes nothing.
use Rattle.std.proofs.Common.{◌≡◌}
use Rattle.laws.specs.Filled.{filled}
use Rattle.power.specs.Blocks.{product_from}
use Rattle.power.proofs.blocks.products.Given as goal

abbrev pub invariant-loop-j : goal.invariant-loop-j
invariant-loop-j l =
    (l.block.vi ≡ filled (product_from l.voltage l.current l.from) l.j l.initial.block.vi) × (l.block.vv ≡ filled (product_from l.voltage l.voltage l.from) l.j l.initial.block.vv) × (l.block.ii ≡ filled (product_from l.current l.current l.from) l.j l.initial.block.ii)

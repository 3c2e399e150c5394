use Rattle.std.proofs.Common.{◌-◌, sym, ◌∙◌, arith}
use Rattle.quality.specs.Powers.{squares_at_once}
use Rattle.quality.proofs.Orders.{order_le, summed_places}
use Rattle.quality.proofs.squares.power_of_blocks.Goals as goal

pub overflow_add-h : goal.overflow_add-h
overflow_add-h c =
    let i = c.loop-h.invariant.inside in
    let o = order_le _ (c.loop-h.h - 1) i.bin in
    omega (arith, i.places, i.before)

pub numbers_in-requires : goal.numbers_in-requires
numbers_in-requires c = (omega arith, omega arith)

pub with_block-sum-requires : goal.with_block-sum-requires
with_block-sum-requires c =
    let n = c.numbers_in in
    record { squares_at_once_in_bounds = omega arith; squares_at_once_value = sym n.ensures ∙ c.if-not-numbers_in.false }

pub overflow_add-h-in-loop-h : goal.overflow_add-h-in-loop-h
overflow_add-h-in-loop-h c =
    let i = c.loop-h.invariant.inside in
    omega (arith, i.places)

pub loop-h-preserved : goal.loop-h-preserved
loop-h-preserved c =
    let l = c.loop-h in
    rw c.with_block-sum.ensures (summed_places _ _ _ l.h squares_at_once (omega arith) l.invariant (omega arith))

pub returns-after-loop-h : goal.returns-after-loop-h
returns-after-loop-h c = c.loop-h.invariant

pub returns-then-not-numbers_in : goal.returns-then-not-numbers_in
returns-then-not-numbers_in c = c.loop-h.invariant

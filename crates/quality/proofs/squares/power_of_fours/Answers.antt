use Rattle.std.proofs.Common.{◌≡◌, true, false, not, ap, lit<, arith}
use lib.Ieee.{Float, eq, ne}
use Rattle.quality.proofs.Orders.{inside_four, summed_four}
use Rattle.quality.proofs.squares.power_of_fours.Goals as goal

same : (x : Float) → eq x x ≡ true → ne x x ≡ false
unfolding ne
same x e = ap not e

pub square_of_number-sum-requires : goal.square_of_number-sum-requires
square_of_number-sum-requires c = same _ (c.numbers.ensures c.if-not-numbers.false 0 (lit< tt))

pub square_of_number-sum-requires-in-loop-h : goal.square_of_number-sum-requires-in-loop-h
square_of_number-sum-requires-in-loop-h c = same _ (c.numbers.ensures c.if-not-numbers.false 1 (lit< tt))

pub square_of_number-sum-requires-in-loop-h-2 : goal.square_of_number-sum-requires-in-loop-h-2
square_of_number-sum-requires-in-loop-h-2 c = same _ (c.numbers.ensures c.if-not-numbers.false 2 (lit< tt))

pub square_of_number-sum-requires-in-loop-h-3 : goal.square_of_number-sum-requires-in-loop-h-3
square_of_number-sum-requires-in-loop-h-3 c = same _ (c.numbers.ensures c.if-not-numbers.false 3 (lit< tt))

pub loop-h-preserved : goal.loop-h-preserved
loop-h-preserved c =
    let l = c.loop-h in
    let a = c.square_of_number-sum.ensures in
    let b = c.square_of_number-sum-in-loop-h.ensures in (
      inside_four _ _ l.h l.invariant.0 (omega arith),
      λ first m. summed_four _ _ first l.h (l.invariant.1 first m) (omega arith) a b c.square_of_number-sum-in-loop-h-2.ensures c.square_of_number-sum-in-loop-h-3.ensures,
    )

use Rattle.std.proofs.Common.{◌≡◌, ℕ, suc, ◌+◌, ◌-◌, ◌<◌, List, take, drop, get_or, sym, ap, ◌∙◌, ap₂, subst, false, arith}
use Rattle.std.proofs.lemmas.List.{get_or-take, get_or-drop}
use lib.Ieee.{Float, nan, binary64, add, ne}
use Rattle.laws.specs.Samples.{square_of}
use Rattle.laws.proofs.Numbers.{numbers_in_at, number_same}
use Rattle.quality.specs.Powers.{magnitude_in, squares_at_once, with_squares}
use Rattle.quality.proofs.Orders.{squares_next}
use Rattle.quality.proofs.squares.with_block.Goals as goal

-- the sample at the place k of the block
there : (s : List Float) (from k : ℕ) → k < squares_at_once → magnitude_in s (from + k) ≡ get_or (take (from + squares_at_once - from) (drop from s)) k nan
there s from k h =
    let l : k < from + squares_at_once - from = omega arith in
    sym (get_or-take (from + squares_at_once - from) (drop from s) k nan l ∙ get_or-drop from s k nan)

one_more_lem : (s : List Float) (from k : ℕ) (t u v : Float) → u ≡ with_squares s from t k → v ≡ square_of (magnitude_in s (from + k)) → add binary64 u v ≡ with_squares s from t (k + 1)
one_more_lem s from k t u v e q = ap₂ (add binary64) e q ∙ (sym (squares_next s from t k) ∙ ap (with_squares s from t) (after k))
  where
    after : (i : ℕ) → suc i ≡ i + 1
    after i = omega arith

pub square_of_number-sum-requires : goal.square_of_number-sum-requires
square_of_number-sum-requires c =
    let s = c.args.spectrum.now in
    let k = c.loop-x.x-index in
    let P : Float → Type 0 = λ x. ne x x ≡ false in
    subst P (there s c.args.from k (omega arith)) (number_same _ (numbers_in_at s c.args.from squares_at_once k c.requires.squares_at_once_value (omega arith)))

pub loop-x-preserved : goal.loop-x-preserved
loop-x-preserved c =
    let s = c.args.spectrum.now in
    let l = c.loop-x in
    one_more_lem s c.args.from l.x-index _ _ _ l.invariant (c.square_of_number-sum.ensures ∙ ap square_of (sym (there s c.args.from l.x-index (omega arith))))

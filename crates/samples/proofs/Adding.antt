-- What `add_signals` answers, by the lengths of its two signals. Assumes nothing.
use mathlib.Core.Path.{◌≡◌, refl, ap, ◌∙◌}
use Prim.Native.Nat.{ℕ, ◌+◌, ◌≤◌, ◌<◌}
use native.Mathlib.Omega.{arith}
use borrow.Author.Tests.{le-ltb, lt-ltb}
use mathlib.Core.List.{List}
use Rattle.std.proofs.Common.{Err}
use lib.ListN.{length, set}
use lib.Ieee.{Float}
use Rattle.answers.specs.Numbers.{done, longest}
use Rattle.answers.specs.declared.Refusal.TheVariants.{TooLong}
use Rattle.answers.specs.Left.{left}
use Rattle.laws.specs.Filled.{filled}
use Rattle.laws.proofs.Filling.{filled_next}
use Rattle.samples.specs.Samples.{shortest, sum_at, added_into}

pub first_long : (a b out : List Float) → longest < length a → left (Err TooLong) out ≡ added_into a b out
unfolding added_into
first_long a b out h = simp (lt-ltb _ _ h)

pub second_long : (a b out : List Float) → length a ≤ longest → longest < length b → left (Err TooLong) out ≡ added_into a b out
unfolding added_into
second_long a b out g h = simp (le-ltb _ _ g, lt-ltb _ _ h)

-- neither is, and every place up to the shortest of the three has its sum
pub both_fit : (a b out now : List Float) → length a ≤ longest → length b ≤ longest → now ≡ filled (sum_at a b) (shortest a b out) out → left done now ≡ added_into a b out
unfolding added_into
both_fit a b out now g h e = simp (le-ltb _ _ g, le-ltb _ _ h) (ap (left done) e)

-- one store, of the sum of the place that it goes to
pub one_store : (f : ℕ → Float) (k p q : ℕ) (out now : List Float) (v : Float) → v ≡ f p → p ≡ k → q ≡ k + 1 → k < length out → now ≡ filled f k out → set now k v ≡ filled f q out
one_store f k p q out now v a e g h i = rw g (filled_next f k out now v h (a ∙ ap f e) i)

-- four in a row
pub four_stores : (f : ℕ → Float) (k : ℕ) (out now : List Float) (w x y z : Float) → k + 4 ≤ length out → w ≡ f k → x ≡ f (k + 1) → y ≡ f (k + 2) → z ≡ f (k + 3) → now ≡ filled f k out
    → set (set (set (set now k w) (k + 1) x) (k + 2) y) (k + 3) z ≡ filled f (k + 4) out
four_stores f k out now w x y z h a b c d i =
    one_store f (k + 3) _ (k + 4) out _ z d refl (omega arith) (omega arith)
    (one_store f (k + 2) _ (k + 3) out _ y c refl (omega arith) (omega arith)
    (one_store f (k + 1) _ (k + 2) out _ x b refl (omega arith) (omega arith) (one_store f k _ (k + 1) out now w a refl refl (omega arith) i)))

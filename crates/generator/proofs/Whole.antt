-- What the generator answers, by the slice's length. Assumes nothing.
use mathlib.Core.Path.{◌≡◌, ap}
use mathlib.Core.List.{List}
use Prim.Native.Nat.{◌≤◌, ◌<◌}
use borrow.Author.Tests.{lt-ltb, le-ltb}
use Rattle.std.proofs.Common.{Err}
use lib.ListN.{length}
use lib.Ieee.{Float}
use Rattle.answers.specs.Numbers.{longest, done}
use Rattle.answers.specs.Left.{left}
use Rattle.answers.specs.declared.Refusal.TheVariants.{TooLong}
use Rattle.laws.specs.Filled.{filled}
use Rattle.generator.specs.declared.Shape.{Shape}
use Rattle.generator.specs.Sample.{sample_at, generated}

pub long : (s : Shape) (xs : List Float) → longest < length xs → left (Err TooLong) xs ≡ generated s xs
unfolding generated
long s xs h = simp (lt-ltb _ _ h)

-- it is not, and every place has its sample
pub not_long : (s : Shape) (xs now : List Float) → length xs ≤ longest → now ≡ filled (sample_at s (length xs)) (length xs) xs → left done now ≡ generated s xs
unfolding generated
not_long s xs now h e = simp (le-ltb _ _ h) (ap (left done) e)

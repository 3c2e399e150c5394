-- `quality::parts::over_spur` meets its contract. Assumes nothing.
use Rattle.quality.specs.Quality.{sfdr_of}
use Rattle.quality.proofs.parts.over_spur.Goals as goal

pub returns-then-worst : goal.returns-then-worst
unfolding sfdr_of
returns-then-worst c = rw (← c.largest_spur-worst.ensures, c.if-worst.true)

pub returns : goal.returns
unfolding sfdr_of
returns c = rw (← c.largest_spur-worst.ensures, c.if-worst.false)

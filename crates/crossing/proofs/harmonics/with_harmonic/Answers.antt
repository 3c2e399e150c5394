-- `crossing::harmonics::with_harmonic` meets its contract: the test picks the case. Assumes nothing.
use Rattle.std.proofs.Common.{le-ltb, lt-ltb}
use Rattle.crossing.proofs.harmonics.with_harmonic.Goals as goal

pub returns-then-n-lt16 : goal.returns-then-n-lt16
returns-then-n-lt16 c = rw (c.kept.ensures, lt-ltb _ _ c.if-n-lt16.true)

pub returns-else-n-lt16 : goal.returns-else-n-lt16
returns-else-n-lt16 c = simp (le-ltb _ _ c.if-n-lt16.false)

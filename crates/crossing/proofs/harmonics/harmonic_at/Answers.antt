-- `crossing::harmonics::harmonic_at` meets its contract: the test picks the case. Assumes nothing.
use Rattle.std.proofs.Common.{◌≡◌, false, length, arith, le-ltb, lt-ltb, Some}
use lib.Ieee.{nan}
use Rattle.crossing.specs.PortCrossing.{reading_in}
use Rattle.crossing.proofs.InPlace.{get_d_mapped}
use Rattle.crossing.proofs.harmonics.harmonic_at.Goals as goal

pub returns-then-n-ge16 : goal.returns-then-n-ge16
returns-then-n-ge16 c = simp (le-ltb _ _ c.if-n-ge16.true)

pub returns : goal.returns
returns c =
    let h = c.args.harmonics in
    let l : length h ≡ 16 = c.well_formed.0.1.0.1 in
    let n = c.args.n in
    let e = get_d_mapped reading_in h n (record { present = false; value = nan }) (Some nan) (omega arith) in
    rw (c.kept.ensures, lt-ltb _ _ c.if-n-ge16.false, e)

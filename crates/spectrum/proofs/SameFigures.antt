-- The call with lent scratch, where the scratch has room, ends and writes as the call without. Assumes nothing.
use Rattle.std.proofs.Common.{◌≡◌, ◌≤◌, Bool, true, false, ◌||◌, List, length, refl, le-ltb}
use lib.Ieee.{Float}
use Rattle.answers.specs.Left.{left}
use Rattle.spectrum.specs.Spectrum.{output_short, spectrum_of}
use Rattle.spectrum.specs.Sines.{spectrum_in}

or_false : (a : Bool) → (a || false) ≡ a
or_false true = refl
or_false false = refl

pub same_figures : (xs w out : List Float) → length xs ≤ length w
    → left (spectrum_in xs w out).answer (spectrum_in xs w out).places.0 ≡ spectrum_of xs out
unfolding spectrum_in spectrum_of
same_figures xs w out h = rw (le-ltb (length w) (length xs) h, or_false (output_short xs out))

-- One turn of a bin's loop is one sample more in its sums. Assumes nothing.
use Rattle.std.proofs.Common.{◌≡◌, ℕ, ◌+◌, List, length, get_or, ap, ◌∙◌, add-one}
use lib.Ieee.{Float, nan}
use Rattle.quarter.specs.Turn.{sine_of, cosine_of}
use Rattle.spectrum.specs.declared.parts.Sums.{Sums}
use Rattle.spectrum.specs.Bin.{angle_of, turned, sums_to, magnitude_of}
use Rattle.spectrum.specs.Spectrum.{halved, bin_of}

pub sums_next : (xs : List Float) (k i : ℕ) {s r : Sums} {x c n : Float} → s ≡ sums_to xs k i → x ≡ get_or xs i nan
    → c ≡ cosine_of (angle_of (length xs) k i) → n ≡ sine_of (angle_of (length xs) k i) → r ≡ turned s x c n → r ≡ sums_to xs k (i + 1)
unfolding sums_to
sums_next xs k i p q u w e = rw add-one (cc)

-- a bin's magnitude, halved at bin 0, is its place of the spectrum
pub bin_is : (xs : List Float) (k : ℕ) {m v : Float} → m ≡ magnitude_of xs k → v ≡ halved k m → v ≡ bin_of xs k
unfolding bin_of
bin_is xs k e p = p ∙ ap (halved k) e

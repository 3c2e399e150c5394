-- Figures of other figures: quotients that are 0 where their divisor is too small (the Rust's steps 3, 6, 7 and 9). Definitions only.
use Rattle.std.specs.Prelude.{cond, ◌&&◌, Float}
use Rattle.std.specs.Float.{binary32}
use Rattle.std.specs.Float.Ieee.{sub, div, lt}
use Rattle.laws.specs.Literals.{zero32, one32, tiny32}
use Rattle.laws.specs.Quotients.{ratio_or_zero, percent_of}
use Rattle.laws.specs.Samples.{higher}
use Rattle.number.specs.Number.{abs}

-- the larger size of the extremes, over the RMS
unfoldable pub crest_of : Float → Float → Float → Float
crest_of max min rms = ratio_or_zero (higher (abs max) (abs min)) rms

-- 0 where the frequency is not above 0
unfoldable pub period_of : Float → Float
period_of frequency = cond (lt zero32 frequency) (div binary32 one32 frequency) zero32

-- how far x lies above the limit, in percent of the swing; 0 where it does not, or the swing is not above 1e-12
unfoldable pub excess_of : Float → Float → Float → Float
excess_of x limit swing =
    cond (lt tiny32 swing && lt limit x) (percent_of (sub binary32 x limit) swing) zero32

-- The THD that a signal keeps, over the highest order. Definitions only.
use Rattle.std.specs.Prelude.{ℕ, ◌/◌, Bool, cond, ◌&&◌, List, length, nat_lt, Float}
use Rattle.std.specs.Float.{binary32}
use Rattle.std.specs.Float.Ieee.{mul, div, lt, to_unsigned}
use Rattle.laws.specs.Harmonics.{harmonic_power, last_up_to}
use Rattle.laws.specs.Literals.{zero32, tiny32, count32}
use Rattle.laws.specs.Quotients.{percent_of}
use Rattle.number.specs.Number.{narrowed_root, round_away}
use Rattle.spectrum.specs.Bin.{magnitude_of}

-- the Rust's `roundf(frequency * n / rate) as usize`, where n samples are one second, so that the rate is n.
-- 01, "`roundf(..) as usize` saturates: NaN gives 0, too large gives no usable bin"
unfoldable pub fundamental_bin : Float → ℕ → ℕ
fundamental_bin frequency n = to_unsigned 64 (round_away binary32 (div binary32 (mul binary32 frequency (count32 n)) (count32 n)))

-- 01, "the fundamental bin is unusable (half the length is at most 1, the frequency isn't above 0, or the rounded bin is 0 or not below half)"
unfoldable pub usable : Float → ℕ → ℕ → Bool
usable frequency half bin = nat_lt 1 half && (lt zero32 frequency && (nat_lt 0 bin && nat_lt bin half))

-- the Rust's `(sqrt(power) as f32 / fundamental) * 100.0`; 01, where "its magnitude isn't above 1e-12, `Signal` keeps its earlier THD"
unfoldable pub thd_from : Float → Float → Float → Float
thd_from fundamental power earlier = cond (lt tiny32 fundamental) (percent_of (narrowed_root power) fundamental) earlier

-- 01, "THD in `Signal` uses orders up to 16 and bins below half": the harmonics from order 2 on
unfoldable pub thd_at : ℕ → ℕ → Float → List Float → Float
thd_at top bin earlier xs = thd_from (magnitude_of xs bin) (harmonic_power (magnitude_of xs) bin 2 (last_up_to top (length xs / 2) bin)) earlier

-- 01, item 10, "the THD of step 10 of `calculate_metrics`": where the bin is unusable, "`Signal` keeps its earlier THD"
unfoldable pub thd_of : ℕ → Float → Float → List Float → Float
thd_of top frequency earlier xs =
    let bin = fundamental_bin frequency (length xs) in
    cond (usable frequency (length xs / 2) bin) (thd_at top bin earlier xs) earlier

-- Quotients of two figures, in f32. Definitions only.
use Rattle.std.specs.Prelude.{cond, Float}
use Rattle.std.specs.Float.{binary32}
use Rattle.std.specs.Float.Ieee.{mul, div, lt}
use Rattle.laws.specs.Literals.{zero32, hundred32, tiny32}

-- a over b, and 0 where b is not above the f32 nearest to 1e-12, at a NaN too: as the Rust has it for the power factor, `if s > 1e-12 { p / s } else { 0.0 }`,
-- and for the form factor and the crest factor
unfoldable pub ratio_or_zero : Float → Float → Float
ratio_or_zero a b = cond (lt tiny32 b) (div binary32 a b) zero32

-- a in percent of b, as the Rust has it for THD, `(sqrt(harm_sum_sq) as f32 / fund) * 100.0`, and for overshoot, `(max - expected_high) / peak_to_peak * 100.0`
abbrev pub percent_of : Float → Float → Float
percent_of a b = mul binary32 (div binary32 a b) hundred32

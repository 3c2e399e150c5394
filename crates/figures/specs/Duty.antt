-- The duty cycle (01, 'Rules taken from the Rust'). Definitions only.
use Rattle.std.specs.Prelude.{ℕ, Bool, List, length, Float}
use Rattle.std.specs.Float.{binary32}
use Rattle.std.specs.Float.Ieee.{sub, div, lt, of_bits}
use Rattle.laws.specs.Literals.{zero32, count32}
use Rattle.laws.specs.HowMany.{how_many}
use Rattle.number.specs.Number.{abs}
use Rattle.generator.specs.declared.Wave.{Wave}
use Rattle.generator.specs.declared.Wave.TheVariants.{DC, PWM, Triangular, Sawtooth}

-- the f32 nearest to 1e-6
abbrev pub millionth : Float
millionth = of_bits binary32 0x358637BD

-- 01, "samples whose f32 distance from the amplitude is strictly below 1e-6"
unfoldable pub near : Float → Float → Bool
near amplitude x = lt (abs (sub binary32 x amplitude)) millionth

-- 01, "Duty counts samples above 0, but for PWM samples" near the amplitude
abbrev pub is_high : Wave → Float → Float → Bool
is_high DC amplitude x = lt zero32 x
is_high PWM amplitude x = near amplitude x
is_high Triangular amplitude x = lt zero32 x
is_high Sawtooth amplitude x = lt zero32 x

unfoldable pub highs_of : Wave → Float → List Float → ℕ
highs_of wave amplitude xs = how_many (is_high wave amplitude) xs

-- the part of the samples that are high
unfoldable pub duty_of : Wave → Float → List Float → Float
duty_of wave amplitude xs = div binary32 (count32 (highs_of wave amplitude xs)) (count32 (length xs))

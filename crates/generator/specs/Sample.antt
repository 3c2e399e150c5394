-- What the generator puts at each place. 01, item 8 only names the waves, so the Rust decides: its operations in its order, each rounded to an f32.
-- Definitions only.
use Rattle.std.specs.Prelude.{ℕ, cond, List, length, Float, Err}
use Rattle.std.specs.Float.{binary32}
use Rattle.std.specs.Float.Ieee.{add, sub, mul, div, rem, lt, le, of_bits}
use Rattle.answers.specs.Numbers.{too_long, Outcome, done}
use Rattle.answers.specs.Left.{Left, left}
use Rattle.answers.specs.declared.Refusal.TheVariants.{TooLong}
use Rattle.laws.specs.Filled.{filled}
use Rattle.laws.specs.Literals.{zero32, one32, count32}
use Rattle.generator.specs.declared.Wave.{Wave}
use Rattle.generator.specs.declared.Wave.TheVariants.{DC, PWM, Triangular, Sawtooth}
use Rattle.generator.specs.declared.Shape.{Shape}

abbrev pub shape_of : Wave → Float → Float → Float → Float → Shape
shape_of wave amplitude phase frequency duty = record { wave = wave; amplitude = amplitude; phase = phase; frequency = frequency; duty_cycle = duty }

-- ---- the Rust's constants, as their bits
abbrev pub half : Float
half = of_bits binary32 0x3F000000

abbrev pub two : Float
two = of_bits binary32 0x40000000

abbrev pub three : Float
three = of_bits binary32 0x40400000

abbrev pub four : Float
four = of_bits binary32 0x40800000

-- 180
abbrev pub half_turn : Float
half_turn = of_bits binary32 0x43340000

-- the f32 nearest to pi, 13176795 / 2 ^ 22
abbrev pub pi : Float
pi = of_bits binary32 0x40490FDB

-- ---- PWM

-- how many samples a period has: all n where the frequency is at least n, and n / frequency else
unfoldable pub samples_per_period : Float → Float → Float
samples_per_period frequency n = cond (le n frequency) n (div binary32 n frequency)

-- the amplitude in the part of a period that is below the duty cycle, and 0 elsewhere
unfoldable pub pwm_at : Shape → Float → Float → Float
pwm_at s n i =
    let period = samples_per_period s.frequency n in
    cond (lt (div binary32 (rem binary32 i period) period) s.duty_cycle) s.amplitude zero32

-- ---- the two ramps

-- a period in seconds
unfoldable pub period_seconds : Shape → Float
period_seconds s = div binary32 one32 s.frequency

-- the phase as a time in seconds: the Rust's `phase_rad / angular_freq`, the phase in radians over the radians in a second
unfoldable pub shift : Shape → Float
shift s = div binary32 (div binary32 (mul binary32 s.phase pi) half_turn) (mul binary32 (mul binary32 two pi) s.frequency)

-- where in its period place i of n lies, in seconds: the samples are one second
unfoldable pub t_mod : Shape → Float → Float → Float
t_mod s n i = rem binary32 (add binary32 (div binary32 i n) (shift s)) (period_seconds s)

-- up from minus the amplitude in the first half of a period, and down again in the second
unfoldable pub triangular_at : Shape → Float → Float → Float
triangular_at s n i =
    let normalized = div binary32 (t_mod s n i) (period_seconds s) in
    cond (lt normalized half)
    (mul binary32 s.amplitude (sub binary32 (mul binary32 four normalized) one32))
    (mul binary32 s.amplitude (sub binary32 three (mul binary32 four normalized)))

-- up from minus the amplitude through the whole period
unfoldable pub sawtooth_at : Shape → Float → Float → Float
sawtooth_at s n i = mul binary32 s.amplitude (sub binary32 (div binary32 (mul binary32 two (t_mod s n i)) (period_seconds s)) one32)

-- ---- all waves

abbrev pub of_wave : Wave → Shape → Float → Float → Float
of_wave DC s n i = s.amplitude
of_wave PWM s n i = pwm_at s n i
of_wave Triangular s n i = triangular_at s n i
of_wave Sawtooth s n i = sawtooth_at s n i

-- the sample at place i of n
unfoldable pub sample_at : Shape → ℕ → ℕ → Float
sample_at s n i = of_wave s.wave s (count32 n) (count32 i)

-- 01, row 3: "a slice of samples [..] filled by the generator, has more than 65,536 places", and "Nothing but 0 writes to what was lent"; else every place has its sample
unfoldable pub generated : Shape → List Float → Left Outcome (List Float)
generated s xs = cond (too_long (length xs)) (left (Err TooLong) xs) (left done (filled (sample_at s (length xs)) (length xs) xs))

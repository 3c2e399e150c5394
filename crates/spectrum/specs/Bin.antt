-- One bin of the spectrum, operation by operation. Definitions only.
use Rattle.std.specs.Prelude.{ℕ, zero, suc, ◌*◌, ◌/◌, ◌%◌, List, length, pos, from_bits, slice_index_or, Float}
use Rattle.std.specs.Float.{nan, binary64}
use Rattle.std.specs.Float.Ieee.{add, sub, mul, div, of_int}
use Rattle.number.specs.Number.{root, narrow}
use Rattle.quarter.specs.Turn.{sine_of, cosine_of}
use Rattle.spectrum.specs.declared.parts.Sums.{Sums}

-- place j of n places around the turn, in steps of 1/4096 turn
unfoldable pub step_of : ℕ → ℕ → ℕ
step_of n j = j * 4096 / n

-- 01, "For length n on the grid, bin k and place i, the angle is ((k·i mod n)·4096/n) steps of 1/4096 turn"
unfoldable pub angle_of : ℕ → ℕ → ℕ → ℕ
angle_of n k i = step_of n (k * i % n)

abbrev pub sums_with : Float → Float → Sums
sums_with re im = record { real = re; imag = im }

-- the Rust's `real += sample * cos(angle); imag -= sample * sin(angle)`, in f64
unfoldable pub turned : Sums → Float → Float → Float → Sums
turned s x cos sin = sums_with (add binary64 s.real (mul binary64 x cos)) (sub binary64 s.imag (mul binary64 x sin))

-- the sums of bin k over the first i samples, in index order from 0
unfoldable pub sums_to : List Float → ℕ → ℕ → Sums
sums_to xs k zero = sums_with (from_bits binary64 0) (from_bits binary64 0)
sums_to xs k (suc i) = turned (sums_to xs k i) (slice_index_or xs i nan) (cosine_of (angle_of (length xs) k i)) (sine_of (angle_of (length xs) k i))

unfoldable pub sums_of : List Float → ℕ → Sums
sums_of xs k = sums_to xs k (length xs)

-- 2.0
abbrev pub two : Float
two = from_bits binary64 0x4000000000000000

-- the Rust's `sqrt(real * real + imag * imag) * 2.0 / n as f64`, narrowed
unfoldable pub size_of : Sums → ℕ → Float
size_of s n =
    narrow
    (div binary64 (mul binary64 (root binary64 (add binary64 (mul binary64 s.real s.real) (mul binary64 s.imag s.imag))) two)
    (of_int binary64 (pos n)))

-- the magnitude of bin k, before bin 0 is halved
unfoldable pub magnitude_of : List Float → ℕ → Float
magnitude_of xs k = size_of (sums_of xs k) (length xs)

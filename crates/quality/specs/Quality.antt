-- What the five calls of `quality` answer, operation by operation (01, item 7). Definitions only.
use Rattle.std.specs.Prelude.{ℕ, ◌-◌, Bool, cond, ◌||◌, List, length, ◌==◌, from_bits, nat_le, slice_index_or, Result, Ok, Err, Option, Some, None, Float}
use Rattle.std.specs.Float.{nan, binary32, binary64}
use Rattle.std.specs.Float.Ieee.{sub, div, lt}
use Rattle.answers.specs.declared.Refusal.{Refusal}
use Rattle.answers.specs.declared.Refusal.TheVariants.{TooLong}
use Rattle.answers.specs.Numbers.{too_long}
use Rattle.laws.specs.Literals.{zero32, zero64, tiny32}
use Rattle.laws.specs.Quotients.{percent_of}
use Rattle.laws.specs.Samples.{higher, square_of}
use Rattle.laws.specs.Walks.{pairs}
use Rattle.number.specs.Number.{narrowed_root}
use Rattle.quality.specs.declared.Sfdr.{Sfdr}
use Rattle.quality.specs.declared.Sfdr.TheVariants as S
use Rattle.quality.specs.Powers.{power_in}

-- ---- 01, item 7: "a bin of 0 or past the end is unusable", the bin b of n places
unfoldable pub unusable_bin : ℕ → ℕ → Bool
unusable_bin n b = b == 0 || nat_le n b

-- what a call answers of n places and the bin b, by whether the bin is unusable. 01, row 3: 3 for more than 65,536 places, whatever the bin
abbrev pub for_bin : {A : Type 0} → ℕ → ℕ → A → A → Result A Refusal
for_bin n b unusable usable = cond (too_long n) (Err TooLong) (Ok (cond (unusable_bin n b) unusable usable))

-- ---- distortion in percent: the root of the harmonics' power, narrowed, in percent of the fundamental; 0 for a fundamental below 1e-12.
-- `compute_thd_from_spectrum` "sums every multiple of the fundamental", from order 2 on
unfoldable pub thd_of_spectrum : List Float → ℕ → Float
thd_of_spectrum s b =
    cond (lt (slice_index_or s b nan) tiny32) zero32 (percent_of (narrowed_root (power_in s b 2)) (slice_index_or s b nan))

-- 01, row 3, or else "a THD of 0.0 for a fundamental bin of 0 or past the end", which is no refusal
unfoldable pub answer_thd : List Float → ℕ → Result Float Refusal
answer_thd s b = for_bin (length s) b zero32 (thd_of_spectrum s b)

-- ---- effective bits: 1.76 and 6.02 are the f32 nearest to them
unfoldable pub enob_of : Float → Float
enob_of x = div binary32 (sub binary32 x (from_bits binary32 0x3FE147AE)) (from_bits binary32 0x40C0A3D7)

-- ---- signal over noise, and signal over noise and distortion

-- the fundamental's own power, and that of all places from 1 on: the multiples of 1 from order 1
abbrev pub own_of : List Float → ℕ → Float
own_of s b = square_of (slice_index_or s b nan)

abbrev pub total_power : List Float → Float
total_power s = power_in s 1 1

-- the Rust's `signal_power / noise_power`, after `if noise_power > 0.0 { noise_power } else { 1e-30 }`: noise that is not above 0 counts as the f64 1e-30
unfoldable pub over_noise : Float → Float → Float
over_noise own noise = div binary64 own (cond (lt zero64 noise) noise (from_bits binary64 0x39B4484BFEEBC2A0))

-- 01, item 7, the quotient of `compute_snr`: noise is the total less the fundamental, and then less its harmonics from order 2 on
unfoldable pub snr_of : List Float → ℕ → Float
snr_of s b = over_noise (own_of s b) (sub binary64 (sub binary64 (total_power s) (own_of s b)) (power_in s b 2))

-- 01, item 7, the quotient of `compute_sinad`: noise and distortion are the total less the fundamental
unfoldable pub sinad_of : List Float → ℕ → Float
sinad_of s b = over_noise (own_of s b) (sub binary64 (total_power s) (own_of s b))

-- 01, row 3 (in a refusal "a quotient the ratio 0", told at the C boundary: Kinds.antt); else "All three answer by name that a bin of 0 or past the end is unusable": None
unfoldable pub answer_quotient : (List Float → ℕ → Float) → List Float → ℕ → Result (Option Float) Refusal
answer_quotient ratio s b = for_bin (length s) b None (Some (ratio s b))

-- ---- the fundamental over the largest spur

-- the largest so far, from 0, with the place i: the fundamental is no spur, and only what is strictly larger replaces it
unfoldable pub spur_at : ℕ → Float → ℕ → Float → Float → Float
spur_at b best i prev x = cond (i == b) best (higher best x)

-- over the places from 1 on
unfoldable pub spur_of : List Float → ℕ → Float
spur_of s b = pairs (spur_at b) zero32 s (length s - 1)

-- "either the ratio or the answer that there is no spur (largest spur at most 1e-12, no other bin, or NaN throughout)"
unfoldable pub sfdr_of : List Float → ℕ → Sfdr
sfdr_of s b = cond (lt tiny32 (spur_of s b)) (S.Ratio (div binary32 (slice_index_or s b nan) (spur_of s b))) S.NoSpur

-- as `answer_quotient`, for the quotient of `compute_sfdr`
unfoldable pub answer_sfdr : List Float → ℕ → Result Sfdr Refusal
answer_sfdr s b = for_bin (length s) b S.UnusableBin (sfdr_of s b)

-- Sine and cosine of each step of 1/4096 turn, for steps from 0 to 4095. Definitions only.
use Rattle.std.specs.Prelude.{false, cond, ℕ, zero, suc, ◌+◌, ◌-◌, ◌/◌, ◌%◌, ◌^◌, leb, Float}
use Rattle.std.specs.Float.{binary64}
use Rattle.std.specs.Float.Ieee.{round, neg}
use Rattle.quarter.specs.Wave.{t}

-- n / 2^30 as an f64: the nearest one, which is n / 2^30 itself for every entry (`entry-exact`, proofs/Fraction.antt)
unfoldable pub fraction : ℕ → Float
fraction n = round binary64 false n (2 ^ 30)

-- by quadrant: up, down, and the same below zero
unfoldable pub quadrant : ℕ → Float → Float → Float
quadrant zero rising falling = rising
quadrant (suc zero) rising falling = falling
quadrant (suc (suc zero)) rising falling = neg rising
quadrant (suc (suc (suc q))) rising falling = neg falling

-- 01, "sine and cosine come from the table by quadrant, divided by 2^30"
unfoldable pub sine_of : ℕ → Float
sine_of s = quadrant (s / 1024) (fraction (t (s % 1024))) (fraction (t (1024 - s % 1024)))

-- the cosine is the sine a quarter of a turn on
unfoldable pub cosine_of : ℕ → Float
cosine_of s = sine_of ((s + 1024) % 4096)

-- ---- for the code alone: no public contract cites what follows

-- the quarter's place for a step h of the half turn, 0 to 2047: up to 1024 and then down
abbrev pub folded : ℕ → ℕ
folded h = cond (leb h 1024) h (2048 - h)

-- 01's other examples of the spectrum, over every list of samples of the length that is named. Assumes nothing.
use Rattle.std.proofs.Common.{◌≡◌, ◌+◌, ◌/◌, ◌≤◌, Bool, true, false, ◌||◌, List, [], ◌∷◌, length, refl, arith, le-ltb, lt-ltb, Err}
use lib.Ieee.{Float}
use Rattle.answers.specs.Numbers.{done, if_done}
use Rattle.answers.specs.declared.Refusal.TheVariants.{OutputShort, TooLong, OffGrid}
use Rattle.answers.specs.Left.{left}
use Rattle.laws.specs.Filled.{filled}
use Rattle.spectrum.specs.Grid.{lengths, on_grid}
use Rattle.spectrum.specs.Spectrum.{outcome_of, output_short, spectrum_of}
use Rattle.spectrum.specs.Sines.{spectrum_in}
use Rattle.spectrum.proofs.Grid.{grid_le}

-- "Length 3: 4."
pub three : (a b c : Float) (out : List Float) → spectrum_of (a ∷ b ∷ c ∷ []) out ≡ left (Err OffGrid) out
unfolding spectrum_of outcome_of on_grid lengths if_done
three a b c out = refl

-- "Length 1: done, nothing written.", and no samples
pub one : (a : Float) (out : List Float) → spectrum_of (a ∷ []) out ≡ left done out
unfolding spectrum_of outcome_of on_grid lengths if_done filled
one a out = rw (le-ltb (length out) 0 (omega arith))

pub none : (out : List Float) → spectrum_of [] out ≡ left done out
unfolding spectrum_of outcome_of on_grid lengths if_done filled
none out = rw (le-ltb (length out) 0 (omega arith))

-- "65,537 gives 3"; 65,536 and 8,192 samples are off the grid
pub longer : (xs out : List Float) → length xs ≡ 65537 → spectrum_of xs out ≡ left (Err TooLong) out
unfolding spectrum_of outcome_of if_done
longer xs out e = rw e

pub longest_off : (xs out : List Float) → length xs ≡ 65536 → spectrum_of xs out ≡ left (Err OffGrid) out
unfolding spectrum_of outcome_of on_grid lengths if_done
longest_off xs out e = rw e

pub twice_the_grid : (xs out : List Float) → length xs ≡ 8192 → spectrum_of xs out ≡ left (Err OffGrid) out
unfolding spectrum_of outcome_of on_grid lengths if_done
twice_the_grid xs out e = rw e

-- an output one short of half the length: 2, and nothing is written
pub one_short : (xs out : List Float) → on_grid (length xs) ≡ true → length out + 1 ≡ length xs / 2 → spectrum_of xs out ≡ left (Err OutputShort) out
unfolding spectrum_of outcome_of if_done
one_short xs out g e =
    let h : length xs ≤ 4096 = grid_le g in
    rw (le-ltb 65536 (length xs) (omega arith), g, lt-ltb (length out) (length xs / 2) (omega arith))

-- a scratch one short of the length: 2, and nothing is left to either
pub scratch_short : (xs w out : List Float) → on_grid (length xs) ≡ true → length w + 1 ≡ length xs → spectrum_in xs w out ≡ left (Err OutputShort) (out, w)
unfolding spectrum_in outcome_of if_done
scratch_short xs w out g e =
    let h : length xs ≤ 4096 = grid_le g in
    rw (le-ltb 65536 (length xs) (omega arith), g, lt-ltb (length w) (length xs) (omega arith), or_true (output_short xs out))
  where
    or_true : (a : Bool) → (a || true) ≡ true
    or_true true = refl
    or_true false = refl

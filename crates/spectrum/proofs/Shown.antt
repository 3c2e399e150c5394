-- How a call ends at lengths on the grid and beside it, computed from the definitions: the numbers are those of 01's table. Assumes nothing.
use Rattle.std.proofs.Common.{◌≡◌, ℕ, ◌+◌, ◌-◌, ◌^◌, false, List, [], ◌∷◌, map, refl}
use Rattle.answers.specs.Numbers.{number_of}
use Rattle.spectrum.specs.Grid.{lengths, on_grid}
use Rattle.spectrum.specs.Spectrum.{outcome_of}

-- of n samples, with room
abbrev number : ℕ → ℕ
number n = number_of (outcome_of n false)

-- 01, row 4, "none of 0, 1 and the powers of two from 2 to 4,096", and row 3, "more than 65,536 places": 2^0 to 2^17, and one more and one less than each
abbrev exponents : List ℕ
exponents = 0 ∷ 1 ∷ 2 ∷ 3 ∷ 4 ∷ 5 ∷ 6 ∷ 7 ∷ 8 ∷ 9 ∷ 10 ∷ 11 ∷ 12 ∷ 13 ∷ 14 ∷ 15 ∷ 16 ∷ 17 ∷ []

pub powers : map (λ (k : ℕ). number (2 ^ k)) exponents
    ≡ 0 ∷ 0 ∷ 0 ∷ 0 ∷ 0 ∷ 0 ∷ 0 ∷ 0 ∷ 0 ∷ 0 ∷ 0 ∷ 0 ∷ 0 ∷ 4 ∷ 4 ∷ 4 ∷ 4 ∷ 3 ∷ []
unfolding outcome_of on_grid lengths
powers = refl

pub above : map (λ (k : ℕ). number (2 ^ k + 1)) exponents
    ≡ 0 ∷ 4 ∷ 4 ∷ 4 ∷ 4 ∷ 4 ∷ 4 ∷ 4 ∷ 4 ∷ 4 ∷ 4 ∷ 4 ∷ 4 ∷ 4 ∷ 4 ∷ 4 ∷ 3 ∷ 3 ∷ []
unfolding outcome_of on_grid lengths
above = refl

pub below : map (λ (k : ℕ). number (2 ^ k - 1)) exponents
    ≡ 0 ∷ 0 ∷ 4 ∷ 4 ∷ 4 ∷ 4 ∷ 4 ∷ 4 ∷ 4 ∷ 4 ∷ 4 ∷ 4 ∷ 4 ∷ 4 ∷ 4 ∷ 4 ∷ 4 ∷ 3 ∷ []
unfolding outcome_of on_grid lengths
below = refl

-- Words of every kind, and what they count as, computed from the definitions. Assumes nothing.
use Rattle.std.specs.Prelude.{ℕ, ◌≡◌, refl, List, [], ◌∷◌, ◌++◌, length}
use Rattle.std.specs.Float.Ieee.{of_bits, is_nan}
use Rattle.laws.specs.Walks.{over}
use Rattle.laws.specs.HowMany.{how_many}
use Rattle.counts.specs.Counts.{is_infinite, not_numbers_of, infinite_of}
use Rattle.counts.specs.Claims.{places_of, not_number_word, infinite_word, samples_of}

-- the signalling NaN of least and of most fraction, the quiet one of least, and all ones, with either sign
abbrev pub nan_words : List ℕ
nan_words = 0x7F800001 ∷ 0x7FBFFFFF ∷ 0x7FC00000 ∷ 0x7FFFFFFF ∷ 0xFF800001 ∷ 0xFFBFFFFF ∷ 0xFFC00000 ∷ 0xFFFFFFFF ∷ []

abbrev pub infinity_words : List ℕ
infinity_words = 0x7F800000 ∷ 0xFF800000 ∷ []

-- the largest that is finite, the smallest above 0, one, and zero, with either sign
abbrev pub finite_words : List ℕ
finite_words = 0x7F7FFFFF ∷ 0x00000001 ∷ 0x3F800000 ∷ 0x00000000 ∷ 0xFF7FFFFF ∷ 0x80000001 ∷ 0xBF800000 ∷ 0x80000000 ∷ []

abbrev words : List ℕ
words = nan_words ++ infinity_words ++ finite_words

pub counted : not_numbers_of (samples_of words) ∷ infinite_of (samples_of words) ∷ [] ≡ length nan_words ∷ length infinity_words ∷ []
unfolding not_numbers_of infinite_of how_many over is_infinite is_nan of_bits
counted = refl

pub placed : places_of not_number_word words ∷ places_of infinite_word words ∷ [] ≡ (0 ∷ 1 ∷ 2 ∷ 3 ∷ 4 ∷ 5 ∷ 6 ∷ 7 ∷ []) ∷ (8 ∷ 9 ∷ []) ∷ []
placed = refl

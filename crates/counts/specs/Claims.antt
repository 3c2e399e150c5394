-- What the two counts say of the samples and of their words. 02, h: "They are the numbers of samples with those bit patterns". Definitions only; each claim is proved in proofs/.
use Rattle.std.specs.Prelude.{ℕ, suc, ◌+◌, ◌/◌, ◌%◌, ◌-◌, ◌^◌, ◌<◌, ◌≡◌, Bool, not, ◌&&◌, cond, List, [], ◌∷◌, ◌++◌, map, T, eqb, length, get_or, replicate, Float}
use Rattle.std.specs.Float.{nan, binary32}
use Rattle.std.specs.Float.Ieee.{is_nan, fits, of_bits, to_bits}
use Rattle.std.specs.Float.Ieee.Scale.{finite}
use Rattle.laws.specs.HowMany.{how_many}
use Rattle.counts.specs.Counts.{is_infinite, not_numbers_of, infinite_of}

-- ---- places

-- the places of the elements that pass a test, in their order; the first element's is `from`
abbrev pub places_from : {A : Type 0} → ℕ → (A → Bool) → List A → List ℕ
places_from from test [] = []
places_from from test (x ∷ xs) = cond (test x) (from ∷ places_from (suc from) test xs) (places_from (suc from) test xs)

abbrev pub places_of : {A : Type 0} → (A → Bool) → List A → List ℕ
places_of test xs = places_from 0 test xs

-- each count is the number of such places (`are_places`)
abbrev pub ArePlaces : Type 0
ArePlaces = (xs : List Float) → (not_numbers_of xs ≡ length (places_of is_nan xs)) × (infinite_of xs ≡ length (places_of is_infinite xs))

-- ---- bit patterns. A sample's word, by IEEE 754's binary32: a sign, eight binary digits of the exponent's field and 23 of the fraction

abbrev pub exponent_field : ℕ → ℕ
exponent_field word = word % 2 ^ 31 / 2 ^ 23

abbrev pub fraction_field : ℕ → ℕ
fraction_field word = word % 2 ^ 23

-- the field all ones with a fraction that is not 0: no number, quiet or signalling, whatever the sign
abbrev pub not_number_word : ℕ → Bool
not_number_word word = eqb (exponent_field word) 255 && not (eqb (fraction_field word) 0)

-- the field all ones with a fraction of 0: infinite, whatever the sign
abbrev pub infinite_word : ℕ → Bool
infinite_word word = eqb (exponent_field word) 255 && eqb (fraction_field word) 0

-- the samples that these words stand for
abbrev pub samples_of : List ℕ → List Float
samples_of words = map (of_bits binary32) words

-- every capture of f32 is that of some words (`of_words`), so what is said of words is said of every capture
abbrev pub OfWords : Type 0
OfWords = (xs : List Float) → ((k : ℕ) → k < length xs → T (fits binary32 (get_or xs k nan))) → samples_of (map (to_bits binary32) xs) ≡ xs

-- each count is the number of places of the words with such a pattern (`by_pattern`)
abbrev pub ByPattern : Type 0
ByPattern =
    (words : List ℕ)
    → (not_numbers_of (samples_of words) ≡ length (places_of not_number_word words)) × (infinite_of (samples_of words) ≡ length (places_of infinite_word words))

-- ---- what whoever reads them may conclude

abbrev pub AllFinite : List Float → Type 0
AllFinite xs = (k : ℕ) → k < length xs → T (finite (get_or xs k nan))

abbrev pub BothZero : List Float → Type 0
BothZero xs = (not_numbers_of xs ≡ 0) × (infinite_of xs ≡ 0)

-- both are 0 exactly when all samples are finite (`zero_exactly`)
abbrev pub ZeroExactly : Type 0
ZeroExactly = (xs : List Float) → (BothZero xs → AllFinite xs) × (AllFinite xs → BothZero xs)

-- together with the finite ones they make the length (`make_length`)
abbrev pub MakeLength : Type 0
MakeLength = (xs : List Float) → not_numbers_of xs + infinite_of xs + how_many finite xs ≡ length xs

-- ---- one sample more, and the brown-out

-- among any samples it counts as 1 or 0 (`one_more`)
abbrev pub OneMore : Type 0
OneMore =
    (before : List Float) (x : Float) (after : List Float)
    → (not_numbers_of (before ++ x ∷ after) ≡ cond (is_nan x) 1 0 + not_numbers_of (before ++ after))
    × (infinite_of (before ++ x ∷ after) ≡ cond (is_infinite x) 1 0 + infinite_of (before ++ after))

abbrev pub all_ones : ℕ
all_ones = 2 ^ 32 - 1

-- n words of all ones among any samples count as n more that are no number, and as none that is infinite (`brown_out`)
abbrev pub BrownOut : Type 0
BrownOut =
    (before after : List Float) (n : ℕ)
    → (not_numbers_of (before ++ (samples_of (replicate n all_ones) ++ after)) ≡ n + not_numbers_of (before ++ after))
    × (infinite_of (before ++ (samples_of (replicate n all_ones) ++ after)) ≡ infinite_of (before ++ after))

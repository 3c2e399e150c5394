-- What the two counts of the record that is handed out say (02, h). Definitions only; each claim is proved in proofs/Counted.antt.
use Rattle.std.specs.Prelude.{◌≤◌, ◌<◌, ◌≡◌, ◌⊎◌, List, length, Float, Err}
use Rattle.answers.specs.declared.Refusal.TheVariants.{TooLong}
use Rattle.answers.specs.Numbers.{longest}
use Rattle.answers.specs.Answers.{told}
use Rattle.generator.specs.declared.Wave.{Wave}
use Rattle.counts.specs.Counts.{not_numbers_of, infinite_of}
use Rattle.counts.specs.Claims.{AllFinite}
use Rattle.figures.specs.declared.TimeFigures.{TimeFigures}
use Rattle.figures.specs.Figures.{answer_of}

-- a capture that is measured: at least one sample, and at most 65,536
abbrev pub IsMeasured : List Float → Type 0
IsMeasured xs = (0 < length xs) × (length xs ≤ longest)

-- the record's counts are those of the samples
abbrev pub HasCounts : List Float → TimeFigures → Type 0
HasCounts xs r = (r.not_numbers ≡ not_numbers_of xs) × (r.infinite ≡ infinite_of xs)

-- of a capture that is measured the counts are its own, whatever the earlier record was (`counts_measured`)
abbrev pub CountsMeasured : Type 0
CountsMeasured =
    (wave : Wave) (amplitude frequency : Float) (earlier : TimeFigures) (xs : List Float) → IsMeasured xs
    → HasCounts xs (told earlier (answer_of wave amplitude frequency earlier xs))

-- 02, h: "with no samples the earlier counts come back with the earlier record", and so they are told where the call is refused (`counts_kept`)
abbrev pub CountsKept : Type 0
CountsKept =
    (wave : Wave) (amplitude frequency : Float) (earlier : TimeFigures) (xs : List Float) → (length xs ≡ 0) ⊎ (longest < length xs)
    → told earlier (answer_of wave amplitude frequency earlier xs) ≡ earlier

-- which it is, of more samples than are taken: whoever handed the earlier record in has it (`long_refused`)
abbrev pub LongRefused : Type 0
LongRefused =
    (wave : Wave) (amplitude frequency : Float) (earlier : TimeFigures) (xs : List Float) → longest < length xs
    → answer_of wave amplitude frequency earlier xs ≡ Err TooLong

abbrev pub BothZeroIn : TimeFigures → Type 0
BothZeroIn r = (r.not_numbers ≡ 0) × (r.infinite ≡ 0)

-- for whoever reads the record of such a capture: both are 0 exactly when every sample was finite (`from_finite`). It does not say that the figures are finite, which
-- can be beyond f32, nor anything of the amplitude and the frequency that were handed in
abbrev pub FromFinite : Type 0
FromFinite =
    (wave : Wave) (amplitude frequency : Float) (earlier : TimeFigures) (xs : List Float) → IsMeasured xs
    → (BothZeroIn (told earlier (answer_of wave amplitude frequency earlier xs)) → AllFinite xs)
    × (AllFinite xs → BothZeroIn (told earlier (answer_of wave amplitude frequency earlier xs)))

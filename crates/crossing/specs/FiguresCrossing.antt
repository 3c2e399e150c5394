-- How an answer of `figures` crosses the boundary: the outcome as its number, the record as it is. 01, of a refusal: "a signal state, port state or earlier
-- record handed in comes back unchanged". Definitions only.
use Rattle.answers.specs.Numbers.{number_of}
use Rattle.std.specs.Prelude.{Result}
use Rattle.answers.specs.declared.Refusal.{Refusal}
use Rattle.answers.specs.Answers.{ended, told}
use Rattle.figures.specs.declared.TimeFigures.{TimeFigures}
use Rattle.crossing.specs.declared.times.CodedFigures.{CodedFigures}

-- the earlier record was handed in
abbrev pub coded_figures : TimeFigures → Result TimeFigures Refusal → CodedFigures
coded_figures earlier a = record { code = number_of (ended a); figures = told earlier a }

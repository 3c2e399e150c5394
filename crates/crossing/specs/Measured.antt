-- How a measured number crosses the boundary: its outcome as a number; 01, "What a refusal returns is zero throughout". Definitions only.
use Rattle.std.specs.Prelude.{Float, Result}
use Rattle.answers.specs.declared.Refusal.{Refusal}
use Rattle.answers.specs.Answers.{ended, told}
use Rattle.answers.specs.Numbers.{number_of}
use Rattle.laws.specs.Literals.{zero32}
use Rattle.crossing.specs.declared.measured.Figure.{Figure}

abbrev pub figure_of : Result Float Refusal → Figure
figure_of m = record { code = number_of (ended m); value = told zero32 m }

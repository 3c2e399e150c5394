-- How an answer of `fundamental` crosses the boundary: the outcome as its number, the figures as they are; 01, "What a refusal returns is zero throughout". Definitions only.
use Rattle.answers.specs.Numbers.{number_of}
use Rattle.std.specs.Prelude.{Result}
use Rattle.answers.specs.declared.Refusal.{Refusal}
use Rattle.answers.specs.Answers.{ended, told}
use Rattle.fundamental.specs.declared.FundamentalPower.{FundamentalPower}
use Rattle.fundamental.specs.Fundamental.{zero_fundamental}
use Rattle.crossing.specs.declared.fundamentals.CodedFundamental.{CodedFundamental}

abbrev pub coded_fundamental : Result FundamentalPower Refusal → CodedFundamental
coded_fundamental a = let power = told zero_fundamental a in record { code = number_of (ended a); active = power.active; reactive = power.reactive }

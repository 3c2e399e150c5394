-- How an answer of `power` crosses the boundary: the outcome as its number, the record as it is; 01, "What a refusal returns is zero throughout". Definitions only.
use Rattle.std.specs.Prelude.{◌≡◌, List, ℤ, Result}
use Rattle.answers.specs.Numbers.{number_of}
use Rattle.answers.specs.declared.Refusal.{Refusal}
use Rattle.answers.specs.Answers.{ended, told}
use Rattle.power.specs.declared.Power.{Power}
use Rattle.power.specs.Power.{answer_of, zero_power}
use Rattle.accuracy.specs.Accuracy.{samples_of}
use Rattle.code_power.specs.Codes.{NearExact}
use Rattle.crossing.specs.declared.powers.CodedPower.{CodedPower}

abbrev pub coded_power : Result Power Refusal → CodedPower
coded_power a = record { code = number_of (ended a); power = told zero_power a }

-- of codes: the same, and how near the record is to exact arithmetic
pub record CrossedCodes (volts amps : List ℤ) (r : CodedPower) : Type 0 where
  pub answer : r ≡ coded_power (answer_of (samples_of volts) (samples_of amps))
  pub near : NearExact volts amps r.power

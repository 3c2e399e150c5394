-- How a quotient crosses the boundary: the outcome as its number, the case as its kind and ratio. 01, "What a refusal returns is zero
-- throughout (.. a quotient the ratio 0)". Definitions only.
use Rattle.answers.specs.Numbers.{number_of}
use Rattle.std.specs.Prelude.{Float, Option, Result}
use Rattle.answers.specs.declared.Refusal.{Refusal}
use Rattle.answers.specs.Answers.{ended, told}
use Rattle.quality.specs.declared.Sfdr.{Sfdr}
use Rattle.quality.specs.Kinds.{kind_of, ratio_of, refused_quotient, sfdr_kind_of, sfdr_ratio_of, refused_sfdr}
use Rattle.crossing.specs.declared.quotients.CodedQuotient.{CodedQuotient}

abbrev pub coded_quotient : Result (Option Float) Refusal → CodedQuotient
coded_quotient a = let quotient = told refused_quotient a in record { code = number_of (ended a); kind = kind_of quotient; ratio = ratio_of quotient }

-- an f32 is an f64 as it stands
abbrev pub coded_sfdr : Result Sfdr Refusal → CodedQuotient
coded_sfdr a = let quotient = told refused_sfdr a in record { code = number_of (ended a); kind = sfdr_kind_of quotient; ratio = sfdr_ratio_of quotient }

-- How the answer of a reading or a writing crosses the boundary: the outcome as its number, the rest as it is. 01, "5, 6 and 7 bring the line
-- number from 1, all others bring 0", and "What a refusal returns is zero throughout". Definitions only.
use Rattle.answers.specs.Numbers.{number_of}
use Rattle.std.specs.Prelude.{ℕ, Result}
use Rattle.answers.specs.declared.Refusal.{Refusal}
use Rattle.answers.specs.Answers.{ended, told}
use Rattle.capture.specs.Reading.{Verdict, ended_so, line_told, pairs_told}
use Rattle.crossing.specs.declared.captures.CodedRead.{CodedRead}
use Rattle.crossing.specs.declared.captures.CodedWritten.{CodedWritten}

abbrev pub coded_read : Verdict → CodedRead
coded_read a = record { code = number_of (ended_so a); line = line_told a; pairs = pairs_told a }

abbrev pub coded_written : Result ℕ Refusal → CodedWritten
coded_written a = record { code = number_of (ended a); bytes = told 0 a }

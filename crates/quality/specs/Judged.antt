-- For the code alone: no public contract cites this file. The three ways in which a call goes on. Definitions only.
use Rattle.std.specs.Prelude.{ℕ, Bool, true, false, Result}
use Rattle.answers.specs.declared.Refusal.{Refusal}
use Rattle.quality.specs.Quality.{for_bin}

-- of n places and the bin b: refused, or whether the bin is usable; proofs/Verdicts.antt says what each case means for the answers
unfoldable pub judged : ℕ → ℕ → Result Bool Refusal
judged n b = for_bin n b false true

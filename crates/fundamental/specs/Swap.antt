-- What swapping voltage and current does, on every input (02, c: "swapping voltage and current negates the second, zeros alike"). Definitions only.
use Rattle.std.specs.Prelude.{◌≡◌, ℕ, ◌⊎◌, List, Float, Result}
use Rattle.std.specs.Float.Ieee.{neg}
use Rattle.laws.specs.Literals.{zero32}
use Rattle.answers.specs.declared.Refusal.{Refusal}
use Rattle.answers.specs.Answers.{ended, told}
use Rattle.fundamental.specs.declared.FundamentalPower.{FundamentalPower}
use Rattle.fundamental.specs.Fundamental.{zero_fundamental, fundamental_answer}

-- y is x with the other sign, of a zero too; or both are +0, as where the two products of the difference are equal and not zeros
abbrev pub Negated : Float → Float → Type 0
Negated x y = (y ≡ neg x) ⊎ ((x ≡ zero32) × (y ≡ zero32))

-- b is the answer with voltage and current swapped
pub record Swapped (a b : Result FundamentalPower Refusal) : Type 0 where
  pub outcome : ended b ≡ ended a
  pub active : (told zero_fundamental b).active ≡ (told zero_fundamental a).active
  pub reactive : Negated (told zero_fundamental a).reactive (told zero_fundamental b).reactive

abbrev pub Swap : Type 0
Swap = (v i : List Float) (k : ℕ) → Swapped (fundamental_answer v i k) (fundamental_answer i v k)

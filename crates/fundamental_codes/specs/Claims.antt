-- What `fundamental_power` answers for captures of whole codes: 02, c, "With both captures made of whole codes the signs must be stated exactly". Definitions only.
use Rattle.std.specs.Prelude.{ℕ, ◌*◌, ◌^◌, ◌≤◌, ◌<◌, ◌≡◌, ◌⊎◌, List, T, length, ℤ, nat_abs, Float}
use Rattle.std.specs.Float.Ieee.Scale.{finite}
use Rattle.laws.specs.Whole.{value}
use Rattle.answers.specs.Numbers.{done}
use Rattle.answers.specs.Answers.{ended}
use Rattle.accuracy.specs.Accuracy.{Capture, none, sign, SignOf}
use Rattle.fundamental.specs.Fundamental.{fundamental_answer, fundamental_told}
use Rattle.fundamental_codes.specs.Exact.{exact_active, exact_reactive, active_size, reactive_size, sizes}

-- ---- the figures are numbers

-- neither figure is an infinity or a NaN, at any length and bin: what is told of a refusal is zero
abbrev pub BothFinite : Type 0
BothFinite =
    (v i : List Float) (x y : ℕ → ℤ) (k : ℕ) → Capture v x → Capture i y
    → T (finite (fundamental_told v i k).active) × T (finite (fundamental_told v i k).reactive)

-- ---- their signs

-- codes whose f64 sums are exact: 2^23 sines of 2^30 at most, and every whole number up to 2^53 is an f64
abbrev pub exact_up_to : ℕ
exact_up_to = 2 ^ 23

-- the call is done, and both captures are of such codes
pub record LightCall (v i : List Float) (x y : ℕ → ℤ) (k : ℕ) : Type 0 where
  pub voltage : Capture v x
  pub current : Capture i y
  pub done : ended (fundamental_answer v i k) ≡ done
  pub light_voltage : sizes x (length v) ≤ exact_up_to
  pub light_current : sizes y (length v) ≤ exact_up_to

-- every capture of at most 256 codes is light, and one of 4,096 codes of size at most 2,048
abbrev pub Light : Type 0
Light = (x : ℕ → ℤ) (n m : ℕ) → ((j : ℕ) → j < n → nat_abs (x j) ≤ m) → n * m ≤ exact_up_to → sizes x n ≤ exact_up_to

-- f, a number by `BothFinite`, has d's sign or is a zero; so it is a zero where d is 0
abbrev pub NotAgainst : ℤ → Float → Type 0
NotAgainst d f = SignOf d f ⊎ (sign (value f) ≡ none)

-- no figure of a light call has the wrong sign
abbrev pub NeverWrong : Type 0
NeverWrong =
    (v i : List Float) (x y : ℕ → ℤ) (k : ℕ) → LightCall v i x y k
    → NotAgainst (exact_active x y (length v) k) (fundamental_told v i k).active
    × NotAgainst (exact_reactive x y (length v) k) (fundamental_told v i k).reactive

-- the exact sum or difference d is more than one part in 2^52 of s, the sizes of its two products added up
abbrev pub ClearOfZero : ℕ → ℤ → Type 0
ClearOfZero s d = s < 2 ^ 52 * nat_abs d

-- and where it is so clear of zero the figure has its sign, and is no zero
abbrev pub RightSign : Type 0
RightSign =
    (v i : List Float) (x y : ℕ → ℤ) (k : ℕ) → LightCall v i x y k
    → (ClearOfZero (active_size x y (length v) k) (exact_active x y (length v) k) → SignOf (exact_active x y (length v) k) (fundamental_told v i k).active)
    × (ClearOfZero (reactive_size x y (length v) k) (exact_reactive x y (length v) k) → SignOf (exact_reactive x y (length v) k) (fundamental_told v i k).reactive)

-- ---- every capture of codes: the sums may be rounded too

-- beyond all that the roundings of n pairs come to, in units of 2^-60
abbrev pub Beyond : ℕ → ℤ → Type 0
Beyond n d = n * n * n * 2 ^ 40 < nat_abs d

abbrev pub RightBeyond : Type 0
RightBeyond =
    (v i : List Float) (x y : ℕ → ℤ) (k : ℕ) → Capture v x → Capture i y → ended (fundamental_answer v i k) ≡ done
    → (Beyond (length v) (exact_active x y (length v) k) → SignOf (exact_active x y (length v) k) (fundamental_told v i k).active)
    × (Beyond (length v) (exact_reactive x y (length v) k) → SignOf (exact_reactive x y (length v) k) (fundamental_told v i k).reactive)

-- The numbers a call can return, and the limit. Definitions only.
use Rattle.std.specs.Prelude.{ℕ, Bool, true, false, cond, ltb, eqb, Result, Ok, Err}
use Rattle.answers.specs.declared.Refusal.{Refusal}
use Rattle.answers.specs.declared.Refusal.TheVariants.{LengthsDiffer, OutputShort, TooLong, OffGrid, WrongForm, WrongSum, WrongSequence, BinOutside, UnknownEdition, NoSuchRegister}
use Rattle.answers.specs.declared.Refusal.TheVariants.{RegisterFull, NotSuchFile, OtherLengths}

-- how a call ends: done, or refused
abbrev pub Outcome : Type 0
Outcome = Result (Unit {0}) Refusal

abbrev pub done : Outcome
done = Ok tt

-- 01, 'Numbers a call can return': the number of each row of the table
abbrev pub number_of : Outcome → ℕ
number_of (Ok u) = 0
number_of (Err LengthsDiffer) = 1
number_of (Err OutputShort) = 2
number_of (Err TooLong) = 3
number_of (Err OffGrid) = 4
number_of (Err WrongForm) = 5
number_of (Err WrongSum) = 6
number_of (Err WrongSequence) = 7
-- 02, the numbers that requests c, e, i (two), n and a add, "Refusals: 8, bin outside" and so on
number_of (Err BinOutside) = 8
number_of (Err UnknownEdition) = 9
number_of (Err NoSuchRegister) = 10
number_of (Err RegisterFull) = 11
number_of (Err NotSuchFile) = 12
number_of (Err OtherLengths) = 13

-- 01, row 0, "done", and "Nothing but 0 writes to what was lent": what a call gives or leaves where it is done, and what where it is refused
unfoldable pub if_done : {A : Type 0} → Outcome → A → A → A
if_done o done refused = cond (eqb (number_of o) 0) done refused

-- 01, row 3: "more than 65,536 places"
abbrev pub longest : ℕ
longest = 65536

-- 01, row 3: whether n places are more than that
abbrev pub too_long : ℕ → Bool
too_long n = ltb longest n

-- 01, "Where several hold: 3, 1, 4, 2": a chain of refusals tests in that order; the first that holds is the answer
abbrev pub refuse : Bool → Refusal → Outcome → Outcome
refuse true r next = Err r
refuse false r next = next

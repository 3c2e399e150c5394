-- What a call answers beside how it ends. Definitions only.
use Rattle.std.specs.Prelude.{ℕ, cond, Float, Result, Ok, Err}
use Rattle.answers.specs.declared.Refusal.{Refusal}
use Rattle.answers.specs.declared.Refusal.TheVariants.{TooLong}
use Rattle.answers.specs.Numbers.{Outcome, too_long}

-- a call that ends so answers x, or why it is refused
abbrev pub given : {A : Type 0} → Outcome → A → Result A Refusal
given (Ok u) x = Ok x
given (Err r) x = Err r

-- how the call ended that answers so
abbrev pub ended : {A : Type 0} → Result A Refusal → Outcome
ended (Ok x) = Ok tt
ended (Err r) = Err r

-- 01, "What a refusal returns is zero throughout .., but a signal state, port state or earlier record handed in comes back unchanged": what is told of an answer
-- to whoever wants a value whatever the outcome is, as the C boundary does; z where the call is refused
abbrev pub told : {A : Type 0} → A → Result A Refusal → A
told z (Ok x) = x
told z (Err r) = z

-- of n places that are read. 01, row 3: 3 where there are more than 65,536
abbrev pub measured : ℕ → Float → Result Float Refusal
measured n x = cond (too_long n) (Err TooLong) (Ok x)

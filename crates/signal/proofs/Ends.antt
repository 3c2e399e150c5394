-- How a call over a refused or a taken length ends. Assumes nothing.
use Rattle.std.specs.Prelude.{Option, Ok, Err}
use mathlib.Core.Path.{◌≡◌, refl, sym, ◌∙◌}
use mathlib.Core.Bool.{Bool, false, not}
use mathlib.Core.List.{List}
use lib.ListN.{length}
use lib.Ieee.{Float}
use Rattle.answers.specs.Numbers.{Outcome}
use Rattle.answers.specs.Numbers.{done}
use Rattle.answers.specs.declared.Refusal.{Refusal}
use Rattle.answers.specs.declared.Refusal.TheVariants.{OutputShort, TooLong, OffGrid}
use Rattle.answers.specs.Left.{left}
use Rattle.answers.specs.Numbers.{number_of, if_done, refuse}
use Rattle.answers.proofs.Ended.{if_refused, if_done_lem, if_not_zero, if_zero}
use Rattle.spectrum.specs.Spectrum.{outcome_of}
use Rattle.signal.specs.declared.State.{State}
use Rattle.signal.specs.declared.Answer.{Answer}
use Rattle.signal.specs.State.{as_port}
use Rattle.signal.specs.Calls.{SignalLeft, answer, unless_refused, ported}

-- the refusals of samples that are generated and measured, from what is found of their number
abbrev pub chain : Bool → Bool → Outcome
chain long grid = refuse long TooLong (refuse (not grid) OffGrid (refuse false OutputShort done))

module _ (s : State) (xs : List Float) (made : SignalLeft) where
  judged_by : (o : Outcome) → o ≡ outcome_of (length xs) false → unless_refused s xs made ≡ if_done o made (left (answer o s) xs)
  unfolding unless_refused
  judged_by o e = rw e

  pub refused : (r : Refusal) → Err r ≡ outcome_of (length xs) false → left (answer (Err r) s) xs ≡ unless_refused s xs made
  refused r e = sym (judged_by (Err r) e ∙ if_refused (Err r) made (left (answer (Err r) s) xs) r refl)

  pub taken : (u : Unit {0}) → Ok u ≡ outcome_of (length xs) false → unless_refused s xs made ≡ made
  taken u e = judged_by (Ok u) e ∙ if_done_lem (Ok u) made (left (answer (Ok u) s) xs) u refl

  -- the same, by the number
  pub unless_not_zero : (o : Outcome) → o ≡ outcome_of (length xs) false → (number_of o ≡ 0 → ⊥) → left (answer o s) xs ≡ unless_refused s xs made
  unless_not_zero o e n = sym (judged_by o e ∙ if_not_zero o made (left (answer o s) xs) n)

  pub unless_zero : (o : Outcome) → o ≡ outcome_of (length xs) false → number_of o ≡ 0 → unless_refused s xs made ≡ made
  unless_zero o e z = judged_by o e ∙ if_zero o made (left (answer o s) xs) z

-- ---- a port: `new` left a and ys

module _ (v c : Float) (f : Option Float) (l : SignalLeft) (ys : List Float) (a : Answer) (h : left a ys ≡ l) where
  abbrev with_readings : SignalLeft
  with_readings = left (answer a.outcome (as_port a.state v c f)) ys

  over_new : ported v c f l ≡ if_done a.outcome with_readings (left a ys)
  unfolding ported
  over_new = rw (← h)

  pub port_refused : (r : Refusal) → a.outcome ≡ Err r → left a ys ≡ ported v c f l
  port_refused r e = sym (over_new ∙ if_refused a.outcome with_readings (left a ys) r e)

  pub port_done : (u : Unit {0}) (s : State) → a.outcome ≡ Ok u → s ≡ as_port a.state v c f → left (answer (Ok u) s) ys ≡ ported v c f l
  port_done u s e p = rw (p, ← e) (sym (over_new ∙ if_done_lem a.outcome with_readings (left a ys) u e))

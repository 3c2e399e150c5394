-- Done is having the number 0, and what follows of it. Assumes nothing.
use Rattle.std.proofs.Common.{◌≡◌, Bool, true, false, cond, refl, sym, ap, subst, ◌∙◌, Ok, Err}
use borrow.Author.Tests.{eq-eqb, ne_eqb}
use lib.Dec.{eqb}
use Rattle.answers.specs.declared.Refusal.{Refusal}
use Rattle.answers.specs.declared.Refusal.TheVariants.{LengthsDiffer, OutputShort, TooLong, OffGrid, WrongForm, WrongSum, WrongSequence, BinOutside, UnknownEdition, NoSuchRegister}
use Rattle.answers.specs.declared.Refusal.TheVariants.{RegisterFull, NotSuchFile, OtherLengths}
use Rattle.answers.specs.Numbers.{Outcome, number_of, if_done}
use Rattle.answers.specs.Answers.{given, ended, told}

pub done_is_zero : {A : Type 0} (o : Outcome) (x refused : A) → if_done o x refused ≡ cond (eqb (number_of o) 0) x refused
unfolding if_done
done_is_zero o x refused = refl

-- no refusal has the number 0
refusal_not_zero : (r : Refusal) → eqb (number_of (Err r)) 0 ≡ false
refusal_not_zero LengthsDiffer = refl
refusal_not_zero OutputShort = refl
refusal_not_zero TooLong = refl
refusal_not_zero OffGrid = refl
refusal_not_zero WrongForm = refl
refusal_not_zero WrongSum = refl
refusal_not_zero WrongSequence = refl
refusal_not_zero BinOutside = refl
refusal_not_zero UnknownEdition = refl
refusal_not_zero NoSuchRegister = refl
refusal_not_zero RegisterFull = refl
refusal_not_zero NotSuchFile = refl
refusal_not_zero OtherLengths = refl

module _ {A : Type 0} (o : Outcome) (x refused : A) where
  pub if_refused : (r : Refusal) → o ≡ Err r → if_done o x refused ≡ refused
  if_refused r e = done_is_zero o x refused ∙ ap (λ (o : Outcome). cond (eqb (number_of o) 0) x refused) e ∙ ap (λ (b : Bool). cond b x refused) (refusal_not_zero r)

  pub if_done_lem : (u : Unit {0}) → o ≡ Ok u → if_done o x refused ≡ x
  if_done_lem u e = done_is_zero o x refused ∙ ap (λ (o : Outcome). cond (eqb (number_of o) 0) x refused) e

-- what holds of both holds of whichever it is
pub if_either : {A : Type 0} (P : A → Type 0) (o : Outcome) (x refused : A) → P x → P refused → P (if_done o x refused)
if_either {A} P o x refused d r = subst P (sym (done_is_zero o x refused)) (of (eqb (number_of o) 0))
  where
    of : (b : Bool) → P (cond b x refused)
    of true = d
    of false = r

-- what is answered, by how the call ended; and how the call ended and what is told of it, by what was answered
module _ {A : Type 0} (o : Outcome) (x : A) where
  pub given_done : (u : Unit {0}) → o ≡ Ok u → Ok x ≡ given o x
  given_done u e = rw e refl

  pub given_refused : (r : Refusal) → o ≡ Err r → Err r ≡ given o x
  given_refused r e = rw e refl

pub ended_given : {A : Type 0} (o : Outcome) (x : A) → ended (given o x) ≡ o
ended_given (Ok u) x = refl
ended_given (Err r) x = refl

pub told_given : {A : Type 0} (z : A) (o : Outcome) (x : A) → told z (given o x) ≡ if_done o x z
unfolding if_done
told_given z (Ok u) x = refl
told_given z (Err r) x = rw (refusal_not_zero r)

-- the same, by the number
module _ {A : Type 0} (o : Outcome) (x refused : A) where
  pub if_not_zero : (number_of o ≡ 0 → ⊥) → if_done o x refused ≡ refused
  if_not_zero n = done_is_zero o x refused ∙ ap (λ (b : Bool). cond b x refused) (ne_eqb (number_of o) 0 n)

  pub if_zero : number_of o ≡ 0 → if_done o x refused ≡ x
  if_zero e = done_is_zero o x refused ∙ ap (λ (b : Bool). cond b x refused) (eq-eqb (number_of o) 0 e)

-- With no order above 16 below half, the two editions differ in their number alone. Assumes nothing.
use Rattle.std.specs.Prelude.{Option}
use mathlib.Core.Path.{◌≡◌, refl, sym, ap, ◌∙◌}
use mathlib.Core.Bool.{Bool, true, false, cond, ◌&&◌, false≢true}
use mathlib.Core.Logic.{inl, inr}
use mathlib.Core.List.{List, [], ◌∷◌}
use Prim.Native.Nat.{ℕ, ◌*◌, ◌/◌, ◌≤◌}
use lib.Dec.{eqb, ltb, lit≤}
use lib.ListN.{length}
use lib.Ieee.{Float, lt, of_bits}
use Rattle.laws.specs.Literals.{zero32}
use Rattle.laws.proofs.Filling.{filled_length}
use Rattle.answers.specs.Numbers.{Outcome}
use Rattle.answers.specs.Numbers.{done}
use Rattle.answers.specs.Left.{left}
use Rattle.answers.specs.Numbers.{number_of, if_done}
use Rattle.answers.proofs.Ended.{if_either}
use Rattle.generator.specs.declared.Wave.TheVariants.{DC}
use Rattle.generator.specs.Sample.{generated}
use Rattle.generator.proofs.Kept.{generated_length}
use Rattle.spectrum.specs.Spectrum.{outcome_of}
use Rattle.distortion.specs.Thd.{fundamental_bin, usable}
use Rattle.distortion.specs.Editions.{by_edition}
use Rattle.distortion.specs.Claims.{NoneAbove}
use Rattle.distortion.proofs.ByEdition.{no_higher}
use Rattle.signal.specs.declared.State.{State}
use Rattle.signal.specs.State.{fresh, with_phase, with_duty, with_measured, silenced, as_port}
use Rattle.signal.specs.Calls.{SignalLeft, answer, unless_refused, made, remade, ported, reset_of}
use Rattle.signal.specs.Sequence.{phase, duty, Later, setting, reset, next, run}
use Rattle.signal.specs.Editions.{new_by}
use Rattle.signal.specs.InEdition.{numbered, numbered_as, SameNew, SamePort, SameRun}
use Rattle.signal.proofs.Sequence.{state_of, judged_taken}
use Rattle.signal.proofs.InEdition.{known_new, known_run}

-- ---- a higher limit changes nothing

module _ (top limit : ℕ) (l : top ≤ limit) where
  measured_as : (s : State) (xs : List Float) → NoneAbove top s.shape.frequency (length xs) → with_measured limit s xs ≡ with_measured top s xs
  unfolding with_measured
  measured_as s xs none = rw (no_higher top limit s.shape.frequency s.metrics.thd xs l none)

  made_as : (s : State) (xs : List Float) → NoneAbove top s.shape.frequency (length xs) → made limit s xs ≡ made top s xs
  unfolding made
  made_as s xs none =
      let ys = (generated s.shape xs).places in
      ap (λ (t : State). left (answer done t) ys) (measured_as s ys (rw (generated_length s.shape xs) none))

  remade_as : (earlier next : State) (xs : List Float) → NoneAbove top next.shape.frequency (length xs) → remade limit earlier next xs ≡ remade top earlier next xs
  unfolding remade
  remade_as earlier next xs none = ap (unless_refused earlier xs) (made_as next xs none)

  -- the frequency and the number of samples, after a later call
  abbrev Still : SignalLeft → SignalLeft → Type 0
  Still a b = ((state_of b).shape.frequency ≡ (state_of a).shape.frequency) × (length b.places ≡ length a.places)

  remade_still : (a : SignalLeft) (next : State) → next.shape.frequency ≡ (state_of a).shape.frequency → Still a (remade top (state_of a) next a.places)
  unfolding remade unless_refused made with_measured
  remade_still a next e =
      if_either (Still a) (outcome_of (length a.places) false) (made top next a.places) _ (e, generated_length next.shape a.places) (refl, refl)

  next_still : (a : SignalLeft) (c : Later) → Still a (next top a c)
  unfolding with_phase with_duty reset_of unless_refused silenced
  next_still a (setting (phase p)) = remade_still a (with_phase (state_of a) p) refl
  next_still a (setting (duty d)) = remade_still a (with_duty (state_of a) d) refl
  next_still a reset = if_either (Still a) (outcome_of (length a.places) false) _ _ (refl, filled_length (λ (j : ℕ). zero32) (length a.places) a.places) (refl, refl)

  next_as : (a : SignalLeft) (c : Later) → NoneAbove top (state_of a).shape.frequency (length a.places) → next limit a c ≡ next top a c
  unfolding with_phase with_duty
  next_as a (setting (phase p)) none = remade_as (state_of a) (with_phase (state_of a) p) a.places none
  next_as a (setting (duty d)) none = remade_as (state_of a) (with_duty (state_of a) d) a.places none
  next_as a reset none = refl

  run_as : (a : SignalLeft) (cs : List Later) → NoneAbove top (state_of a).shape.frequency (length a.places) → run limit a cs ≡ run top a cs
  run_as a [] none = refl
  run_as a (c ∷ cs) none =
      let s = next_still a c in
      ap (λ (m : SignalLeft). run limit m cs) (next_as a c none) ∙ run_as (next top a c) cs (rw (s.0, s.1) none)

-- ---- the number goes along, and decides nothing

module _ (e top : ℕ) where
  if_numbered : (o : Outcome) (a b : SignalLeft) → numbered_as e (if_done o a b) ≡ if_done o (numbered_as e a) (numbered_as e b)
  unfolding if_done
  if_numbered o a b = go (eqb (number_of o) 0)
    where
      go : (t : Bool) → numbered_as e (cond t a b) ≡ cond t (numbered_as e a) (numbered_as e b)
      go true = refl
      go false = refl

  judged_numbered : (s : State) (xs : List Float) (after : SignalLeft) → numbered_as e (unless_refused s xs after) ≡ unless_refused (numbered e s) xs (numbered_as e after)
  unfolding unless_refused
  judged_numbered s xs after = if_numbered (outcome_of (length xs) false) after (left (answer (outcome_of (length xs) false) s) xs)

  made_numbered : (s : State) (xs : List Float) → made top (numbered e s) xs ≡ numbered_as e (made top s xs)
  unfolding made with_measured
  made_numbered s xs = refl

  remade_numbered : (earlier next : State) (xs : List Float) → remade top (numbered e earlier) (numbered e next) xs ≡ numbered_as e (remade top earlier next xs)
  unfolding remade
  remade_numbered earlier next xs = ap (unless_refused (numbered e earlier) xs) (made_numbered next xs) ∙ sym (judged_numbered earlier xs (made top next xs))

  next_numbered : (l : SignalLeft) (c : Later) → next top (numbered_as e l) c ≡ numbered_as e (next top l c)
  unfolding with_phase with_duty reset_of silenced
  next_numbered l (setting (phase p)) = remade_numbered (state_of l) (with_phase (state_of l) p) l.places
  next_numbered l (setting (duty d)) = remade_numbered (state_of l) (with_duty (state_of l) d) l.places
  next_numbered l reset = sym (judged_numbered (state_of l) l.places _)

  run_numbered : (l : SignalLeft) (cs : List Later) → run top (numbered_as e l) cs ≡ numbered_as e (run top l cs)
  run_numbered l [] = refl
  run_numbered l (c ∷ cs) = ap (λ (m : SignalLeft). run top m cs) (next_numbered l c) ∙ run_numbered (next top l c) cs

-- ---- the two editions

pub same_new : SameNew
unfolding by_edition remade fresh
same_new wave amplitude frequency xs h none =
    let start = fresh wave amplitude frequency 1 in
    known_new wave amplitude frequency 2 xs (inr refl)
    ∙ judged_taken _ xs (made 40 (numbered 2 start) xs) h
    ∙ made_as 16 40 (lit≤ tt) (numbered 2 start) xs none
    ∙ made_numbered 2 16 start xs
    ∙ ap (numbered_as 2) (sym (known_new wave amplitude frequency 1 xs (inl refl) ∙ judged_taken _ xs (made 16 start xs) h))

-- at frequency 0 no bin is usable
none_at_zero : (top n : ℕ) → NoneAbove top zero32 n
unfolding usable lt of_bits
none_at_zero top n u h l = go (ltb 1 (n / 2)) u
  where
    go : (b : Bool) → (b && false) ≡ true → n / 2 ≤ fundamental_bin zero32 n * h
    go true e = absurd (false≢true e)
    go false e = absurd (false≢true e)

ported_numbered : (voltage current : Float) (frequency : Option Float) (l : SignalLeft) → ported voltage current frequency (numbered_as 2 l) ≡ numbered_as 2 (ported voltage current frequency l)
unfolding ported as_port
ported_numbered voltage current frequency l = sym (if_numbered 2 16 l.answer.outcome _ l)

pub same_port : SamePort
same_port voltage current frequency xs h =
    ap (ported voltage current frequency) (same_new DC voltage zero32 xs h (none_at_zero 16 (length xs)))
    ∙ ported_numbered voltage current frequency (new_by DC voltage zero32 1 xs)

pub same_run : SameRun
unfolding by_edition
same_run l cs none =
    known_run (numbered_as 2 l) cs (inr refl)
    ∙ run_as 16 40 (lit≤ tt) (numbered_as 2 l) cs none
    ∙ run_numbered 2 16 l cs
    ∙ ap (numbered_as 2) (sym (run_numbered 1 16 l cs))
    ∙ ap (numbered_as 2) (sym (known_run (numbered_as 1 l) cs (inl refl)))

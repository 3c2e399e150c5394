-- Call by call the state's counts are those of the samples that are left. Assumes nothing.
use Prim.Native.Nat.{ℕ, ◌<◌}
use native.Mathlib.Nat.{zero-lt-suc}
use native.Mathlib.Omega.{arith}
use mathlib.Core.Path.{◌≡◌, refl, sym, ap, subst, ◌∙◌}
use mathlib.Core.Bool.{Bool, true, false, cond}
use mathlib.Core.Logic.{inl}
use mathlib.Core.List.{List, [], ◌∷◌}
use lib.Dec.{T, eqb}
use lib.ListN.{length}
use lib.Ieee.{Float, nan, of_bits}
use lib.Ieee.Scale.{finite}
use borrow.Author.Tests.{ne_eqb}
use Rattle.laws.specs.Walks.{over}
use Rattle.laws.specs.HowMany.{how_many}
use Rattle.laws.specs.Filled.{filled}
use Rattle.laws.specs.Literals.{zero32}
use Rattle.laws.proofs.Filling.{filled_length, filled_at}
use Rattle.answers.specs.Left.{left}
use Rattle.answers.specs.Numbers.{number_of, if_done}
use Rattle.generator.specs.declared.Wave.{Wave}
use Rattle.generator.specs.declared.Wave.TheVariants.{DC}
use Rattle.generator.specs.Sample.{generated}
use Rattle.generator.proofs.Kept.{generated_length}
use Rattle.spectrum.specs.Grid.{lengths, on_grid}
use Rattle.counts.specs.Counts.{not_numbers_of, infinite_of}
use Rattle.counts.specs.Claims.{AllFinite}
use Rattle.counts.proofs.Finite.{zero_exactly}
use Rattle.figures.specs.Figures.{figures_of}
use Rattle.figures.specs.Counted.{HasCounts}
use Rattle.figures.proofs.Counted.{counts_kept}
use Rattle.signal.specs.declared.State.{State}
use Rattle.signal.specs.declared.Metrics.{Metrics}
use Rattle.signal.specs.State.{fresh, with_phase, with_duty, with_measured, silenced, as_port}
use Rattle.signal.specs.Calls.{SignalLeft, answer, made, remade, new_of, ported}
use Rattle.signal.specs.Sequence.{Setting, phase, duty, Later, setting, reset, next, Taken}
use Rattle.signal.specs.Counted.{CountsOwn, CountsNew, CountsPort, CountsNext, CountsStay, CountsFollow}
use Rattle.signal.proofs.Sequence.{state_of, judged_taken, with_setting, next_set, next_reset, next_taken, made_figures}

-- ---- generated and measured

figures_own : (wave : Wave) (amplitude frequency : Float) (xs : List Float) → HasCounts xs (figures_of wave amplitude frequency xs)
unfolding figures_of
figures_own wave amplitude frequency xs = (refl, refl)

made_own : (top : ℕ) (s : State) (xs : List Float) → Taken xs → 0 < length xs → CountsOwn (made top s xs)
made_own top s xs h some =
    let m = made top s xs in
    subst (HasCounts m.places) (sym (made_figures top s xs h (ne_eqb (length xs) 0 (not_none (length xs) some))))
    (figures_own (state_of m).shape.wave (state_of m).shape.amplitude (state_of m).shape.frequency m.places)
  where
    not_none : (n : ℕ) → 0 < n → n ≡ 0 → ⊥
    not_none n h e = omega arith

-- of no samples the earlier record stays
made_none : (top : ℕ) (s : State) (xs : List Float) → length xs ≡ 0 → (state_of (made top s xs)).metrics.figures ≡ s.metrics.figures
unfolding made with_measured
made_none top s xs e =
    counts_kept s.shape.wave s.shape.amplitude s.shape.frequency s.metrics.figures (generated s.shape xs).places (inl (generated_length s.shape xs ∙ e))

no_places : (xs : List Float) → length xs ≡ 0 → xs ≡ []
no_places [] e = refl
no_places (x ∷ xs) e = absurd (omega arith)

-- so its counts stay right if they were
made_after : (top : ℕ) (s : State) (xs : List Float) → Taken xs → (length xs ≡ 0 → HasCounts [] s.metrics.figures) → CountsOwn (made top s xs)
unfolding made
made_after top s [] h earlier =
    subst (λ (ys : List Float). HasCounts ys (state_of (made top s [])).metrics.figures) (sym (no_places (made top s []).places (generated_length s.shape [])))
    (subst (HasCounts []) (sym (made_none top s [] refl)) (earlier refl))
made_after top s (x ∷ xs) h earlier = made_own top s (x ∷ xs) h (zero-lt-suc (length xs))

-- ---- a signal that was made

pub counts_new : CountsNew
unfolding remade fresh not_numbers_of infinite_of how_many over
counts_new top wave amplitude frequency edition xs h =
    subst CountsOwn (sym (judged_taken _ xs _ h)) (made_after top (fresh wave amplitude frequency edition) xs h (λ z. (refl, refl)))

pub counts_port : CountsPort
unfolding ported if_done as_port
counts_port top voltage current frequency edition xs h =
    let l = new_of top DC voltage zero32 edition xs in
    go (eqb (number_of l.answer.outcome) 0) l (counts_new top DC voltage zero32 edition xs h)
  where
    go : (b : Bool) (l : SignalLeft) → CountsOwn l → CountsOwn (cond b (left (answer l.answer.outcome (as_port l.answer.state voltage current frequency)) l.places) l)
    go true l c = c
    go false l c = c

-- ---- a later call

same_metrics : (s : State) (c : Setting) → (with_setting s c).metrics ≡ s.metrics
unfolding with_phase with_duty
same_metrics s (phase p) = refl
same_metrics s (duty d) = refl

silent : (n : ℕ) (xs : List Float) → n ≡ length xs → AllFinite (filled (λ (j : ℕ). zero32) n xs)
unfolding of_bits
silent n xs e k h = subst (λ (x : Float). T (finite x)) (sym (filled_at (λ (j : ℕ). zero32) n xs nan k (rw e l) l)) tt
  where
    l : k < length xs
    l = subst (λ (m : ℕ). k < m) (filled_length (λ (j : ℕ). zero32) n xs) h

reset_own : (top : ℕ) (l : SignalLeft) → Taken l.places → CountsOwn (next top l reset)
unfolding silenced
reset_own top l h =
    let zeros = filled (λ (j : ℕ). zero32) (length l.places) l.places in
    let z = (zero_exactly zeros).1 (silent (length l.places) l.places refl) in
    subst CountsOwn (sym (next_reset top l h)) (sym z.0, sym z.1)

pub counts_next : CountsNext
counts_next top l (setting c) h some = subst CountsOwn (sym (next_set top l c h)) (made_own top (with_setting (state_of l) c) l.places h some)
counts_next top l reset h some = reset_own top l h

none_on_grid : on_grid 0 ≡ true
unfolding on_grid lengths
none_on_grid = refl

pub counts_stay : CountsStay
counts_stay top l c e =
    let s = with_setting (state_of l) c in
    ap (λ (m : SignalLeft). (state_of m).metrics.figures) (next_set top l c (none_taken l.places e))
    ∙ (made_none top s l.places e ∙ ap (λ (m : Metrics). m.figures) (same_metrics (state_of l) c))
  where
    none_taken : (xs : List Float) → length xs ≡ 0 → Taken xs
    none_taken xs e = (rw e, rw e none_on_grid)

-- ---- any later calls

next_own : (top : ℕ) (l : SignalLeft) (c : Later) → Taken l.places → CountsOwn l → CountsOwn (next top l c)
next_own top l (setting c) h own =
    subst CountsOwn (sym (next_set top l c h))
    (made_after top (with_setting (state_of l) c) l.places h
    (λ z. rw (same_metrics (state_of l) c) (subst (λ (xs : List Float). HasCounts xs (state_of l).metrics.figures) (no_places l.places z) own)))
next_own top l reset h own = reset_own top l h

pub counts_follow : CountsFollow
counts_follow top l [] h own = own
counts_follow top l (c ∷ cs) h own = counts_follow top (next top l c) cs (next_taken top l c h) (next_own top l c h own)

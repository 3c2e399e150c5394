-- The calls by edition: how they end, that they are those over its highest order, and that the edition stays. Assumes nothing.
use Rattle.std.specs.Prelude.{Err}
use Rattle.std.specs.Prelude.{Option}
use mathlib.Core.Path.{◌≡◌, refl, sym, ap, subst, ◌∙◌}
use mathlib.Core.Bool.{Bool, true, false, cond}
use mathlib.Core.List.{List, [], ◌∷◌}
use Prim.Native.Nat.{ℕ}
use native.Mathlib.Omega.{arith}
use lib.Dec.{eqb}
use lib.ListN.{length}
use lib.Ieee.{Float}
use Rattle.laws.specs.Literals.{zero32}
use Rattle.answers.specs.Numbers.{Outcome}
use Rattle.answers.specs.Numbers.{done}
use Rattle.answers.specs.declared.Refusal.TheVariants.{UnknownEdition}
use Rattle.answers.specs.Left.{left}
use Rattle.answers.specs.Numbers.{number_of, if_done, too_long}
use Rattle.answers.proofs.Ended.{if_either, if_not_zero}
use Rattle.generator.specs.declared.Wave.{Wave}
use Rattle.generator.specs.declared.Wave.TheVariants.{DC}
use Rattle.spectrum.specs.Grid.{on_grid}
use Rattle.spectrum.specs.Spectrum.{outcome_of}
use Rattle.distortion.specs.Editions.{by_edition, highest_order, Known}
use Rattle.distortion.proofs.ByEdition.{over_known, over_unknown, by_either, by_inside, by_same}
use Rattle.signal.specs.declared.State.{State}
use Rattle.signal.specs.State.{zero_state, fresh, with_phase, with_duty, with_measured, silenced, as_port, metrics_of}
use Rattle.signal.specs.Calls.{SignalLeft, answer, unless_refused, made, remade, ported, reset_of}
use Rattle.signal.specs.Sequence.{phase, duty, Later, setting, reset, next, run}
use Rattle.signal.specs.Editions.{remade_by, new_by, edition_in, outcome_by, next_by}
use Rattle.signal.specs.InEdition.{edition_after, EndsNew, EndsPort, EndsSet, EndsReset, NineThen, NineOnly, RefusedNew, RefusedPort, RefusedSet, ZeroEdition}
use Rattle.signal.specs.InEdition.{KnownNew, KnownPort, KnownRun, ThdNew, ThdSet, PortMetrics, EditionKept, NamedNew, NamedPort}
use Rattle.signal.proofs.Ends.{chain, unless_not_zero, unless_zero}
use Rattle.signal.proofs.Sequence.{state_of, judged_taken, thd_set}

-- ---- how the calls end

judged_ends : (s : State) (xs : List Float) (after : SignalLeft) → after.answer.outcome ≡ done → (unless_refused s xs after).answer.outcome ≡ outcome_of (length xs) false
unfolding unless_refused outcome_of if_done
judged_ends s xs after e = go (too_long (length xs)) (on_grid (length xs))
  where
    go : (long grid : Bool) → (if_done (chain long grid) after (left (answer (chain long grid) s) xs)).answer.outcome ≡ chain long grid
    go true grid = refl
    go false false = refl
    go false true = e

remade_ends : (top : ℕ) (earlier next : State) (xs : List Float) → (remade top earlier next xs).answer.outcome ≡ outcome_of (length xs) false
unfolding remade made
remade_ends top earlier next xs = judged_ends earlier xs (made top next xs) refl

remade_by_ends : (edition : ℕ) (earlier next : State) (xs : List Float) → (remade_by edition earlier next xs).answer.outcome ≡ outcome_by edition (length xs)
unfolding remade_by
remade_by_ends edition earlier next xs =
    by_inside (λ (l : SignalLeft). l.answer.outcome) edition (λ (top : ℕ). remade top earlier next xs) (left (answer (Err UnknownEdition) earlier) xs)
    ∙ by_same edition (λ (top : ℕ). (remade top earlier next xs).answer.outcome) (λ (top : ℕ). outcome_of (length xs) false) (Err UnknownEdition) (λ top. remade_ends top earlier next xs)

-- the readings of a port change no outcome
ported_ends : (voltage current : Float) (frequency : Option Float) (l : SignalLeft) → (ported voltage current frequency l).answer.outcome ≡ l.answer.outcome
unfolding ported
ported_ends voltage current frequency l = if_either (λ (m : SignalLeft). m.answer.outcome ≡ l.answer.outcome) l.answer.outcome _ l refl refl

pub ends_new : EndsNew
ends_new wave amplitude frequency edition xs = remade_by_ends edition zero_state (fresh wave amplitude frequency edition) xs

pub ends_port : EndsPort
ends_port voltage current frequency edition xs = ported_ends voltage current frequency (new_by DC voltage zero32 edition xs) ∙ ends_new DC voltage zero32 edition xs

pub ends_set : EndsSet
ends_set l (phase p) = remade_by_ends (edition_after l) (state_of l) (with_phase (state_of l) p) l.places
ends_set l (duty d) = remade_by_ends (edition_after l) (state_of l) (with_duty (state_of l) d) l.places

pub ends_reset : EndsReset
unfolding reset_of
ends_reset l = judged_ends (state_of l) l.places _ refl

-- a refused call leaves the earlier state and the samples
pub remade_by_refused : (edition : ℕ) (earlier next : State) (xs : List Float) (o : Outcome) → o ≡ outcome_by edition (length xs) → (number_of o ≡ 0 → ⊥)
    → remade_by edition earlier next xs ≡ left (answer o earlier) xs
unfolding remade_by by_edition remade
remade_by_refused edition earlier next xs o e n = go (eqb edition 1) (eqb edition 2) e
  where
    go : (a b : Bool) → o ≡ cond a (outcome_of (length xs) false) (cond b (outcome_of (length xs) false) (Err UnknownEdition))
        → cond a (unless_refused earlier xs (made 16 next xs)) (cond b (unless_refused earlier xs (made 40 next xs)) (left (answer (Err UnknownEdition) earlier) xs)) ≡ left (answer o earlier) xs
    go true b e = sym (unless_not_zero earlier xs (made 16 next xs) o e n)
    go false true e = sym (unless_not_zero earlier xs (made 40 next xs) o e n)
    go false false e = rw e

-- ---- 9

judged_number : (n : ℕ) → number_of (outcome_of n false) ≡ 9 → ⊥
unfolding outcome_of
judged_number n e = go (too_long n) (on_grid n) e
  where
    go : (long grid : Bool) → number_of (chain long grid) ≡ 9 → ⊥
    go true grid e = omega arith
    go false false e = omega arith
    go false true e = omega arith

pub nine_then : NineThen
nine_then edition n u = ap number_of (over_unknown edition (λ (top : ℕ). outcome_of n false) (Err UnknownEdition) u)

pub nine_only : NineOnly
nine_only edition n e k = judged_number n (sym (ap number_of (over_known edition (λ (top : ℕ). outcome_of n false) (Err UnknownEdition) k)) ∙ e)

-- ---- what a refused call answers and leaves

pub refused_new : RefusedNew
refused_new wave amplitude frequency edition xs n = remade_by_refused edition zero_state (fresh wave amplitude frequency edition) xs (outcome_by edition (length xs)) refl n

pub refused_port : RefusedPort
unfolding ported
refused_port voltage current frequency edition xs n =
    ap (ported voltage current frequency) (refused_new DC voltage zero32 edition xs n)
    ∙ if_not_zero (outcome_by edition (length xs)) _ (left (answer (outcome_by edition (length xs)) zero_state) xs) n

pub refused_set : RefusedSet
refused_set l (phase p) n = remade_by_refused (edition_after l) (state_of l) (with_phase (state_of l) p) l.places _ refl n
refused_set l (duty d) n = remade_by_refused (edition_after l) (state_of l) (with_duty (state_of l) d) l.places _ refl n

pub zero_edition : ZeroEdition
zero_edition = refl

-- ---- the edition after a call

-- a call that is done leaves the edition of the state that was made, and a refused one the earlier state
remade_edition : (top : ℕ) (earlier next : State) (xs : List Float) → edition_in next ≡ edition_in earlier → edition_after (remade top earlier next xs) ≡ edition_in earlier
unfolding remade unless_refused made with_measured
remade_edition top earlier next xs e = if_either (λ (m : SignalLeft). edition_after m ≡ edition_in earlier) (outcome_of (length xs) false) (made top next xs) _ e refl

remade_by_edition : (edition : ℕ) (earlier next : State) (xs : List Float) → edition_in next ≡ edition_in earlier → edition_after (remade_by edition earlier next xs) ≡ edition_in earlier
unfolding remade_by
remade_by_edition edition earlier next xs e =
    by_either (λ (m : SignalLeft). edition_after m ≡ edition_in earlier) edition (λ (top : ℕ). remade top earlier next xs) _ (λ top. remade_edition top earlier next xs e) refl

next_edition : (l : SignalLeft) (c : Later) → edition_after (next_by l c) ≡ edition_after l
unfolding with_phase with_duty reset_of unless_refused silenced
next_edition l (setting (phase p)) = remade_by_edition (edition_after l) (state_of l) (with_phase (state_of l) p) l.places refl
next_edition l (setting (duty d)) = remade_by_edition (edition_after l) (state_of l) (with_duty (state_of l) d) l.places refl
next_edition l reset = if_either (λ (m : SignalLeft). edition_after m ≡ edition_after l) (outcome_of (length l.places) false) _ _ refl refl

pub edition_kept : EditionKept
edition_kept l [] = refl
edition_kept l (c ∷ cs) = edition_kept (next_by l c) cs ∙ next_edition l c

-- ---- the edition that was named

-- where a call is done it left the edition of the state that was made
remade_named : (top : ℕ) (earlier next : State) (xs : List Float) → number_of (outcome_of (length xs) false) ≡ 0 → edition_after (remade top earlier next xs) ≡ edition_in next
unfolding remade made with_measured
remade_named top earlier next xs z = ap edition_after (unless_zero earlier xs (made top next xs) (outcome_of (length xs) false) refl z)

remade_by_named : (edition : ℕ) (earlier next : State) (xs : List Float) → number_of (outcome_by edition (length xs)) ≡ 0 → edition_after (remade_by edition earlier next xs) ≡ edition_in next
unfolding remade_by by_edition
remade_by_named edition earlier next xs z = go (eqb edition 1) (eqb edition 2) z
  where
    go : (a b : Bool) → number_of (cond a (outcome_of (length xs) false) (cond b (outcome_of (length xs) false) (Err UnknownEdition))) ≡ 0
        → edition_after (cond a (remade 16 earlier next xs) (cond b (remade 40 earlier next xs) (left (answer (Err UnknownEdition) earlier) xs))) ≡ edition_in next
    go true b z = remade_named 16 earlier next xs z
    go false true z = remade_named 40 earlier next xs z
    go false false z = absurd (omega arith)

new_edition : (wave : Wave) (amplitude frequency : Float) (edition : ℕ) (xs : List Float) → number_of (new_by wave amplitude frequency edition xs).answer.outcome ≡ 0
    → edition_after (new_by wave amplitude frequency edition xs) ≡ edition
unfolding fresh
new_edition wave amplitude frequency edition xs z =
    remade_by_named edition zero_state (fresh wave amplitude frequency edition) xs (sym (ap number_of (ends_new wave amplitude frequency edition xs)) ∙ z)

pub named_new : NamedNew
named_new wave amplitude frequency edition xs cs z = edition_kept (new_by wave amplitude frequency edition xs) cs ∙ new_edition wave amplitude frequency edition xs z

ported_edition : (voltage current : Float) (frequency : Option Float) (l : SignalLeft) → edition_after (ported voltage current frequency l) ≡ edition_after l
unfolding ported as_port
ported_edition voltage current frequency l = if_either (λ (m : SignalLeft). edition_after m ≡ edition_after l) l.answer.outcome _ l refl refl

pub named_port : NamedPort
named_port voltage current frequency edition xs cs z =
    let l = new_by DC voltage zero32 edition xs in
    edition_kept (ported voltage current frequency l) cs ∙ ported_edition voltage current frequency l
    ∙ new_edition DC voltage zero32 edition xs (sym (ap number_of (ported_ends voltage current frequency l)) ∙ z)

-- ---- over the edition's highest order

remade_known : (edition : ℕ) (earlier next : State) (xs : List Float) → Known edition → remade_by edition earlier next xs ≡ remade (highest_order edition) earlier next xs
unfolding remade_by
remade_known edition earlier next xs k = over_known edition (λ (top : ℕ). remade top earlier next xs) _ k

pub known_new : KnownNew
known_new wave amplitude frequency edition xs k = remade_known edition zero_state (fresh wave amplitude frequency edition) xs k

pub known_port : KnownPort
known_port voltage current frequency edition xs k = ap (ported voltage current frequency) (known_new DC voltage zero32 edition xs k)

next_known : (l : SignalLeft) (c : Later) → Known (edition_after l) → next_by l c ≡ next (highest_order (edition_after l)) l c
next_known l (setting (phase p)) k = remade_known (edition_after l) (state_of l) (with_phase (state_of l) p) l.places k
next_known l (setting (duty d)) k = remade_known (edition_after l) (state_of l) (with_duty (state_of l) d) l.places k
next_known l reset k = refl

pub known_run : KnownRun
known_run l [] k = refl
known_run l (c ∷ cs) k =
    let e = next_edition l c in
    known_run (next_by l c) cs (subst Known (sym e) k) ∙ ap (λ (x : ℕ). run (highest_order x) (next_by l c) cs) e
    ∙ ap (λ (m : SignalLeft). run (highest_order (edition_after l)) m cs) (next_known l c k)

-- THD as it is answered
pub thd_new : ThdNew
unfolding remade made with_measured fresh
thd_new wave amplitude frequency edition xs k h =
    let start = fresh wave amplitude frequency edition in
    let e = known_new wave amplitude frequency edition xs k ∙ judged_taken zero_state xs (made (highest_order edition) start xs) h in
    rw e

pub thd_set_by : ThdSet
thd_set_by l c k h =
    let e = next_known l (setting c) k in
    rw e (thd_set (highest_order (edition_after l)) l c h)

pub port_metrics : PortMetrics
unfolding ported as_port
port_metrics voltage current frequency edition xs =
    let l = new_by DC voltage zero32 edition xs in
    if_either (λ (m : SignalLeft). metrics_of (state_of m) ≡ metrics_of (state_of l)) l.answer.outcome _ l refl refl

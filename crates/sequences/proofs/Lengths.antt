-- Each call leaves as many samples as there were, refused or not.
-- Assumes nothing.
use Rattle.std.specs.Prelude.{Option}
use mathlib.Core.Path.{◌≡◌, refl}
use mathlib.Core.Bool.{false}
use mathlib.Core.List.{List}
use Prim.Native.Nat.{ℕ}
use lib.Ieee.{Float}
use lib.ListN.{length}
use Rattle.answers.proofs.Ended.{if_either}
use Rattle.laws.specs.Literals.{zero32}
use Rattle.laws.proofs.Filling.{filled_length}
use Rattle.generator.specs.declared.Wave.{Wave}
use Rattle.generator.specs.declared.Wave.TheVariants.{DC}
use Rattle.generator.proofs.Kept.{generated_length}
use Rattle.spectrum.specs.Spectrum.{outcome_of}
use Rattle.distortion.proofs.ByEdition.{by_either}
use Rattle.signal.specs.declared.State.{State}
use Rattle.signal.specs.Calls.{SignalLeft, unless_refused, made, remade, ported, reset_of}
use Rattle.signal.specs.Editions.{remade_by, new_by, new_port_by, edition_in, phase_by, duty_by}

judged_length : (s : State) (xs : List Float) (done : SignalLeft) → length done.places ≡ length xs → length (unless_refused s xs done).places ≡ length xs
unfolding unless_refused
judged_length s xs done e = if_either (λ (l : SignalLeft). length l.places ≡ length xs) (outcome_of (length xs) false) done _ e refl

remade_length : (top : ℕ) (earlier next : State) (xs : List Float) → length (remade top earlier next xs).places ≡ length xs
unfolding remade made
remade_length top earlier next xs = judged_length earlier xs (made top next xs) (generated_length next.shape xs)

by_length : (edition : ℕ) (earlier next : State) (xs : List Float) → length (remade_by edition earlier next xs).places ≡ length xs
unfolding remade_by
by_length edition earlier next xs =
    by_either (λ (l : SignalLeft). length l.places ≡ length xs) edition (λ (top : ℕ). remade top earlier next xs) _ (λ top. remade_length top earlier next xs) refl

pub new_length : (wave : Wave) (amplitude frequency : Float) (edition : ℕ) (xs : List Float) → length (new_by wave amplitude frequency edition xs).places ≡ length xs
new_length wave amplitude frequency edition xs = by_length edition _ _ xs

pub phase_length : (s : State) (phase : Float) (xs : List Float) → length (phase_by s phase xs).places ≡ length xs
phase_length s phase xs = by_length (edition_in s) _ _ xs

pub duty_length : (s : State) (duty : Float) (xs : List Float) → length (duty_by s duty xs).places ≡ length xs
duty_length s duty xs = by_length (edition_in s) _ _ xs

pub port_length : (voltage current : Float) (frequency : Option Float) (edition : ℕ) (xs : List Float) → length (new_port_by voltage current frequency edition xs).places ≡ length xs
unfolding ported
port_length voltage current frequency edition xs =
    let l = new_by DC voltage zero32 edition xs in
    let e = new_length DC voltage zero32 edition xs in
    if_either (λ (m : SignalLeft). length m.places ≡ length xs) l.answer.outcome _ l e e

pub reset_length : (s : State) (xs : List Float) → length (reset_of s xs).places ≡ length xs
unfolding reset_of
reset_length s xs = judged_length s xs _ (filled_length (λ (j : ℕ). zero32) (length xs) xs)

-- Calls in a row, by their contracts alone: `new`, then `set_duty_cycle`, `set_phase` and `reset_waveform` leave the state and the samples that the definitions
-- of crate `signal` give, in the slice that was lent at first.
-- Assumes nothing.
use mathlib.Core.Path.{◌≡◌, ◌∙◌, ap}
use mathlib.Core.List.{List}
use Prim.Native.Nat.{ℕ}
use lib.Ieee.{Float}
use denote.Ref.{MutBor}
use Rattle.generator.specs.declared.Wave.{Wave}
use Rattle.signal.specs.Calls.{SignalLeft, reset_of}
use Rattle.signal.specs.Editions.{new_by, phase_by, duty_by}
use Rattle.held.specs.declared.Signal.{Signal}
use Rattle.held.specs.Held.{beside, after}

module _ (wave : Wave) (amplitude frequency : Float) (edition : ℕ) (duty phase : Float) where
  -- by value: each call takes what the one before left
  abbrev made : List Float → SignalLeft
  made xs = new_by wave amplitude frequency edition xs

  abbrev dutied : List Float → SignalLeft
  dutied xs = duty_by (made xs).answer.state duty (made xs).places

  abbrev phased : List Float → SignalLeft
  phased xs = phase_by (dutied xs).answer.state phase (dutied xs).places

  abbrev emptied : List Float → SignalLeft
  emptied xs = reset_of (phased xs).answer.state (phased xs).places

  -- what each later call's contract says of the signal
  abbrev with_duty_lem : Signal → Signal
  with_duty_lem s = after s (duty_by s.answer.state duty s.samples.now)

  abbrev with_phase_lem : Signal → Signal
  with_phase_lem s = after s (phase_by s.answer.state phase s.samples.now)

  abbrev reset : Signal → Signal
  reset s = after s (reset_of s.answer.state s.samples.now)

  pub set_twice : (x : MutBor (List Float)) (s₀ s₁ s₂ : Signal) → s₀ ≡ beside x (made x.now) → s₁ ≡ with_duty_lem s₀ → s₂ ≡ with_phase_lem s₁ → s₂ ≡ beside x (phased x.now)
  set_twice x s₀ s₁ s₂ e₀ e₁ e₂ = e₂ ∙ ap with_phase_lem (e₁ ∙ ap with_duty_lem e₀)

  pub set_and_reset : (x : MutBor (List Float)) (s₀ s₁ s₂ s₃ : Signal) → s₀ ≡ beside x (made x.now) → s₁ ≡ with_duty_lem s₀ → s₂ ≡ with_phase_lem s₁ → s₃ ≡ reset s₂ → s₃ ≡ beside x (emptied x.now)
  set_and_reset x s₀ s₁ s₂ s₃ e₀ e₁ e₂ e₃ = e₃ ∙ ap reset (set_twice x s₀ s₁ s₂ e₀ e₁ e₂)

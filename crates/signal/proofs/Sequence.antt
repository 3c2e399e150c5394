-- Call by call: whatever calls came before, a setting leaves the samples and the figures of the shape it has now, and a reset leaves silence. Assumes nothing.
use mathlib.Core.Path.{◌≡◌, refl, sym, ap, ◌∙◌}
use mathlib.Core.Bool.{true, false}
use mathlib.Core.List.{List, [], ◌∷◌}
use Prim.Native.Nat.{ℕ, zero, suc, ◌/◌}
use native.Mathlib.Omega.{arith}
use lib.Dec.{eqb}
use lib.ListN.{length}
use lib.Ieee.{Float, lt}
use Rattle.laws.specs.Filled.{filled}
use Rattle.laws.specs.Literals.{zero32, tiny32}
use Rattle.laws.proofs.Filling.{filled_length}
use Rattle.answers.specs.Left.{left}
use Rattle.answers.specs.Numbers.{if_done}
use Rattle.answers.specs.Numbers.{done}
use Rattle.generator.specs.declared.Shape.{Shape}
use Rattle.generator.specs.Sample.{sample_at, generated}
use Rattle.generator.proofs.Kept.{generated_length}
use Rattle.spectrum.specs.Bin.{magnitude_of}
use Rattle.spectrum.specs.Spectrum.{outcome_of}
use Rattle.figures.specs.Figures.{figures_of, answer_of}
use Rattle.distortion.specs.Thd.{fundamental_bin, usable, thd_of, thd_at, thd_from}
use Rattle.signal.specs.declared.State.{State}
use Rattle.signal.specs.State.{with_phase, with_duty, with_measured, silenced}
use Rattle.signal.specs.Calls.{SignalLeft, answer, unless_refused, made, remade, reset_of}
use Rattle.signal.specs.Sequence.{Setting, phase, duty, Later, setting, reset, next, run, shaped, shapes, Taken}

taken_as : (xs ys : List Float) → length ys ≡ length xs → Taken xs → Taken ys
taken_as xs ys e h = (rw e h.0, rw e h.1)

abbrev pub state_of : SignalLeft → State
state_of l = l.answer.state

abbrev pub shape_in : SignalLeft → Shape
shape_in l = l.answer.state.shape

-- ---- one call on a length that is taken

pub judged_taken : (s : State) (xs : List Float) (after : SignalLeft) → Taken xs → unless_refused s xs after ≡ after
unfolding unless_refused outcome_of if_done
judged_taken s xs after h = rw (h.0, h.1)

abbrev pub with_setting : State → Setting → State
with_setting s (phase p) = with_phase s p
with_setting s (duty d) = with_duty s d

with_shape_lem : (s : State) (c : Setting) → (with_setting s c).shape ≡ shaped s.shape c
unfolding with_phase with_duty
with_shape_lem s (phase p) = refl
with_shape_lem s (duty d) = refl

pub next_set : (top : ℕ) (l : SignalLeft) (c : Setting) → Taken l.places → next top l (setting c) ≡ made top (with_setting (state_of l) c) l.places
unfolding remade
next_set top l (phase p) h = judged_taken _ _ _ h
next_set top l (duty d) h = judged_taken _ _ _ h

pub next_reset : (top : ℕ) (l : SignalLeft) → Taken l.places → next top l reset ≡ left (answer done (silenced (state_of l))) (filled (λ (j : ℕ). zero32) (length l.places) l.places)
unfolding reset_of
next_reset top l h = judged_taken _ _ _ h

made_places : (top : ℕ) (s : State) (xs : List Float) → (made top s xs).places ≡ (generated s.shape xs).places
unfolding made
made_places top s xs = refl

made_shape : (top : ℕ) (s : State) (xs : List Float) → shape_in (made top s xs) ≡ s.shape
unfolding made with_measured
made_shape top s xs = refl

set_places : (top : ℕ) (l : SignalLeft) (c : Setting) → Taken l.places → (next top l (setting c)).places ≡ (generated (shaped (shape_in l) c) l.places).places
set_places top l c h =
    ap (λ (m : SignalLeft). m.places) (next_set top l c h) ∙ made_places top (with_setting (state_of l) c) l.places
    ∙ ap (λ (s : Shape). (generated s l.places).places) (with_shape_lem (state_of l) c)

set_shape : (top : ℕ) (l : SignalLeft) (c : Setting) → Taken l.places → shape_in (next top l (setting c)) ≡ shaped (shape_in l) c
set_shape top l c h = ap shape_in (next_set top l c h) ∙ made_shape top (with_setting (state_of l) c) l.places ∙ with_shape_lem (state_of l) c

silenced_shape : (s : State) → (silenced s).shape ≡ s.shape
unfolding silenced
silenced_shape s = refl

reset_shape : (top : ℕ) (l : SignalLeft) → Taken l.places → shape_in (next top l reset) ≡ shape_in l
reset_shape top l h = ap shape_in (next_reset top l h) ∙ silenced_shape (state_of l)

-- ---- a whole slice is written anew: what stood there has no effect

generated_taken : (s : Shape) (xs : List Float) → Taken xs → (generated s xs).places ≡ filled (sample_at s (length xs)) (length xs) xs
unfolding generated
generated_taken s xs h = rw h.0

filled_anew : {A : Type 0} (f : ℕ → A) (xs ys : List A) → length ys ≡ length xs → filled f (length ys) ys ≡ filled f (length xs) xs
unfolding filled
filled_anew f [] [] e = refl
filled_anew f [] (y ∷ ys) e = absurd (omega arith)
filled_anew f (x ∷ xs) [] e = absurd (omega arith)
filled_anew {A = A} f (x ∷ xs) (y ∷ ys) e = ap (λ (l : List A). f zero ∷ l) (filled_anew (λ (j : ℕ). f (suc j)) xs ys (omega arith))

generated_anew : (s : Shape) (xs ys : List Float) → length ys ≡ length xs → Taken xs → (generated s ys).places ≡ (generated s xs).places
generated_anew s xs ys e h =
    generated_taken s ys (taken_as xs ys e h) ∙ ap (λ (n : ℕ). filled (sample_at s n) (length ys) ys) e
    ∙ filled_anew (sample_at s (length xs)) xs ys e ∙ sym (generated_taken s xs h)

-- ---- all calls before

next_length : (top : ℕ) (l : SignalLeft) (c : Later) → Taken l.places → length (next top l c).places ≡ length l.places
next_length top l (setting c) h = ap length (set_places top l c h) ∙ generated_length (shaped (shape_in l) c) l.places
next_length top l reset h = ap (λ (m : SignalLeft). length m.places) (next_reset top l h) ∙ filled_length (λ (j : ℕ). zero32) (length l.places) l.places

pub next_taken : (top : ℕ) (l : SignalLeft) (c : Later) → Taken l.places → Taken (next top l c).places
next_taken top l c h = taken_as l.places (next top l c).places (next_length top l c h) h

pub run_length : (top : ℕ) (l : SignalLeft) (cs : List Later) → Taken l.places → length (run top l cs).places ≡ length l.places
run_length top l [] h = refl
run_length top l (c ∷ cs) h = run_length top (next top l c) cs (next_taken top l c h) ∙ next_length top l c h

pub run_shape : (top : ℕ) (l : SignalLeft) (cs : List Later) → Taken l.places → shape_in (run top l cs) ≡ shapes (shape_in l) cs
run_shape top l [] h = refl
run_shape top l (setting c ∷ cs) h = run_shape top (next top l (setting c)) cs (next_taken top l (setting c) h) ∙ ap (λ (s : Shape). shapes s cs) (set_shape top l c h)
run_shape top l (reset ∷ cs) h = run_shape top (next top l reset) cs (next_taken top l reset h) ∙ ap (λ (s : Shape). shapes s cs) (reset_shape top l h)

module _ (top : ℕ) (l : SignalLeft) (cs : List Later) (h : Taken l.places) where
  pub run_taken : Taken (run top l cs).places
  run_taken = taken_as l.places (run top l cs).places (run_length top l cs h) h

  -- the samples of the last phase and the last duty cycle, as if nothing had been called before
  pub samples_after : (c : Setting) → (next top (run top l cs) (setting c)).places ≡ (generated (shaped (shapes (shape_in l) cs) c) l.places).places
  samples_after c =
      set_places top (run top l cs) c run_taken ∙ ap (λ (s : Shape). (generated (shaped s c) (run top l cs).places).places) (run_shape top l cs h)
      ∙ generated_anew (shaped (shapes (shape_in l) cs) c) l.places (run top l cs).places (run_length top l cs h) h

  pub shape_after : (c : Setting) → shape_in (next top (run top l cs) (setting c)) ≡ shaped (shapes (shape_in l) cs) c
  shape_after c = set_shape top (run top l cs) c run_taken ∙ ap (λ (s : Shape). shaped s c) (run_shape top l cs h)

  -- silence
  pub reset_after : (next top (run top l cs) reset).places ≡ filled (λ (j : ℕ). zero32) (length l.places) l.places
  reset_after = ap (λ (m : SignalLeft). m.places) (next_reset top (run top l cs) run_taken) ∙ filled_anew (λ (j : ℕ). zero32) l.places (run top l cs).places (run_length top l cs h)

-- a second phase replaces the first
pub phase_replaced : (top : ℕ) (l : SignalLeft) (p q : Float) → Taken l.places
    → (next top (next top l (setting (phase p))) (setting (phase q))).places ≡ (next top l (setting (phase q))).places
phase_replaced top l p q h = samples_after top l (setting (phase p) ∷ []) h (phase q) ∙ sym (samples_after top l [] h (phase q))

-- ---- the figures and THD of those samples

measured_figures : (top : ℕ) (s : State) (xs : List Float) → Taken xs → eqb (length xs) 0 ≡ false
    → (with_measured top s xs).metrics.figures ≡ figures_of s.shape.wave s.shape.amplitude s.shape.frequency xs
unfolding with_measured answer_of
measured_figures top s xs h k = rw (h.0, k)

pub made_figures : (top : ℕ) (s : State) (xs : List Float) → Taken xs → eqb (length xs) 0 ≡ false
    → (state_of (made top s xs)).metrics.figures ≡ figures_of (shape_in (made top s xs)).wave (shape_in (made top s xs)).amplitude (shape_in (made top s xs)).frequency (made top s xs).places
unfolding made with_measured
made_figures top s xs h k =
    let e = generated_length s.shape xs in
    measured_figures top s (generated s.shape xs).places (taken_as xs (generated s.shape xs).places e h) (rw e k)

made_thd : (top : ℕ) (s : State) (xs : List Float) → (state_of (made top s xs)).metrics.thd ≡ thd_of top (shape_in (made top s xs)).frequency s.metrics.thd (made top s xs).places
unfolding made with_measured
made_thd top s xs = refl

with_thd : (s : State) (c : Setting) → (with_setting s c).metrics.thd ≡ s.metrics.thd
unfolding with_phase with_duty
with_thd s (phase p) = refl
with_thd s (duty d) = refl

module _ (top : ℕ) (l : SignalLeft) (c : Setting) (h : Taken l.places) where
  abbrev set : SignalLeft
  set = next top l (setting c)

  -- the record is that of the samples and the shape that the setting leaves; of no samples, the earlier one stays
  pub figures_set : eqb (length l.places) 0 ≡ false → (state_of set).metrics.figures ≡ figures_of (shape_in set).wave (shape_in set).amplitude (shape_in set).frequency set.places
  figures_set k = rw (next_set top l c h) (made_figures top (with_setting (state_of l) c) l.places h k)

  -- THD is that of the samples, over the one before
  pub thd_set : (state_of set).metrics.thd ≡ thd_of top (shape_in set).frequency (state_of l).metrics.thd set.places
  thd_set =
      let m = made top (with_setting (state_of l) c) l.places in
      rw (next_set top l c h) (made_thd top (with_setting (state_of l) c) l.places ∙ ap (λ (t : Float). thd_of top (shape_in m).frequency t m.places) (with_thd (state_of l) c))

-- 01, `Signal` keeps its earlier THD where the bin is unusable or silent, and else the earlier one has no effect
pub thd_unusable : (top : ℕ) (frequency earlier : Float) (xs : List Float) → usable frequency (length xs / 2) (fundamental_bin frequency (length xs)) ≡ false → thd_of top frequency earlier xs ≡ earlier
unfolding thd_of
thd_unusable top frequency earlier xs u = rw u

pub thd_silent : (top : ℕ) (frequency earlier : Float) (xs : List Float) → lt tiny32 (magnitude_of xs (fundamental_bin frequency (length xs))) ≡ false
    → usable frequency (length xs / 2) (fundamental_bin frequency (length xs)) ≡ true → thd_of top frequency earlier xs ≡ earlier
unfolding thd_of thd_at thd_from
thd_silent top frequency earlier xs m u = rw (u, m)

pub thd_heard : (top : ℕ) (frequency earlier other : Float) (xs : List Float) → lt tiny32 (magnitude_of xs (fundamental_bin frequency (length xs))) ≡ true
    → usable frequency (length xs / 2) (fundamental_bin frequency (length xs)) ≡ true → thd_of top frequency earlier xs ≡ thd_of top frequency other xs
unfolding thd_of thd_at thd_from
thd_heard top frequency earlier other xs m u = rw (u, m)

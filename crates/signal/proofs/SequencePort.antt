-- Call by call, what `Sequence.antt` leaves: the port, the state after a reset, and calls that are refused. Assumes nothing.
use mathlib.Core.Path.{◌≡◌, refl, sym, ap, ◌∙◌}
use mathlib.Core.Logic.{◌⊎◌, inl, inr, ⊎_elim}
use mathlib.Core.Bool.{Bool, true, false, false≢true}
use mathlib.Core.List.{List, [], ◌∷◌}
use Prim.Native.Nat.{ℕ}
use borrow.Author.Tests.{ne_eqb}
use lib.Dec.{eqb, lit<}
use lib.ListN.{length}
use lib.Ieee.{Float}
use Rattle.laws.specs.Literals.{zero32}
use Rattle.answers.specs.Numbers.{Outcome}
use Rattle.answers.specs.Left.{left}
use Rattle.answers.specs.Numbers.{number_of, if_done, too_long}
use Rattle.answers.proofs.Ended.{if_either}
use Rattle.generator.specs.declared.Shape.{Shape}
use Rattle.generator.specs.declared.Wave.{Wave}
use Rattle.generator.specs.declared.Wave.TheVariants.{DC, PWM, Triangular, Sawtooth}
use Rattle.generator.specs.Sample.{generated}
use Rattle.spectrum.specs.Grid.{on_grid}
use Rattle.spectrum.specs.Spectrum.{outcome_of}
use Rattle.port.specs.declared.Port.{Port}
use Rattle.port.specs.Fields.{at_voltage, at_voltage_thd, at_voltage_crest_factor}
use Rattle.port.proofs.Fields.{puts_at}
use Rattle.figures.specs.declared.TimeFigures.{TimeFigures}
use Rattle.figures.specs.Figures.{zero_figures, figures_of}
use Rattle.distortion.specs.Thd.{thd_of}
use Rattle.signal.specs.declared.State.{State}
use Rattle.signal.specs.State.{fresh, with_phase, with_duty, level_rows, levelled, voltage_of, with_measured, silenced}
use Rattle.signal.specs.Calls.{SignalLeft, answer, unless_refused, made, remade, new_of, reset_of}
use Rattle.signal.specs.Sequence.{Setting, phase, duty, Later, setting, reset, next, run, shaped, shapes, Taken, Refused, Shows, ShowsOwn, OthersStay, Quiet, Unmoved}
use Rattle.signal.proofs.Ends.{chain}
use Rattle.signal.proofs.Sequence.{state_of, shape_in, with_setting, judged_taken, next_set, next_reset, next_taken}
use Rattle.signal.proofs.Sequence.{run_length, run_shape, run_taken, samples_after, shape_after, figures_set, thd_set}

-- ---- the three readings that follow a measurement

measured_shows : (top : ℕ) (s : State) (xs : List Float) → ShowsOwn (with_measured top s xs)
unfolding with_measured levelled
measured_shows top s xs = record { level = refl; crest = refl; distortion = refl }

made_shows : (top : ℕ) (s : State) (xs : List Float) → ShowsOwn (state_of (made top s xs))
unfolding made
made_shows top s xs = measured_shows top s (generated s.shape xs).places

-- silence has a mean and an RMS of 0
level_of_none : (w : Wave) → voltage_of w zero_figures ≡ zero32
unfolding voltage_of
level_of_none DC = refl
level_of_none PWM = refl
level_of_none Triangular = refl
level_of_none Sawtooth = refl

silenced_shows : (s : State) → ShowsOwn (silenced s)
unfolding silenced levelled
silenced_shows s = record { level = sym (level_of_none s.shape.wave); crest = refl; distortion = refl }

next_shows : (top : ℕ) (l : SignalLeft) (c : Later) → Taken l.places → ShowsOwn (state_of (next top l c))
next_shows top l (setting c) h = rw (next_set top l c h) (made_shows top (with_setting (state_of l) c) l.places)
next_shows top l reset h = rw (next_reset top l h) (silenced_shows (state_of l))

-- after `new`
pub readings_new : (top : ℕ) (wave : Wave) (amplitude frequency : Float) (edition : ℕ) (xs : List Float) → Taken xs
    → ShowsOwn (state_of (new_of top wave amplitude frequency edition xs))
unfolding remade
readings_new top wave amplitude frequency edition xs h =
    let start = fresh wave amplitude frequency edition in
    rw (judged_taken _ xs (made top start xs) h) (made_shows top start xs)

-- after one later call or more, whichever they are, and whatever the readings were at the start (a power port's are those that were given)
pub readings_follow : (top : ℕ) (l : SignalLeft) (c : Later) (cs : List Later) → Taken l.places → ShowsOwn (state_of (run top l (c ∷ cs)))
readings_follow top l c [] h = next_shows top l c h
readings_follow top l c (d ∷ cs) h = readings_follow top (next top l c) d cs (next_taken top l c h)

figures_as : (s z : Shape) (xs ys : List Float) → s ≡ z → xs ≡ ys → figures_of s.wave s.amplitude s.frequency xs ≡ figures_of z.wave z.amplitude z.frequency ys
figures_as s z xs ys e f = rw (e, f)

thd_as : (top : ℕ) (earlier : Float) (s z : Shape) (xs ys : List Float) → s ≡ z → xs ≡ ys → thd_of top s.frequency earlier xs ≡ thd_of top z.frequency earlier ys
thd_as top earlier s z xs ys e f = rw (e, f)

shows_as : (s z : Shape) (f g : TimeFigures) (t u : Float) (p : Port) → s ≡ z → f ≡ g → t ≡ u → Shows s f t p → Shows z g u p
shows_as s z f g t u p a b c h = rw (← a, ← b, ← c) h

module _ (top : ℕ) (l : SignalLeft) (cs : List Later) (h : Taken l.places) (c : Setting) where
  abbrev before : SignalLeft
  before = run top l cs

  abbrev last : SignalLeft
  last = next top before (setting c)

  abbrev shape : Shape
  shape = shaped (shapes (shape_in l) cs) c

  abbrev samples : List Float
  samples = (generated shape l.places).places

  -- after a setting, whatever calls came before: the figures of the samples that the last phase and the last duty cycle give on the first buffer, and
  -- their THD over the one before
  pub readings_after : eqb (length l.places) 0 ≡ false
      → Shows shape (figures_of shape.wave shape.amplitude shape.frequency samples) (thd_of top shape.frequency (state_of before).metrics.thd samples) (state_of last).port
  readings_after k =
      let t = run_taken top l cs h in
      let s = shape_after top l cs h c in
      let x = samples_after top l cs h c in
      let some : eqb (length before.places) 0 ≡ false = rw (run_length top l cs h) k in
      shows_as (shape_in last) shape _ _ _ _ (state_of last).port s
      (figures_set top before c t some ∙ figures_as (shape_in last) shape last.places samples s x)
      (thd_set top before c t ∙ thd_as top (state_of before).metrics.thd (shape_in last) shape last.places samples s x)
      (next_shows top before (setting c) t)

-- ---- the state after a reset, whatever calls came before

silenced_quiet : (s : State) (shape : Shape) → s.shape ≡ shape → Quiet shape (silenced s)
unfolding silenced levelled
silenced_quiet s shape e = record { kept = e; figures = refl; thd = refl; level = refl; crest = refl; distortion = refl }

pub reset_state : (top : ℕ) (l : SignalLeft) (cs : List Later) → Taken l.places → Quiet (shapes (shape_in l) cs) (state_of (next top (run top l cs) reset))
reset_state top l cs h = rw (next_reset top (run top l cs) (run_taken top l cs h)) (silenced_quiet (state_of (run top l cs)) (shapes (shape_in l) cs) (run_shape top l cs h))

-- ---- the other fields of the port, on any length

levelled_others : (p : Port) (voltage crest thd : Float) → OthersStay p (levelled p voltage crest thd)
unfolding levelled
levelled_others p voltage crest thd i v t c =
    puts_at p (level_rows voltage crest thd) (lit< tt, (refl, (lit< tt, (refl, (lit< tt, (refl, tt)))))) i
    ∙ rw (ne_eqb at_voltage i (λ e. v (sym e)), ne_eqb at_voltage_crest_factor i (λ e. c (sym e)), ne_eqb at_voltage_thd i (λ e. t (sym e)))

measured_others : (top : ℕ) (s : State) (xs : List Float) → OthersStay s.port (with_measured top s xs).port
unfolding with_measured
measured_others top s xs = levelled_others s.port _ _ _

made_others : (top : ℕ) (s : State) (xs : List Float) → OthersStay s.port (state_of (made top s xs)).port
unfolding made
made_others top s xs = measured_others top s (generated s.shape xs).places

silenced_others : (s : State) → OthersStay s.port (silenced s).port
unfolding silenced
silenced_others s = levelled_others s.port zero32 zero32 zero32

either : (P : SignalLeft → Type 0) (s : State) (xs : List Float) (after : SignalLeft) → P after → ((o : Outcome) → P (left (answer o s) xs)) → P (unless_refused s xs after)
unfolding unless_refused
either P s xs after taken refused = if_either P (outcome_of (length xs) false) after _ taken (refused (outcome_of (length xs) false))

abbrev Others : SignalLeft → SignalLeft → Type 0
Others l m = OthersStay (state_of l).port (state_of m).port

next_others : (top : ℕ) (l : SignalLeft) (c : Later) → Others l (next top l c)
unfolding remade reset_of with_phase with_duty
next_others top l (setting (phase p)) = either (Others l) (state_of l) l.places _ (made_others top (with_phase (state_of l) p) l.places) (λ o i v t c. refl)
next_others top l (setting (duty d)) = either (Others l) (state_of l) l.places _ (made_others top (with_duty (state_of l) d) l.places) (λ o i v t c. refl)
next_others top l reset = either (Others l) (state_of l) l.places _ (silenced_others (state_of l)) (λ o i v t c. refl)

pub others_stay : (top : ℕ) (l : SignalLeft) (cs : List Later) → OthersStay (state_of l).port (state_of (run top l cs)).port
others_stay top l [] i v t c = refl
others_stay top l (d ∷ ds) i v t c = others_stay top (next top l d) ds i v t c ∙ next_others top l d i v t c

-- ---- calls that are refused

judged_refused : (s : State) (xs : List Float) (after : SignalLeft) → Refused xs → unless_refused s xs after ≡ left (answer (outcome_of (length xs) false) s) xs
unfolding unless_refused outcome_of if_done
judged_refused s xs after h = go (too_long (length xs)) (on_grid (length xs)) h
  where
    go : (long grid : Bool) → (long ≡ true) ⊎ (grid ≡ false) → if_done (chain long grid) after (left (answer (chain long grid) s) xs) ≡ left (answer (chain long grid) s) xs
    go true grid h = refl
    go false false h = refl
    go false true h = absurd (⊎_elim false≢true (λ e. false≢true (sym e)) h)

next_refused : (top : ℕ) (l : SignalLeft) (c : Later) → Refused l.places → next top l c ≡ left (answer (outcome_of (length l.places) false) (state_of l)) l.places
unfolding remade reset_of
next_refused top l (setting (phase p)) h = judged_refused _ _ _ h
next_refused top l (setting (duty d)) h = judged_refused _ _ _ h
next_refused top l reset h = judged_refused _ _ _ h

-- all calls of a row are refused, and leave state and samples as they were
pub refused_run : (top : ℕ) (l : SignalLeft) (cs : List Later) → Refused l.places → Unmoved l (run top l cs)
refused_run top l [] h = record { state = refl; samples = refl }
refused_run top l (c ∷ cs) h =
    let m = left (answer (outcome_of (length l.places) false) (state_of l)) l.places in
    let r = refused_run top m cs h in
    rw (next_refused top l c h) (record { state = r.state; samples = r.samples })

-- ---- the number of each call: 3 and 4 exactly on a length that is too long or off the grid, whatever calls came before

abbrev ended : SignalLeft → ℕ
ended l = number_of l.answer.outcome

outcome_as : (xs ys : List Float) → ys ≡ xs → number_of (outcome_of (length ys) false) ≡ number_of (outcome_of (length xs) false)
outcome_as xs ys e = rw e

module _ (top : ℕ) (l : SignalLeft) (cs : List Later) (c : Later) where
  ended_refused : Refused l.places → ended (next top (run top l cs) c) ≡ number_of (outcome_of (length l.places) false)
  ended_refused h =
      let same = (refused_run top l cs h).samples in
      let still : Refused (run top l cs).places = rw same h in
      ap ended (next_refused top (run top l cs) c still) ∙ outcome_as l.places (run top l cs).places same

  pub number_too_long : too_long (length l.places) ≡ true → ended (next top (run top l cs) c) ≡ 3
  unfolding outcome_of
  number_too_long e = ended_refused (inl e) ∙ rw e

  pub number_off_grid : too_long (length l.places) ≡ false → on_grid (length l.places) ≡ false → ended (next top (run top l cs) c) ≡ 4
  unfolding outcome_of
  number_off_grid e g = ended_refused (inr g) ∙ rw (e, g)

ended_taken : (top : ℕ) (l : SignalLeft) (c : Later) → Taken l.places → ended (next top l c) ≡ 0
unfolding made
ended_taken top l (setting c) h = ap ended (next_set top l c h)
ended_taken top l reset h = ap ended (next_reset top l h)

pub number_done : (top : ℕ) (l : SignalLeft) (cs : List Later) (c : Later) → Taken l.places → ended (next top (run top l cs) c) ≡ 0
number_done top l cs c h = ended_taken top (run top l cs) c (run_taken top l cs h)

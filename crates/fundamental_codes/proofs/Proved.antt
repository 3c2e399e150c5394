-- The claims of specs/Claims.antt. Assumes nothing.
use mathlib.Core.Path.{◌≡◌, refl, sym, ap, ◌∙◌, subst}
use mathlib.Core.Logic.{inl, inr}
use mathlib.Core.List.{List}
use Prim.Native.Nat.{ℕ, zero, suc, ◌/◌, ◌^◌, ◌≤◌, ◌<◌}
use native.Mathlib.Omega.{arith}
use lib.Dec.{T}
use lib.ListN.{length}
use Rattle.std.proofs.Common.{Ok, Err}
use lib.IntN.{ℤ, pos, negsuc, nat_abs}
use lib.Ieee.{Float, of_bits}
use lib.Ieee.Scale.{finite}
use lib.Ieee.Positive.{num}
use Rattle.laws.specs.Whole.{value}
use Rattle.laws.specs.Literals.{zero32}
use Rattle.laws.proofs.Over.{Over}
use Rattle.laws.proofs.Bounded.{Bounded, size_value}
use Rattle.answers.specs.Numbers.{Outcome, done}
use Rattle.answers.specs.Answers.{given, ended, told}
use Rattle.answers.proofs.Ended.{ended_given}
use Rattle.spectrum.specs.Bin.{sums_of}
use Rattle.spectrum.proofs.Grid.{grid_le}
use Rattle.accuracy.specs.Accuracy.{Capture, none, sign, SignOf}
use Rattle.accuracy.proofs.Sentences.{number_finite}
use Rattle.fundamental.specs.declared.FundamentalPower.{FundamentalPower}
use Rattle.fundamental.specs.Fundamental.{in_phase, across, scaled_of, fundamental_figures, fundamental_of, zero_fundamental, fundamental_outcome, fundamental_answer, fundamental_told}
use Rattle.fundamental.proofs.Ends.{Unrefused, unrefused, answer_done}
use Rattle.fundamental_codes.specs.Exact.{real_sum, imag_sum, exact_active, exact_reactive, active_size, reactive_size, sizes}
use Rattle.fundamental_codes.specs.Claims.{BothFinite, exact_up_to, LightCall, NotAgainst, NeverWrong, ClearOfZero, RightSign, Beyond, RightBeyond}
use Rattle.fundamental_codes.proofs.Sums.{Rough, rough, real_exact, imag_exact, real_27, imag_27}
use Rattle.fundamental_codes.proofs.Along.{Along, along_trans}
use Rattle.fundamental_codes.proofs.Scaled.{scaled_bounded, scaled_along, scaled_pos}
use Rattle.fundamental_codes.proofs.Figures.{Small, in_phase_bounded, across_bounded, in_phase_along, across_along, in_phase_size, across_size}
use Rattle.fundamental_codes.proofs.Beyond.{in_phase_right, across_right}

zero_finite : T (finite zero32)
unfolding of_bits
zero_finite = tt

-- ---- a figure that goes along and is not 0 has the sign
no_sign : (z : ℤ) → sign z ≡ none → nat_abs z ≡ 0
no_sign (pos zero) e = refl
no_sign (pos (suc n)) e = cc
no_sign (negsuc n) e = cc

sign_left : (f : Float) (d : ℤ) → 0 < num f → Along (value f) d → SignOf d f
sign_left f d F (inl e) = e
sign_left f d F (inr e) = absurd (never (num f) F (sym (size_value f) ∙ no_sign (value f) e))
  where
    never : (a : ℕ) → 0 < a → a ≡ 0 → ⊥
    never a h e = omega arith

-- ---- where the call is done
module _ (v i : List Float) (x y : ℕ → ℤ) (k : ℕ) (cv : Capture v x) (ci : Capture i y) (g : Unrefused (length v) (length i) k) where
  abbrev n : ℕ
  n = length v

  few : n ≤ 4096
  few = grid_le g.grid

  few_amps : length i ≤ 4096
  few_amps = subst (λ (m : ℕ). m ≤ 4096) g.equal few

  some : 0 < n
  some = let h : k < n / 2 = g.below_half in omega arith

  volts : Small (sums_of v k)
  volts = record { real = real_27 v x cv k few; imag = imag_27 v x cv k few }

  amps : Small (sums_of i k)
  amps = record { real = real_27 i y ci k few_amps; imag = imag_27 i y ci k few_amps }

  active_bounded : Bounded (2 ^ 56) (fundamental_of v i k).active
  unfolding fundamental_of fundamental_figures
  active_bounded = scaled_bounded n some few (in_phase (sums_of v k) (sums_of i k)) (in_phase_bounded (sums_of v k) (sums_of i k) volts amps)

  reactive_bounded : Bounded (2 ^ 56) (fundamental_of v i k).reactive
  unfolding fundamental_of fundamental_figures
  reactive_bounded = scaled_bounded n some few (across (sums_of v k) (sums_of i k)) (across_bounded (sums_of v k) (sums_of i k) volts amps)

-- ---- either way
abbrev Numbers : FundamentalPower → Type 0
Numbers p = T (finite p.active) × T (finite p.reactive)

module _ (v i : List Float) (x y : ℕ → ℤ) (k : ℕ) (cv : Capture v x) (ci : Capture i y) where
  numbers : (o : Outcome) → o ≡ fundamental_outcome (length v) (length i) k → Numbers (told zero_fundamental (given o (fundamental_of v i k)))
  numbers (Ok u) e =
      let g = unrefused (length v) (length i) k u e in
      (number_finite (fundamental_of v i k).active (active_bounded v i x y k cv ci g).0, number_finite (fundamental_of v i k).reactive (reactive_bounded v i x y k cv ci g).0)
  numbers (Err r) e = (zero_finite, zero_finite)

pub figures_finite : BothFinite
unfolding fundamental_answer
figures_finite v i x y k cv ci = numbers v i x y k cv ci (fundamental_outcome (length v) (length i) k) refl

-- ---- the signs
module _ (v i : List Float) (k : ℕ) (o : ended (fundamental_answer v i k) ≡ done) where
  is_done : fundamental_outcome (length v) (length i) k ≡ done
  unfolding fundamental_answer
  is_done = sym (ended_given (fundamental_outcome (length v) (length i) k) (fundamental_of v i k)) ∙ o

  power_is : fundamental_told v i k ≡ fundamental_of v i k
  power_is = ap (told zero_fundamental) (answer_done v i k is_done)

module _ (v i : List Float) (x y : ℕ → ℤ) (k : ℕ) (m : LightCall v i x y k) where
  g : Unrefused (length v) (length i) k
  g = unrefused (length v) (length i) k tt (sym (is_done v i k m.done))

  -- the four sums
  real_volts : Over 30 (sums_of v k).real (real_sum x (length v) k)
  real_volts = real_exact v x m.voltage k m.light_voltage

  imag_volts : Over 30 (sums_of v k).imag (imag_sum x (length v) k)
  imag_volts = imag_exact v x m.voltage k m.light_voltage

  light_amps : sizes y (length i) ≤ exact_up_to
  light_amps = subst (λ (n : ℕ). sizes y n ≤ exact_up_to) g.equal m.light_current

  real_amps : Over 30 (sums_of i k).real (real_sum y (length v) k)
  real_amps = subst (λ (n : ℕ). Over 30 (sums_of i k).real (real_sum y n k)) (sym g.equal) (real_exact i y m.current k light_amps)

  imag_amps : Over 30 (sums_of i k).imag (imag_sum y (length v) k)
  imag_amps = subst (λ (n : ℕ). Over 30 (sums_of i k).imag (imag_sum y n k)) (sym g.equal) (imag_exact i y m.current k light_amps)

  sv : Small (sums_of v k)
  sv = volts v i x y k m.voltage m.current g

  si : Small (sums_of i k)
  si = amps v i x y k m.voltage m.current g

  n+ : 0 < length v
  n+ = some v i x y k m.voltage m.current g

  n- : length v ≤ 4096
  n- = few v i x y k m.voltage m.current g

  active_along : Along (value (fundamental_of v i k).active) (exact_active x y (length v) k)
  unfolding fundamental_of fundamental_figures exact_active
  active_along =
      let s = sums_of v k in
      let t = sums_of i k in
      along_trans (value (scaled_of (in_phase s t) (length v))) (value (in_phase s t)) (exact_active x y (length v) k)
      (scaled_along (length v) n+ n- (in_phase s t) (in_phase_bounded s t sv si))
      (in_phase_along s t sv si (real_sum x (length v) k) (imag_sum x (length v) k) (real_sum y (length v) k) (imag_sum y (length v) k) real_volts imag_volts real_amps imag_amps)

  reactive_along : Along (value (fundamental_of v i k).reactive) (exact_reactive x y (length v) k)
  unfolding fundamental_of fundamental_figures exact_reactive
  reactive_along =
      let s = sums_of v k in
      let t = sums_of i k in
      along_trans (value (scaled_of (across s t) (length v))) (value (across s t)) (exact_reactive x y (length v) k)
      (scaled_along (length v) n+ n- (across s t) (across_bounded s t sv si))
      (across_along s t sv si (real_sum x (length v) k) (imag_sum x (length v) k) (real_sum y (length v) k) (imag_sum y (length v) k) real_volts imag_volts real_amps imag_amps)

  pub never_against : NotAgainst (exact_active x y (length v) k) (fundamental_told v i k).active × NotAgainst (exact_reactive x y (length v) k) (fundamental_told v i k).reactive
  never_against =
      subst (λ (p : FundamentalPower). NotAgainst (exact_active x y (length v) k) p.active × NotAgainst (exact_reactive x y (length v) k) p.reactive) (sym (power_is v i k m.done))
      (active_along, reactive_along)

  -- a figure that is not 0 has no other choice
  active_right : ClearOfZero (active_size x y (length v) k) (exact_active x y (length v) k) → SignOf (exact_active x y (length v) k) (fundamental_of v i k).active
  unfolding fundamental_of fundamental_figures exact_active active_size
  active_right h =
      let s = sums_of v k in
      let t = sums_of i k in
      sign_left (fundamental_of v i k).active (exact_active x y (length v) k)
      (scaled_pos (length v) n+ n- (in_phase s t) (in_phase_bounded s t sv si)
      (in_phase_size s t sv si (real_sum x (length v) k) (imag_sum x (length v) k) (real_sum y (length v) k) (imag_sum y (length v) k) real_volts imag_volts real_amps imag_amps h)) active_along

  reactive_right : ClearOfZero (reactive_size x y (length v) k) (exact_reactive x y (length v) k) → SignOf (exact_reactive x y (length v) k) (fundamental_of v i k).reactive
  unfolding fundamental_of fundamental_figures exact_reactive reactive_size
  reactive_right h =
      let s = sums_of v k in
      let t = sums_of i k in
      sign_left (fundamental_of v i k).reactive (exact_reactive x y (length v) k)
      (scaled_pos (length v) n+ n- (across s t) (across_bounded s t sv si)
      (across_size s t sv si (real_sum x (length v) k) (imag_sum x (length v) k) (real_sum y (length v) k) (imag_sum y (length v) k) real_volts imag_volts real_amps imag_amps h)) reactive_along

  right_both : (ClearOfZero (active_size x y (length v) k) (exact_active x y (length v) k) → SignOf (exact_active x y (length v) k) (fundamental_told v i k).active)
      × (ClearOfZero (reactive_size x y (length v) k) (exact_reactive x y (length v) k) → SignOf (exact_reactive x y (length v) k) (fundamental_told v i k).reactive)
  right_both =
      subst
      (λ (p : FundamentalPower).
      (ClearOfZero (active_size x y (length v) k) (exact_active x y (length v) k) → SignOf (exact_active x y (length v) k) p.active)
      × (ClearOfZero (reactive_size x y (length v) k) (exact_reactive x y (length v) k) → SignOf (exact_reactive x y (length v) k) p.reactive)) (sym (power_is v i k m.done))
      (active_right, reactive_right)

pub never_wrong : NeverWrong
never_wrong = never_against

pub right_sign : RightSign
right_sign = right_both

-- ---- codes of any weight
module _ (v i : List Float) (x y : ℕ → ℤ) (k : ℕ) (cv : Capture v x) (ci : Capture i y) (o : ended (fundamental_answer v i k) ≡ done) where
  all_clear : Unrefused (length v) (length i) k
  all_clear = unrefused (length v) (length i) k tt (sym (is_done v i k o))

  rough_volts : Rough (sums_of v k) (length v) (real_sum x (length v) k) (imag_sum x (length v) k)
  rough_volts = rough v x cv k (few v i x y k cv ci all_clear)

  rough_amps : Rough (sums_of i k) (length v) (real_sum y (length v) k) (imag_sum y (length v) k)
  rough_amps = subst (λ (n : ℕ). Rough (sums_of i k) n (real_sum y n k) (imag_sum y n k)) (sym all_clear.equal) (rough i y ci k (few_amps v i x y k cv ci all_clear))

  active_beyond : Beyond (length v) (exact_active x y (length v) k) → SignOf (exact_active x y (length v) k) (fundamental_of v i k).active
  unfolding fundamental_of fundamental_figures exact_active
  active_beyond far =
      let s = sums_of v k in
      let t = sums_of i k in
      let sv = volts v i x y k cv ci all_clear in
      let si = amps v i x y k cv ci all_clear in
      let n+ = some v i x y k cv ci all_clear in
      let n- = few v i x y k cv ci all_clear in
      let r = in_phase_right s t (length v) n+ sv si (real_sum x (length v) k) (imag_sum x (length v) k) (real_sum y (length v) k) (imag_sum y (length v) k) rough_volts rough_amps far in
      let b = in_phase_bounded s t sv si in
      sign_left (scaled_of (in_phase s t) (length v)) (exact_active x y (length v) k) (scaled_pos (length v) n+ n- (in_phase s t) b r.1)
      (along_trans (value (scaled_of (in_phase s t) (length v))) (value (in_phase s t)) (exact_active x y (length v) k) (scaled_along (length v) n+ n- (in_phase s t) b) r.0)

  reactive_beyond : Beyond (length v) (exact_reactive x y (length v) k) → SignOf (exact_reactive x y (length v) k) (fundamental_of v i k).reactive
  unfolding fundamental_of fundamental_figures exact_reactive
  reactive_beyond far =
      let s = sums_of v k in
      let t = sums_of i k in
      let sv = volts v i x y k cv ci all_clear in
      let si = amps v i x y k cv ci all_clear in
      let n+ = some v i x y k cv ci all_clear in
      let n- = few v i x y k cv ci all_clear in
      let r = across_right s t (length v) n+ sv si (real_sum x (length v) k) (imag_sum x (length v) k) (real_sum y (length v) k) (imag_sum y (length v) k) rough_volts rough_amps far in
      let b = across_bounded s t sv si in
      sign_left (scaled_of (across s t) (length v)) (exact_reactive x y (length v) k) (scaled_pos (length v) n+ n- (across s t) b r.1)
      (along_trans (value (scaled_of (across s t) (length v))) (value (across s t)) (exact_reactive x y (length v) k) (scaled_along (length v) n+ n- (across s t) b) r.0)

  beyond_both : (Beyond (length v) (exact_active x y (length v) k) → SignOf (exact_active x y (length v) k) (fundamental_told v i k).active)
      × (Beyond (length v) (exact_reactive x y (length v) k) → SignOf (exact_reactive x y (length v) k) (fundamental_told v i k).reactive)
  beyond_both =
      subst
      (λ (p : FundamentalPower).
      (Beyond (length v) (exact_active x y (length v) k) → SignOf (exact_active x y (length v) k) p.active)
      × (Beyond (length v) (exact_reactive x y (length v) k) → SignOf (exact_reactive x y (length v) k) p.reactive)) (sym (power_is v i k o))
      (active_beyond, reactive_beyond)

pub right_beyond : RightBeyond
right_beyond = beyond_both

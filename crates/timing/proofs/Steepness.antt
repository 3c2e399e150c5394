-- Only a step above all before it can be steeper than all before it: how the largest slew rate is found without a division for each step. Assumes nothing.
use Rattle.std.proofs.Common.{◌≡◌, ℕ, zero, suc, ◌+◌, ◌-◌, ◌*◌, ◌≤◌, Bool, true, false, cond, not, ◌&&◌, ◌||◌, T, eqb, ltb, List, pos, sym, refl, ap, ◌∙◌, subst, add-zero, zero-lt-suc, mul-pos, zero-mul, arith, le-ltb, lt-ltb}
use lib.Ieee.{Float, nan, inf, fin, binary32, is_nan, lt, le, eq, div, up, down, of_bits, of_fields, odd}
use lib.Ieee.Fits.{up_pos}
use Rattle.laws.specs.Literals.{zero32, one32}
use Rattle.laws.specs.Samples.{higher, unsigned}
use Rattle.laws.specs.Walks.{pairs}
use Rattle.laws.proofs.Turn.{pairs_next}
use Rattle.laws.proofs.Zero.{null_div, lt_null}
use Rattle.laws.proofs.NotNumber.{lt_nan}
use Rattle.laws.proofs.Quotients.{div_unsigned, quotient_too}
use Rattle.number.specs.Number.{abs}
use Rattle.timing.specs.Timing.{slew_at}
use Rattle.timing.specs.Steps.{NextAbove}

size_unsigned : (x : Float) → T (unsigned (abs x))
unfolding abs unsigned
size_unsigned nan = tt
size_unsigned (inf s) = tt
size_unsigned (fin s m e) = tt

is_true : (b : Bool) → T b → b ≡ true
is_true true t = refl
is_true false t = absurd t

-- ---- zeros, and the time between samples
abbrev naught : Float
naught = fin false 0 (pos 0)

-- a rate with a sign is at most 0
rate_unsigned : (rate : Float) → le rate naught ≡ false → T (unsigned rate)
unfolding le lt eq unsigned
rate_unsigned nan e = tt
rate_unsigned (inf true) e = absurd (subst T e tt)
rate_unsigned (inf false) e = tt
rate_unsigned (fin false m d) e = tt
rate_unsigned (fin true m d) e = absurd (subst T e (at_most (m * up d * 1) (0 * 1 * down d) (zero-mul (down d))))
  where
    at_most : (a b : ℕ) → b ≡ 0 → T (ltb 0 (a + b) || (eqb a b && (false || eqb a 0)))
    at_most zero b z = subst (λ (x : ℕ). T (ltb 0 (0 + x) || (eqb 0 x && (false || eqb 0 0)))) (sym z) tt
    at_most (suc a) b z = subst (λ (x : Bool). T (x || (eqb (suc a) b && (false || eqb (suc a) 0)))) (sym (lt-ltb 0 (suc a + b) (omega arith))) tt

pub time_unsigned : (rate : Float) → le rate zero32 ≡ false → unsigned (div binary32 one32 rate) ≡ true
unfolding of_bits of_fields odd unsigned
time_unsigned rate e = is_true (unsigned (div binary32 one32 rate)) (div_unsigned binary32 one32 rate tt (rate_unsigned rate e))

-- no quotient of a zero is above it
zero_over : (dt : Float) → T (unsigned dt) → lt naught (div binary32 naught dt) ≡ false
unfolding lt div unsigned
zero_over nan D = refl
zero_over (inf true) D = absurd D
zero_over (inf false) D = refl
zero_over (fin true n d) D = absurd D
zero_over (fin false zero d) D = refl
zero_over (fin false (suc n) d) D = lt_null 0 (pos 0) (div binary32 naught (fin false (suc n) d)) (null_div binary32 naught (fin false (suc n) d) refl tt (mul-pos (zero-lt-suc n) (up_pos d)))

-- ---- the larger of two
not_below_itself : (x : Float) → lt x x ≡ false
unfolding lt
not_below_itself nan = refl
not_below_itself (inf true) = refl
not_below_itself (inf false) = refl
not_below_itself (fin true m e) = le-ltb (m * up e * down e) (m * up e * down e) (omega arith)
not_below_itself (fin false m e) = le-ltb (m * up e * down e) (m * up e * down e) (omega arith)

not_above : (m x : Float) → lt (higher m x) x ≡ false
unfolding higher
not_above m x = go (lt m x) refl
  where
    go : (b : Bool) → lt m x ≡ b → lt (cond b x m) x ≡ false
    go true e = not_below_itself x
    go false e = e

higher_unsigned : (m x : Float) → T (unsigned m) → T (unsigned x) → T (unsigned (higher m x))
unfolding higher
higher_unsigned m x M X = go (lt m x)
  where
    go : (b : Bool) → T (unsigned (cond b x m))
    go true = X
    go false = M

stays : (m x : Float) → lt m x ≡ false → m ≡ higher m x
unfolding higher
stays m x e = sym (ap (λ (b : Bool). cond b x m) e)

-- no step up to w is steeper than m
pub record Covered (dt m w : Float) : Type 0 where
  pub sign : T (unsigned m)
  pub steps : (x : Float) → lt w (abs x) ≡ false → lt m (div binary32 (abs x) dt) ≡ false

module _ (dt : Float) (D : unsigned dt ≡ true) where
  clear : T (unsigned dt)
  clear = subst T (sym D) tt

  pub covered_none : Covered dt zero32 zero32
  unfolding of_bits of_fields odd unsigned is_nan
  covered_none = record { sign = tt; steps = λ x h. quotient_too binary32 zero32 zero32 (abs x) dt tt tt (size_unsigned x) clear tt h (zero_over dt clear) }

  -- a step and what it makes of m
  pub covered_step : (m x : Float) → T (unsigned m) → T (not (is_nan (abs x))) → Covered dt (higher m (div binary32 (abs x) dt)) (abs x)
  covered_step m x M N =
      let s = higher_unsigned m (div binary32 (abs x) dt) M (div_unsigned binary32 (abs x) dt (size_unsigned x) clear) in
      record {
        sign = s;
        steps = λ y k. quotient_too binary32 (higher m (div binary32 (abs x) dt)) (abs x) (abs y) dt s (size_unsigned x) (size_unsigned y) clear N k (not_above m (div binary32 (abs x) dt));
      }

-- a step above another is a number
pub above_number : (w a : Float) → lt w a ≡ true → T (not (is_nan a))
unfolding is_nan
above_number w nan e = absurd (subst T (sym e ∙ lt_nan w) tt)
above_number w (inf t) e = tt
above_number w (fin t n d) e = tt

-- the largest slew rate stays over steps that are not above w
pub unchanged : (dt m w : Float) (xs : List Float) (from r : ℕ) → Covered dt m w → 1 ≤ from → NextAbove xs w from r → m ≡ pairs (slew_at dt) zero32 xs (from - 1)
    → m ≡ pairs (slew_at dt) zero32 xs (r - 1)
unfolding slew_at
unchanged dt m w xs from r v l n e = subst (λ (i : ℕ). m ≡ pairs (slew_at dt) zero32 xs (i - 1)) (whole n.reached) (go (r - from) (omega (arith, n.reached)))
  where
    whole : from ≤ r → from + (r - from) ≡ r
    whole h = omega arith

    on : (i k : ℕ) → i + k + 1 - 1 ≡ i + suc k - 1
    on i k = omega arith

    go : (k : ℕ) → from + k ≤ r → m ≡ pairs (slew_at dt) zero32 xs (from + k - 1)
    go zero h = subst (λ (i : ℕ). m ≡ pairs (slew_at dt) zero32 xs (i - 1)) (sym (add-zero from)) e
    go (suc k) h =
        let i = from + k in
        let q = v.steps _ (n.none i (omega arith) (omega arith)) in
        stays m _ q ∙ (pairs_next (slew_at dt) zero32 xs i (omega arith) (go k (omega arith)) refl refl ∙ ap (pairs (slew_at dt) zero32 xs) (on from k))

-- Swapping voltage and current: the outcome and the active figure stay, the reactive one is negated, or is +0 both times. On every input. Assumes nothing.
use Rattle.std.proofs.Common.{◌≡◌, ℕ, zero, suc, ◌*◌, ◌/◌, ◌^◌, ◌<◌, ◌≤◌, Bool, true, false, not, ◌&&◌, T, eqb, ltb, List, length, pos, negsuc, sym, refl, ap, ◌∙◌, subst, inl, inr, le_trans, arith, pow_mono, ltb-false, ltb-true, eq-eqb, ne_eqb, eqb-true, Result, Ok, Err}
use lib.Count.{count_trailing_zeros}
use lib.Ieee.{Float, nan, inf, fin, binary32, binary64, up, down, round, units, odd, size, span, climb, neg, sub, mul, div, of_int, of_bits, of_fields}
use borrow.Author.Tests.{eqb-false}
use Rattle.answers.specs.Numbers.{Outcome, done, too_long, refuse}
use Rattle.answers.specs.Answers.{given}
use Rattle.answers.specs.declared.Refusal.{Refusal}
use Rattle.answers.specs.declared.Refusal.TheVariants.{LengthsDiffer, TooLong, OffGrid, BinOutside}
use Rattle.laws.specs.Literals.{zero32, count64}
use Rattle.laws.proofs.Negation.{nought, Opposite, neg_round, mul_swap, neg_mul, neg_div, sub_swap}
use Rattle.laws.proofs.Tested.{all_below, at}
use Rattle.number.specs.Number.{narrow}
use Rattle.spectrum.specs.declared.parts.Sums.{Sums}
use Rattle.spectrum.specs.Grid.{on_grid}
use Rattle.spectrum.specs.Bin.{two, sums_of}
use Rattle.spectrum.proofs.Grid.{power, grid_le, grid_power}
use Rattle.fundamental.specs.declared.FundamentalPower.{FundamentalPower}
use Rattle.fundamental.specs.Fundamental.{in_phase, across, scaled_of, fundamental_figures, fundamental_of, inside, fundamental_outcome, fundamental_answer}
use Rattle.fundamental.specs.Swap.{Negated, Swapped, Swap}

-- ---- through the scaling

neg_narrow : (x : Float) → narrow (neg x) ≡ neg (narrow x)
unfolding narrow neg
neg_narrow nan = refl
neg_narrow (inf s) = refl
neg_narrow (fin s m e) = sym (neg_round binary32 s (m * up e) (down e))

scaled_neg : (x : Float) (n : ℕ) → scaled_of (neg x) n ≡ neg (scaled_of x n)
unfolding scaled_of
scaled_neg x n =
    let m = mul binary64 (count64 n) (count64 n) in
    ap (λ (y : Float). narrow (div binary64 y m)) (neg_mul binary64 x two)
    ∙ ap narrow (neg_div binary64 (mul binary64 x two) m)
    ∙ neg_narrow (div binary64 (mul binary64 x two) m)

-- +0 stays +0: one test, computed at each length of the grid
plus_zero : Float → Bool
plus_zero nan = false
plus_zero (inf s) = false
plus_zero (fin true m e) = false
plus_zero (fin false (suc m) e) = false
plus_zero (fin false zero (negsuc e)) = false
plus_zero (fin false zero (pos (suc e))) = false
plus_zero (fin false zero (pos zero)) = true

is_plus_zero : (x : Float) → T (plus_zero x) → x ≡ nought
unfolding plus_zero
is_plus_zero nan t = absurd t
is_plus_zero (inf s) t = absurd t
is_plus_zero (fin true m e) t = absurd t
is_plus_zero (fin false (suc m) e) t = absurd t
is_plus_zero (fin false zero (negsuc e)) t = absurd t
is_plus_zero (fin false zero (pos (suc e))) t = absurd t
is_plus_zero (fin false zero (pos zero)) t = refl

scaled_0 : T (all_below (λ (p : ℕ). plus_zero (scaled_of nought (2 ^ p))) 13)
unfolding plus_zero scaled_of narrow mul div of_int of_bits of_fields round units odd size span climb count_trailing_zeros
scaled_0 = tt

-- the powers of two up to 4,096
at_most_12 : (p : ℕ) → 2 ^ p ≤ 4096 → p < 13
at_most_12 p h = go (ltb p 13) refl
  where
    go : (b : Bool) → ltb p 13 ≡ b → p < 13
    go true l = ltb-true p 13 l
    go false g = absurd (let m : 2 ^ 13 ≤ 4096 = le_trans (pow_mono (ltb-false p 13 g)) h in omega arith)

grid_0 : (n : ℕ) → on_grid n ≡ true → 0 < n → scaled_of nought n ≡ zero32
unfolding of_bits
grid_0 n g h =
    let e = grid_power g h in
    let small = at_most_12 (power n) (subst (λ (m : ℕ). m ≤ 4096) e (grid_le g)) in
    ap (λ (m : ℕ). scaled_of nought m) e
    ∙ is_plus_zero (scaled_of nought (2 ^ power n)) (at (λ (p : ℕ). plus_zero (scaled_of nought (2 ^ p))) 13 scaled_0 (power n) small)

negated : (n : ℕ) → on_grid n ≡ true → 0 < n → (x y : Float) → Opposite x y → Negated (scaled_of x n) (scaled_of y n)
negated n g h x y (inl e) = inl (ap (λ (z : Float). scaled_of z n) e ∙ scaled_neg x n)
negated n g h x y (inr e) =
    inr (ap (λ (z : Float). scaled_of z n) e.0 ∙ grid_0 n g h, ap (λ (z : Float). scaled_of z n) e.1 ∙ grid_0 n g h)

-- ---- the figures, over the sums v of the voltage and i of the current

module _ (v i : Sums) where
  in_phase_lem : in_phase i v ≡ in_phase v i
  unfolding in_phase
  in_phase_lem = rw (mul_swap binary64 i.real v.real, mul_swap binary64 i.imag v.imag)

  crossed : Opposite (across v i) (across i v)
  unfolding across
  crossed =
      let bc = mul binary64 v.imag i.real in
      let ad = mul binary64 v.real i.imag in
      subst (λ (z : Float). Opposite (sub binary64 bc ad) z)
      (ap (λ (z : Float). sub binary64 z bc) (mul_swap binary64 v.real i.imag)
      ∙ ap (λ (z : Float). sub binary64 (mul binary64 i.imag v.real) z) (mul_swap binary64 v.imag i.real))
      (sub_swap binary64 bc ad)

  swapped_figures : (n : ℕ) → on_grid n ≡ true → 0 < n → Swapped (Ok (fundamental_figures v i n)) (Ok (fundamental_figures i v n))
  unfolding fundamental_figures
  swapped_figures n g h = record { outcome = refl; active = ap (λ (x : Float). scaled_of x n) in_phase_lem; reactive = negated n g h (across v i) (across i v) crossed }

-- ---- the answers

same : (r : Refusal) → Swapped (Err r) (Err r)
same r = record { outcome = refl; active = refl; reactive = inr (refl, refl) }

-- the answer by its tests: too long, too long, equal, on the grid, inside
abbrev chain : Bool → Bool → Bool → Bool → Bool → Outcome
chain p q r g h = refuse p TooLong (refuse q TooLong (refuse (not r) LengthsDiffer (refuse (not g) OffGrid (refuse (not h) BinOutside done))))

module _ (v i : List Float) (k : ℕ) where
  abbrev ending : List Float → List Float → Outcome → Result FundamentalPower Refusal
  ending x y o = given o (fundamental_of x y k)

  -- lengths that differ, and lengths that are equal
  apart : (p q g g' h h' : Bool) → Swapped (ending v i (chain p q false g h)) (ending i v (chain q p false g' h'))
  apart true true g g' h h' = same TooLong
  apart true false g g' h h' = same TooLong
  apart false true g g' h h' = same TooLong
  apart false false g g' h h' = same LengthsDiffer

  together : (p q g h : Bool) → (g ≡ true → h ≡ true → Swapped (Ok (fundamental_of v i k)) (Ok (fundamental_of i v k)))
      → Swapped (ending v i (chain p q true g h)) (ending i v (chain q p true g h))
  together true true g h f = same TooLong
  together true false g h f = same TooLong
  together false true g h f = same TooLong
  together false false false h f = same OffGrid
  together false false true false f = same BinOutside
  together false false true true f = f refl refl

  abbrev chained : List Float → List Float → Bool → ℕ → Result FundamentalPower Refusal
  chained x y r l = ending x y (chain (too_long (length x)) (too_long (length y)) r (on_grid l) (inside l k))

  is_chained : (x y : List Float) (r : Bool) → eqb (length x) (length y) ≡ r → fundamental_answer x y k ≡ chained x y r (length x)
  unfolding fundamental_answer fundamental_outcome
  is_chained x y r e = ap (λ (t : Bool). chained x y t (length x)) e

  along : (a a' b b' : Result FundamentalPower Refusal) → a ≡ a' → b ≡ b' → Swapped a' b' → Swapped a b
  along a a' b b' x y s = subst (λ (z : Result FundamentalPower Refusal). Swapped z b) (sym x) (subst (λ (z : Result FundamentalPower Refusal). Swapped a' z) (sym y) s)

  below : (n : ℕ) → inside n k ≡ true → 0 < n
  below n e = go (ltb 0 k) (ltb k (n / 2)) refl e
    where
      go : (p q : Bool) → ltb k (n / 2) ≡ q → (p && q) ≡ true → 0 < n
      go true true l x = let m : k < n / 2 = ltb-true k (n / 2) l in omega arith
      go true false l x = absurd (subst T (sym x) tt)
      go false q l x = absurd (subst T (sym x) tt)

  figures : length v ≡ length i → on_grid (length v) ≡ true → inside (length v) k ≡ true
      → Swapped (Ok (fundamental_of v i k)) (Ok (fundamental_of i v k))
  unfolding fundamental_of
  figures e g h =
      let a = sums_of v k in
      let b = sums_of i k in
      subst (λ (l : ℕ). Swapped (Ok (fundamental_figures a b (length v))) (Ok (fundamental_figures b a l))) e (swapped_figures a b (length v) g (below (length v) h))

  equal : length v ≡ length i → Swapped (fundamental_answer v i k) (fundamental_answer i v k)
  equal e =
      let n = length v in
      along (fundamental_answer v i k) (chained v i true n) (fundamental_answer i v k) (chained i v true n) (is_chained v i true (eq-eqb n (length i) e))
      (is_chained i v true (eq-eqb (length i) n (sym e)) ∙ ap (λ (l : ℕ). chained i v true l) (sym e))
      (together (too_long n) (too_long (length i)) (on_grid n) (inside n k) (λ g h. figures e g h))

  differ : (length v ≡ length i → ⊥) → Swapped (fundamental_answer v i k) (fundamental_answer i v k)
  differ d =
      let n = length v in
      let m = length i in
      along (fundamental_answer v i k) (chained v i false n) (fundamental_answer i v k) (chained i v false m) (is_chained v i false (ne_eqb n m d))
      (is_chained i v false (ne_eqb m n (λ e. d (sym e))))
      (apart (too_long n) (too_long m) (on_grid n) (on_grid m) (inside n k) (inside m k))

pub swap : Swap
swap v i k = go (eqb (length v) (length i)) refl
  where
    go : (r : Bool) → eqb (length v) (length i) ≡ r → Swapped (fundamental_answer v i k) (fundamental_answer i v k)
    go true x = equal v i k (eqb-true (length v) (length i) x)
    go false x = differ v i k (eqb-false (length v) (length i) x)

-- A line that was written is read back: it is a frame, with the number, and its codes are those that were written. Assumes nothing.
use mathlib.Core.Path.{◌≡◌, refl, sym, ap, ap₂, ◌∙◌}
use mathlib.Core.List.{List, [], ◌∷◌, ◌++◌, append_assoc}
use mathlib.Core.Bool.{Bool, true, false, ◌&&◌}
use Prim.Native.Nat.{ℕ, zero, suc, ◌+◌, ◌*◌, ◌/◌, ◌%◌, ◌<◌, ◌≤◌}
use native.Mathlib.Omega.{arith}
use native.Mathlib.Nat.{add_assoc}
use lib.ListN.{length, length-append}
use lib.Seq.{get_or-append-add}
use lib.IntN.{ℤ}
use Rattle.hexadecimal.specs.Digit.{is_digit, hex_pair, hex_word}
use Rattle.hexadecimal.specs.Code.{code_of, bits_of}
use Rattle.hexadecimal.proofs.Laws.{char_value, char_digit, bits_lt, bits_back, pair_length, word_length}
use Rattle.frame.specs.Line.{pair_at, word_at, all_digits, sum_of, sequence_of, count_of, a_frame, line_of, run_codes, codes_by, line_codes}
use Rattle.frame.proofs.Exact.{Formed, frame}
use Rattle.writing.specs.Text.{codes_text, body_text, closing, line_text}
use Rattle.writing.proofs.Laws.{body_length}
use Rattle.trip.specs.Codes.{Codes}

-- ---- digits only

digits_none : all_digits [] ≡ true
unfolding all_digits
digits_none = refl

digits_append : (a b : List ℕ) → all_digits a ≡ true → all_digits b ≡ true → all_digits (a ++ b) ≡ true
unfolding all_digits
digits_append [] b p q = q
digits_append (x ∷ a) b p q = by (is_digit x) p (λ e. digits_append a b e q)
  where
    by : (t : Bool) → t && all_digits a ≡ true → (all_digits a ≡ true → all_digits (a ++ b) ≡ true) → t && all_digits (a ++ b) ≡ true
    by true e ih = ih e
    by false e ih = e

pair_digits : (v : ℕ) → v < 256 → all_digits (hex_pair v) ≡ true
unfolding all_digits hex_pair
pair_digits v h = simp (char_digit (v / 16) (omega arith), char_digit (v % 16) (omega arith))

word_digits : (v : ℕ) → v < 65536 → all_digits (hex_word v) ≡ true
unfolding hex_word
word_digits v h = digits_append _ _ (pair_digits (v / 256) (omega arith)) (pair_digits (v % 256) (omega arith))

codes_digits : (vs ws : List ℤ) → Codes vs → Codes ws → all_digits (codes_text vs ws) ≡ true
unfolding codes_text
codes_digits [] ws p q = digits_none
codes_digits (v ∷ vs) [] p q = digits_none
codes_digits (v ∷ vs) (w ∷ ws) p q =
    digits_append _ _ (word_digits (bits_of v) (bits_lt v p.0))
    (digits_append _ _ (word_digits (bits_of w) (bits_lt w q.0)) (codes_digits vs ws p.1 q.1))

-- ---- values read back, in front and behind a prefix

pair_value : (v : ℕ) (r : List ℕ) → v < 256 → pair_at (hex_pair v ++ r) 0 ≡ v
unfolding pair_at hex_pair
pair_value v r h = omega (arith, char_value (v / 16) (omega arith), char_value (v % 16) (omega arith))

pair_behind : (p q : List ℕ) (i : ℕ) → pair_at (p ++ q) (length p + i) ≡ pair_at q i
unfolding pair_at
pair_behind p q i = rw (add_assoc (length p) i 1, get_or-append-add p q i 0, get_or-append-add p q (i + 1) 0)

word_behind : (p q : List ℕ) (i : ℕ) → word_at (p ++ q) (length p + i) ≡ word_at q i
unfolding word_at
word_behind p q i = rw (add_assoc (length p) i 2, pair_behind p q i, pair_behind p q (i + 2))

word_value : (v : ℕ) (r : List ℕ) → v < 65536 → word_at (hex_word v ++ r) 0 ≡ v
unfolding word_at hex_word
word_value v r h =
    let e = append_assoc (hex_pair (v / 256)) (hex_pair (v % 256)) r in
    let a : pair_at ((hex_pair (v / 256) ++ hex_pair (v % 256)) ++ r) 0 ≡ v / 256 = rw e (pair_value (v / 256) (hex_pair (v % 256) ++ r) (omega arith)) in
    let b : pair_at ((hex_pair (v / 256) ++ hex_pair (v % 256)) ++ r) (0 + 2) ≡ v % 256 =
    rw e (pair_two (v / 256) (hex_pair (v % 256) ++ r) ∙ pair_value (v % 256) r (omega arith)) in
    omega (arith, a, b)
  where
    pair_two : (u : ℕ) (q : List ℕ) → pair_at (hex_pair u ++ q) (0 + 2) ≡ pair_at q 0
    pair_two u q = ap (λ (k : ℕ). pair_at (hex_pair u ++ q) (k + 0)) (sym (pair_length u)) ∙ pair_behind (hex_pair u) q 0

-- ---- codes read back

run_behind : (p q : List ℕ) (i c : ℕ) → run_codes (p ++ q) (length p + i) c ≡ run_codes q i c
unfolding run_codes
run_behind p q i zero = refl
run_behind p q i (suc c) = rw (add_assoc (length p) i 8, word_behind p q i, run_behind p q (i + 8) c)

-- behind a prefix of n digits
run_past : (n : ℕ) (p q : List ℕ) (i c : ℕ) → length p ≡ n → run_codes (p ++ q) (n + i) c ≡ run_codes q i c
run_past n p q i c h = ap (λ (k : ℕ). run_codes (p ++ q) (k + i) c) (sym h) ∙ run_behind p q i c

word_past : (n : ℕ) (p q : List ℕ) (i : ℕ) → length p ≡ n → word_at (p ++ q) (n + i) ≡ word_at q i
word_past n p q i h = ap (λ (k : ℕ). word_at (p ++ q) (k + i)) (sym h) ∙ word_behind p q i

module _ (t : List ℕ) where
  -- a pair in front of the others, with what follows
  shift : (v w : ℕ) (r : List ℕ) → (hex_word v ++ (hex_word w ++ r)) ++ t ≡ (hex_word v ++ hex_word w) ++ (r ++ t)
  shift v w r = simp append_assoc

  two_length : (v w : ℕ) → length (hex_word v ++ hex_word w) ≡ 8
  two_length v w = simp (length-append, word_length)

  volts_back : (vs ws : List ℤ) → length vs ≡ length ws → Codes vs → run_codes (codes_text vs ws ++ t) 0 (length vs) ≡ vs
  unfolding run_codes codes_text
  volts_back [] ws h p = refl
  volts_back (v ∷ vs) [] h p = absurd (omega arith)
  volts_back (v ∷ vs) (w ∷ ws) h p =
      let r = codes_text vs ws in
      let a : word_at ((hex_word (bits_of v) ++ (hex_word (bits_of w) ++ r)) ++ t) 0 ≡ bits_of v =
      rw append_assoc (word_value (bits_of v) ((hex_word (bits_of w) ++ r) ++ t) (bits_lt v p.0)) in
      let b : run_codes ((hex_word (bits_of v) ++ (hex_word (bits_of w) ++ r)) ++ t) (0 + 8) (length vs) ≡ vs =
      rw (shift (bits_of v) (bits_of w) r) (run_past 8 (hex_word (bits_of v) ++ hex_word (bits_of w)) (r ++ t) 0 (length vs) (two_length (bits_of v) (bits_of w)) ∙ volts_back vs ws (omega arith) p.1) in
      ap₂ (λ (x : ℕ) (xs : List ℤ). code_of x ∷ xs) a b ∙ ap (λ (z : ℤ). z ∷ vs) (bits_back v p.0)

  amps_back : (vs ws : List ℤ) → length vs ≡ length ws → Codes ws → run_codes (codes_text vs ws ++ t) 4 (length vs) ≡ ws
  unfolding run_codes codes_text
  amps_back [] [] h p = refl
  amps_back [] (w ∷ ws) h p = absurd (omega arith)
  amps_back (v ∷ vs) [] h p = absurd (omega arith)
  amps_back (v ∷ vs) (w ∷ ws) h p =
      let r = codes_text vs ws in
      let a : word_at ((hex_word (bits_of v) ++ (hex_word (bits_of w) ++ r)) ++ t) 4 ≡ bits_of w =
      rw (append_assoc (hex_word (bits_of v)) (hex_word (bits_of w) ++ r) t, append_assoc (hex_word (bits_of w)) r t)
      (word_past 4 (hex_word (bits_of v)) (hex_word (bits_of w) ++ (r ++ t)) 0 (word_length (bits_of v)) ∙ word_value (bits_of w) (r ++ t) (bits_lt w p.0)) in
      let b : run_codes ((hex_word (bits_of v) ++ (hex_word (bits_of w) ++ r)) ++ t) (4 + 8) (length vs) ≡ ws =
      rw (shift (bits_of v) (bits_of w) r) (run_past 8 (hex_word (bits_of v) ++ hex_word (bits_of w)) (r ++ t) 4 (length vs) (two_length (bits_of v) (bits_of w)) ∙ amps_back vs ws (omega arith) p.1) in
      ap₂ (λ (x : ℕ) (xs : List ℤ). code_of x ∷ xs) a b ∙ ap (λ (z : ℤ). z ∷ ws) (bits_back w p.0)

-- ---- sums

sum_append : (k : ℕ) (a b : List ℕ) → length a ≡ 2 * k → sum_of (a ++ b) ≡ sum_of a + sum_of b
unfolding sum_of
sum_append zero [] b h = omega arith
sum_append zero (x ∷ a) b h = absurd (omega arith)
sum_append (suc k) [] b h = absurd (omega arith)
sum_append (suc k) (x ∷ []) b h = absurd (omega arith)
sum_append (suc k) (x ∷ y ∷ a) b h = omega (arith, sum_append k a b (omega arith))

pair_sum : (v : ℕ) → v < 256 → sum_of (hex_pair v) ≡ v
unfolding sum_of hex_pair
pair_sum v h = omega (arith, char_value (v / 16) (omega arith), char_value (v % 16) (omega arith))

-- ---- a whole line, without its line feed

abbrev pub sealed : ℕ → List ℤ → List ℤ → List ℕ
sealed number vs ws = body_text number vs ws ++ hex_pair (closing (sum_of (body_text number vs ws)))

pub line_shape : (number : ℕ) (vs ws : List ℤ) (r : List ℕ) → line_text number vs ws ++ r ≡ sealed number vs ws ++ 10 ∷ r
unfolding line_text
line_shape number vs ws r = simp append_assoc

module _ (number : ℕ) (vs ws : List ℤ) (fits : number < 65536) (same : length vs ≡ length ws) (some : 0 < length vs) (few : length vs ≤ 16) (vc : Codes vs) (wc : Codes ws) where
  -- what closes the sum
  seal : ℕ
  seal = closing (sum_of (body_text number vs ws))

  seal_lt : seal < 256
  unfolding seal closing
  seal_lt = omega arith

  shape : sealed number vs ws ≡ hex_word number ++ (hex_pair (length vs) ++ (codes_text vs ws ++ hex_pair seal))
  unfolding seal body_text
  shape = simp append_assoc

  sealed_number : word_at (sealed number vs ws) 0 ≡ number
  sealed_number = rw shape (word_value number (hex_pair (length vs) ++ (codes_text vs ws ++ hex_pair seal)) fits)

  sealed_count : pair_at (sealed number vs ws) 4 ≡ length vs
  sealed_count =
      rw shape
      (ap (λ (k : ℕ). pair_at (hex_word number ++ (hex_pair (length vs) ++ (codes_text vs ws ++ hex_pair seal))) (k + 0)) (sym (word_length number))
      ∙ pair_behind (hex_word number) (hex_pair (length vs) ++ (codes_text vs ws ++ hex_pair seal)) 0
      ∙ pair_value (length vs) (codes_text vs ws ++ hex_pair seal) (omega arith))

  pub sealed_digits : all_digits (sealed number vs ws) ≡ true
  sealed_digits =
      rw shape
      (digits_append (hex_word number) (hex_pair (length vs) ++ (codes_text vs ws ++ hex_pair seal)) (word_digits number fits)
      (digits_append (hex_pair (length vs)) (codes_text vs ws ++ hex_pair seal) (pair_digits (length vs) (omega arith))
      (digits_append (codes_text vs ws) (hex_pair seal) (codes_digits vs ws vc wc) (pair_digits seal seal_lt))))

  sealed_length : length (sealed number vs ws) ≡ 8 + 8 * length vs
  sealed_length = simp (length-append, pair_length) (omega (arith, body_length number vs ws same))

  sealed_sum : sum_of (sealed number vs ws) % 256 ≡ 0
  unfolding seal closing
  sealed_sum =
      let k = sum_append (3 + 4 * length vs) (body_text number vs ws) (hex_pair seal) (omega (arith, body_length number vs ws same)) in
      omega (arith, k, pair_sum seal seal_lt)

  sealed_form : Formed (sealed number vs ws)
  unfolding count_of
  sealed_form = record { digits = sealed_digits; least = omega (arith, sealed_count); most = omega (arith, sealed_count); long = omega (arith, sealed_count, sealed_length) }

  pub sealed_frame : line_of (sealed number vs ws) ≡ a_frame number (length vs)
  unfolding sequence_of count_of
  sealed_frame = frame (sealed number vs ws) sealed_form sealed_sum ∙ ap₂ a_frame sealed_number sealed_count

  head : List ℕ
  head = hex_word number ++ hex_pair (length vs)

  head_length : length head ≡ 6
  unfolding head
  head_length = simp (length-append, word_length, pair_length)

  cut_head : sealed number vs ws ≡ head ++ (codes_text vs ws ++ hex_pair seal)
  unfolding head
  cut_head = shape ∙ simp append_assoc

  pub sealed_volts : line_codes 6 (sealed number vs ws) ≡ vs
  unfolding line_codes codes_by
  sealed_volts =
      rw sealed_frame
      (ap (λ (l : List ℕ). run_codes l 6 (length vs)) cut_head ∙ run_past 6 head (codes_text vs ws ++ hex_pair seal) 0 (length vs) head_length
      ∙ volts_back (hex_pair seal) vs ws same vc)

  pub sealed_amps : line_codes 10 (sealed number vs ws) ≡ ws
  unfolding line_codes codes_by
  sealed_amps =
      rw sealed_frame
      (ap (λ (l : List ℕ). run_codes l 10 (length vs)) cut_head ∙ run_past 6 head (codes_text vs ws ++ hex_pair seal) 4 (length vs) head_length
      ∙ amps_back (hex_pair seal) vs ws same wc)

-- Reading what was written gives the same codes. Assumes nothing.
use mathlib.Core.Path.{◌≡◌, refl, sym, ap, ap₂, ◌∙◌, subst}
use mathlib.Core.List.{List, [], ◌∷◌, ◌++◌}
use Rattle.std.specs.Prelude.{Ok}
use mathlib.Core.Bool.{Bool, true, false, ◌&&◌}
use Prim.Native.Nat.{ℕ, zero, suc, ◌+◌, ◌-◌, ◌/◌, ◌<◌, ◌≤◌, min}
use native.Mathlib.Omega.{arith}
use borrow.Author.Tests.{eq-eqb, ne_eqb}
use lib.ListN.{length, take, drop, length-take, length-drop, take-append-drop}
use lib.IntN.{ℤ}
use lib.Dec.{T, eqb}
use Rattle.answers.specs.Numbers.{longest}
use Rattle.answers.specs.Left.{left}
use Rattle.laws.specs.Front.{onto}
use Rattle.hexadecimal.specs.Digit.{is_digit}
use Rattle.frame.specs.Line.{at_volts, at_amps, after, all_digits, a_frame, line_of, line_codes}
use Rattle.capture.specs.Lines.{Lines, line, add, cut, codes_of}
use Rattle.capture.specs.Reading.{Verdict, follows, weigh, judge, verdict_of, read_capture}
use Rattle.capture.proofs.Cut.{feed_no_digit}
use Rattle.capture.proofs.Answer.{read_done}
use Rattle.writing.specs.Text.{line_text, lines_text, capture_text}
use Rattle.trip.specs.Codes.{Codes}
use Rattle.trip.proofs.Line.{sealed, line_shape, sealed_digits, sealed_frame, sealed_volts, sealed_amps}

-- digits, then a line feed, are a line
cut_digits : (l r : List ℕ) → all_digits l ≡ true → cut (l ++ 10 ∷ r) ≡ line l (cut r)
unfolding cut add all_digits
cut_digits [] r d = refl
cut_digits (b ∷ l) r d = by (is_digit b) refl d (cut_digits l r)
  where
    by : (t : Bool) → is_digit b ≡ t → t && all_digits l ≡ true → (all_digits l ≡ true → cut (l ++ 10 ∷ r) ≡ line l (cut r))
        → add (eqb b 10) b (cut (l ++ 10 ∷ r)) ≡ line (b ∷ l) (cut r)
    by true f e ih = rw (ne_eqb b 10 (λ q. feed_no_digit b q f), ih e)
    by false f e ih = absurd (subst T (sym e) tt)

-- a frame on top of other lines
judge_on : (any : Bool) (next n total : ℕ) (ls : Lines) (l : List ℕ) (below : Lines) → ls ≡ line l below → (number c : ℕ) → line_of l ≡ a_frame number c → follows any next number ≡ true
    → judge any next n total ls ≡ judge false (after number) (n + 1) (total + c) below
unfolding judge weigh
judge_on any next n total ls l below e number c f g = rw (e, f, g)

line_codes_lem : (i : ℕ) (ls : Lines) (l : List ℕ) (below : Lines) → ls ≡ line l below → codes_of i ls ≡ line_codes i l ++ codes_of i below
unfolding codes_of
line_codes_lem i ls l below e = rw e

-- some codes, and the others
codes_take : (n : ℕ) (zs : List ℤ) → Codes zs → Codes (take n zs)
codes_take zero zs c = tt
codes_take (suc n) [] c = tt
codes_take (suc n) (z ∷ zs) c = (c.0, codes_take n zs c.1)

codes_drop : (n : ℕ) (zs : List ℤ) → Codes zs → Codes (drop n zs)
codes_drop zero zs c = c
codes_drop (suc n) [] c = tt
codes_drop (suc n) (z ∷ zs) c = codes_drop n zs c.1

-- what was written is judged good, with as many pairs, and gives the codes
abbrev Back : Lines → ℕ → List ℤ → List ℤ → Type 0
Back ls number vs ws =
    ((any : Bool) (next n total : ℕ) → follows any next number ≡ true → judge any next n total ls ≡ Ok (total + length vs))
    × (codes_of at_volts ls ≡ vs) × (codes_of at_amps ls ≡ ws)

no_codes : (zs : List ℤ) → length zs ≡ 0 → [] ≡ zs
no_codes [] h = refl
no_codes (z ∷ zs) h = absurd (omega arith)

none_back : (number : ℕ) (vs ws : List ℤ) → length vs ≡ 0 → length ws ≡ 0 → Back (cut []) number vs ws
unfolding cut judge codes_of
none_back number vs ws h k = (λ any next n total f. ap Ok (omega arith), no_codes vs h, no_codes ws k)

module _ (number : ℕ) (vs ws : List ℤ) (r : List ℕ) (fits : number < 65536) (same : length vs ≡ length ws) (some : 0 < length vs) (vc : Codes vs) (wc : Codes ws)
    (below : Back (cut r) (after number) (drop 16 vs) (drop 16 ws)) where
  tsame : length (take 16 vs) ≡ length (take 16 ws)
  tsame = simp length-take (ap (λ (n : ℕ). min 16 n) same)

  tsome : 0 < length (take 16 vs)
  tsome = simp length-take (omega arith)

  tfew : length (take 16 vs) ≤ 16
  tfew = simp length-take (omega arith)

  is : cut (line_text number (take 16 vs) (take 16 ws) ++ r) ≡ line (sealed number (take 16 vs) (take 16 ws)) (cut r)
  is =
      ap cut (line_shape number (take 16 vs) (take 16 ws) r)
      ∙ cut_digits (sealed number (take 16 vs) (take 16 ws)) r (sealed_digits number (take 16 vs) (take 16 ws) fits tsame tsome tfew (codes_take 16 vs vc) (codes_take 16 ws wc))

  same_next : (k : ℕ) → follows false k k ≡ true
  unfolding follows
  same_next k = eq-eqb k k refl

  line_back : Back (cut (line_text number (take 16 vs) (take 16 ws) ++ r)) number vs ws
  line_back = (
    λ any next n total f.
        judge_on any next n total (cut (line_text number (take 16 vs) (take 16 ws) ++ r)) (sealed number (take 16 vs) (take 16 ws)) (cut r) is number (length (take 16 vs))
        (sealed_frame number (take 16 vs) (take 16 ws) fits tsame tsome tfew (codes_take 16 vs vc) (codes_take 16 ws wc)) f
        ∙ below.0 false (after number) (n + 1) (total + length (take 16 vs)) (same_next (after number))
        ∙ ap Ok (omega (arith, length-take 16 vs, length-drop 16 vs)),
    line_codes_lem at_volts (cut (line_text number (take 16 vs) (take 16 ws) ++ r)) (sealed number (take 16 vs) (take 16 ws)) (cut r) is
        ∙ ap₂ ◌++◌ (sealed_volts number (take 16 vs) (take 16 ws) fits tsame tsome tfew (codes_take 16 vs vc) (codes_take 16 ws wc)) below.1
        ∙ take-append-drop 16 vs,
    line_codes_lem at_amps (cut (line_text number (take 16 vs) (take 16 ws) ++ r)) (sealed number (take 16 vs) (take 16 ws)) (cut r) is
        ∙ ap₂ ◌++◌ (sealed_amps number (take 16 vs) (take 16 ws) fits tsame tsome tfew (codes_take 16 vs vc) (codes_take 16 ws wc)) below.2
        ∙ take-append-drop 16 ws,
  )

after_lt : (number : ℕ) → after number < 65536
unfolding after
after_lt number = omega arith

back : (f number : ℕ) (vs ws : List ℤ) → number < 65536 → length vs ≡ length ws → f ≡ (length vs + 15) / 16 → Codes vs → Codes ws
    → Back (cut (lines_text f number vs ws)) number vs ws
unfolding lines_text
back zero number vs ws k h e vc wc = none_back number vs ws (omega arith) (omega arith)
back (suc f) number vs ws k h e vc wc =
    line_back number vs ws (lines_text f (after number) (drop 16 vs) (drop 16 ws)) k h (omega arith) vc wc
    (back f (after number) (drop 16 vs) (drop 16 ws) (after_lt number) (simp length-drop (ap (λ (n : ℕ). n - 16) h)) (simp length-drop (omega arith))
    (codes_drop 16 vs vc) (codes_drop 16 ws wc))

-- what was written is good, with as many pairs, and holds the codes
pub written_good : (first : ℕ) (vs ws : List ℤ) → first < 65536 → Codes vs → Codes ws → length vs ≡ length ws
    → (verdict_of (cut (capture_text first vs ws)) ≡ Ok (length vs)) × (codes_of at_volts (cut (capture_text first vs ws)) ≡ vs) × (codes_of at_amps (cut (capture_text first vs ws)) ≡ ws)
unfolding capture_text verdict_of follows
written_good first vs ws k vc wc h =
    let b = back ((length vs + 15) / 16) first vs ws k h refl vc wc in
    (b.0 true 0 1 0 refl ∙ ap Ok (omega arith), b.1, b.2)

-- THE LAW (01, "Reading its output gives the same codes"): what the writer makes of two slices of codes, the reader takes into any two slices with room,
-- and puts the same codes there; places past them stay
pub round_trip : (first : ℕ) (vs ws volts amps : List ℤ) → first < 65536 → Codes vs → Codes ws
    → length vs ≡ length ws → length vs ≤ longest → length vs ≤ length volts → length vs ≤ length amps
    → read_capture (capture_text first vs ws) volts amps ≡ left (Ok (length vs)) (onto vs volts, onto ws amps)
round_trip first vs ws volts amps k vc wc h m rv ra =
    let g = written_good first vs ws k vc wc h in
    sym (read_done (capture_text first vs ws) volts amps (length vs) g.0 m rv ra)
    ∙ ap₂ (λ (x y : List ℤ). left {A = Verdict} {B = List ℤ × List ℤ} (Ok (length vs)) (onto x volts, onto y amps)) g.1 g.2

-- Where no refusal holds the length is on the grid and there is room. Assumes nothing.
use Rattle.std.proofs.Common.{◌≡◌, ℕ, ◌/◌, ◌≤◌, Bool, true, false, not, ◌||◌, ltb, List, length, sym, refl, ap, arith, ltb-false, Ok}
use mathlib.Core.Bool.{false≢true}
use lib.Ieee.{Float}
use Rattle.answers.specs.Numbers.{done, number_of, too_long, refuse}
use Rattle.answers.specs.declared.Refusal.TheVariants.{OutputShort, TooLong, OffGrid}
use Rattle.spectrum.specs.Grid.{on_grid}
use Rattle.spectrum.specs.Spectrum.{outcome_of, output_short}

all_clear : (long grid short : Bool) (u : Unit {0}) → refuse long TooLong (refuse (not grid) OffGrid (refuse short OutputShort done)) ≡ Ok u
    → (grid ≡ true) × (short ≡ false)
all_clear true grid short u e = absurd (let z = ap number_of e in omega arith)
all_clear false false short u e = absurd (let z = ap number_of e in omega arith)
all_clear false true true u e = absurd (let z = ap number_of e in omega arith)
all_clear false true false u e = (refl, refl)

pub none_holds : (n : ℕ) (short : Bool) (u : Unit {0}) → Ok u ≡ outcome_of n short → (on_grid n ≡ true) × (short ≡ false)
unfolding outcome_of
none_holds n short u e = all_clear (too_long n) (on_grid n) short u (sym e)

-- of output and scratch together
neither : (a b : Bool) → (a || b) ≡ false → (a ≡ false) × (b ≡ false)
neither false b e = (refl, e)
neither true b e = absurd (false≢true (sym e))

pub room_for_both : (xs w out : List Float) → (output_short xs out || ltb (length w) (length xs)) ≡ false
    → (length xs ≤ length w) × (length xs / 2 ≤ length out)
room_for_both xs w out e =
    let n = neither (output_short xs out) (ltb (length w) (length xs)) e in
    (ltb-false (length w) (length xs) n.1, ltb-false (length out) (length xs / 2) n.0)

-- That a port is the list of its fields: nothing is lost on the way there and back, `put` sets one field and leaves the other 25, and `puts` sets the
-- fields that its rows name and leaves all others. Assumes nothing.
use mathlib.Core.Path.{◌≡◌, refl, sym, ap, ◌∙◌}
use mathlib.Core.Bool.{Bool, true, false, cond}
use mathlib.Core.List.{List, [], ◌∷◌, map}
use Prim.Native.Nat.{ℕ, zero, suc, ◌<◌}
use native.Mathlib.Omega.{arith}
use borrow.Author.Count.{below_none, below_more}
use borrow.Author.Tests.{eqb-true, eqb-false}
use lib.Dec.{eqb}
use lib.ListN.{length, set, get_or}
use lib.Seq.{get_or-set_same, get_or-set_other}
use Rattle.port.specs.declared.Port.{Port}
use Rattle.port.specs.Fields.{Cell, number, reading, places, flag, cells, cell_at, number_in, optional_in, places_in, flag_in, port_with, put, SetTo, set_to, puts}

-- so `cells` tells any two ports apart
pub whole : (p : Port) → port_with (cells p) ≡ p
whole p = refl

-- the kind of what a cell holds
abbrev pub kind : Cell → ℕ
kind (number x) = 0
kind (reading x) = 1
kind (places x) = 2
kind (flag x) = 3

is_number : (x : Cell) → kind x ≡ 0 → number (number_in x) ≡ x
is_number (number x) e = refl
is_number (reading x) e = absurd (omega arith)
is_number (places x) e = absurd (omega arith)
is_number (flag x) e = absurd (omega arith)

is_reading : (x : Cell) → kind x ≡ 1 → reading (optional_in x) ≡ x
is_reading (number x) e = absurd (omega arith)
is_reading (reading x) e = refl
is_reading (places x) e = absurd (omega arith)
is_reading (flag x) e = absurd (omega arith)

is_places : (x : Cell) → kind x ≡ 2 → places (places_in x) ≡ x
is_places (number x) e = absurd (omega arith)
is_places (reading x) e = absurd (omega arith)
is_places (places x) e = refl
is_places (flag x) e = absurd (omega arith)

is_flag : (x : Cell) → kind x ≡ 3 → flag (flag_in x) ≡ x
is_flag (number x) e = absurd (omega arith)
is_flag (reading x) e = absurd (omega arith)
is_flag (places x) e = absurd (omega arith)
is_flag (flag x) e = refl

-- the list after `put` is the list before it, with x at i
abbrev SetAt : Port → ℕ → Type 0
SetAt p i = (x : Cell) → kind x ≡ kind (cell_at (cells p) i) → cells (put p i x) ≡ set (cells p) i x

pub put_is_set : (p : Port) (i : ℕ) → i < 26 → SetAt p i
put_is_set p =
    let b0 = below_none (SetAt p) in
    let b1 = below_more (SetAt p) 0 b0 (λ x e. rw (is_number x e)) in
    let b2 = below_more (SetAt p) 1 b1 (λ x e. rw (is_number x e)) in
    let b3 = below_more (SetAt p) 2 b2 (λ x e. rw (is_reading x e)) in
    let b4 = below_more (SetAt p) 3 b3 (λ x e. rw (is_reading x e)) in
    let b5 = below_more (SetAt p) 4 b4 (λ x e. rw (is_number x e)) in
    let b6 = below_more (SetAt p) 5 b5 (λ x e. rw (is_reading x e)) in
    let b7 = below_more (SetAt p) 6 b6 (λ x e. rw (is_reading x e)) in
    let b8 = below_more (SetAt p) 7 b7 (λ x e. rw (is_reading x e)) in
    let b9 = below_more (SetAt p) 8 b8 (λ x e. rw (is_reading x e)) in
    let b10 = below_more (SetAt p) 9 b9 (λ x e. rw (is_number x e)) in
    let b11 = below_more (SetAt p) 10 b10 (λ x e. rw (is_number x e)) in
    let b12 = below_more (SetAt p) 11 b11 (λ x e. rw (is_reading x e)) in
    let b13 = below_more (SetAt p) 12 b12 (λ x e. rw (is_reading x e)) in
    let b14 = below_more (SetAt p) 13 b13 (λ x e. rw (is_reading x e)) in
    let b15 = below_more (SetAt p) 14 b14 (λ x e. rw (is_reading x e)) in
    let b16 = below_more (SetAt p) 15 b15 (λ x e. rw (is_places x e)) in
    let b17 = below_more (SetAt p) 16 b16 (λ x e. rw (is_places x e)) in
    let b18 = below_more (SetAt p) 17 b17 (λ x e. rw (is_reading x e)) in
    let b19 = below_more (SetAt p) 18 b18 (λ x e. rw (is_reading x e)) in
    let b20 = below_more (SetAt p) 19 b19 (λ x e. rw (is_number x e)) in
    let b21 = below_more (SetAt p) 20 b20 (λ x e. rw (is_number x e)) in
    let b22 = below_more (SetAt p) 21 b21 (λ x e. rw (is_number x e)) in
    let b23 = below_more (SetAt p) 22 b22 (λ x e. rw (is_number x e)) in
    let b24 = below_more (SetAt p) 23 b23 (λ x e. rw (is_flag x e)) in
    let b25 = below_more (SetAt p) 24 b24 (λ x e. rw (is_flag x e)) in
    let b26 = below_more (SetAt p) 25 b25 (λ x e. rw (is_reading x e)) in
    b26

-- ---- rows

-- the kind of a field's cell is the same in every port
kind_in : (l : List Cell) (i : ℕ) → kind (cell_at l i) ≡ get_or (map kind l) i 3
kind_in [] i = refl
kind_in (x ∷ l) zero = refl
kind_in (x ∷ l) (suc i) = kind_in l i

pub same_kind : (p q : Port) (i : ℕ) → kind (cell_at (cells p) i) ≡ kind (cell_at (cells q) i)
same_kind p q i = kind_in (cells p) i ∙ sym (kind_in (cells q) i)

-- each row names a field and holds what that field holds
abbrev pub Fits : Port → List SetTo → Type 0
Fits p [] = Unit
Fits p (set_to i x ∷ rows) = (i < 26) × ((kind x ≡ kind (cell_at (cells p) i)) × Fits p rows)

-- what stands at i after the rows: what the last row that names i holds, and x where none does
abbrev pub laid : List SetTo → ℕ → Cell → Cell
laid [] i x = x
laid (set_to j y ∷ rows) i x = laid rows i (cond (eqb j i) y x)

set_at : (l : List Cell) (j i : ℕ) (y : Cell) → j < length l → cell_at (set l j y) i ≡ cond (eqb j i) y (cell_at l i)
set_at l j i y h = go (eqb j i) refl
  where
    go : (b : Bool) → eqb j i ≡ b → cell_at (set l j y) i ≡ cond b y (cell_at l i)
    go true e = let same : j ≡ i = eqb-true j i e in rw (← same) (get_or-set_same l j y (flag false) h)
    go false e = get_or-set_other l j i y (flag false) (λ q. eqb-false j i e (sym q))

pub put_at : (p : Port) (j : ℕ) (y : Cell) → j < 26 → kind y ≡ kind (cell_at (cells p) j) → (i : ℕ) → cell_at (cells (put p j y)) i ≡ cond (eqb j i) y (cell_at (cells p) i)
put_at p j y h k i = ap (λ (l : List Cell). cell_at l i) (put_is_set p j h y k) ∙ set_at (cells p) j i y h

fits_in : (p q : Port) (rows : List SetTo) → Fits p rows → Fits q rows
fits_in p q [] f = tt
fits_in p q (set_to i x ∷ rows) f = (f.0, (f.1.0 ∙ same_kind p q i, fits_in p q rows f.1.1))

-- so the fields that the rows name are theirs, and all others stay
pub puts_at : (p : Port) (rows : List SetTo) → Fits p rows → (i : ℕ) → cell_at (cells (puts p rows)) i ≡ laid rows i (cell_at (cells p) i)
puts_at p [] f i = refl
puts_at p (set_to j y ∷ rows) f i =
    puts_at (put p j y) rows (fits_in p (put p j y) rows f.1.1) i ∙ ap (laid rows i) (put_at p j y f.0 f.1.0 i)

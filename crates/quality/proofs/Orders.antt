-- The loop over the orders of a bin: it starts at an order whose predecessor is inside, takes one order a turn, and ends behind the last order whose multiple is inside. Assumes nothing.
use Rattle.std.proofs.Common.{◌≡◌, ℕ, zero, suc, ◌+◌, ◌-◌, ◌*◌, ◌<◌, ◌≤◌, List, length, sym, refl, ap, ◌∙◌, subst, le_trans, le_of_eq, lt_of_le_of_lt, add-zero, mul-le-mul_right, mul-le-mul_left, one-mul, arith}
use lib.Ieee.{Float, binary64, add}
use Rattle.laws.specs.Harmonics.{last_order}
use Rattle.laws.specs.Literals.{zero64}
use Rattle.laws.specs.Samples.{square_of}
use Rattle.laws.specs.Walks.{over}
use Rattle.laws.proofs.Turn.{over_from}
use Rattle.laws.proofs.Harmonics.{none_yet, one_more_lem, all_orders, within}
use Rattle.quality.specs.Powers.{magnitude_in, power_in, Inside, Summed, with_squares}

-- ---- the places that a bin below n reaches

pub order_le : (b h : ℕ) → 0 < b → h ≤ b * h
order_le b h B = le_trans (le_of_eq (sym (one-mul h))) (mul-le-mul_right h B)

-- the four multiples from the order h on lie inside where the last of them does
pub up_to_fourth : (n b h o : ℕ) → b * (h + 3) < n → o ≤ h + 3 → b * o < n
up_to_fourth n b h o p l = lt_of_le_of_lt (mul-le-mul_left b l) p

-- four orders on, where the last of them is inside
pub inside_four : (n b h : ℕ) → Inside n b h → b * (h + 3) < n → Inside n b (h + 4)
inside_four n b h i l = record { places = i.places; bin = i.bin; end = i.end; order = omega arith; before = subst (λ (x : ℕ). b * x < n) (go h) l }
  where
    go : (x : ℕ) → x + 3 ≡ x + 4 - 1
    go x = omega arith

-- ---- the sum

-- the square of one place more
pub squares_next : (s : List Float) (from : ℕ) (t : Float) (k : ℕ) → with_squares s from t (suc k) ≡ add binary64 (with_squares s from t k) (square_of (magnitude_in s (from + k)))
unfolding with_squares
squares_next s from t k = over_from _ t s from k

module _ (s : List Float) (b first : ℕ) where
  pub summed_none : Inside (length s) b first → Summed s b first zero64 first
  summed_none i = record { inside = i; reached = omega arith; sum = none_yet (magnitude_in s) b first }

  -- one order more
  pub summed_next : (h : ℕ) {t u x : Float} → Summed s b first t h → b * h < length s → x ≡ magnitude_in s (b * h) → u ≡ square_of x → Summed s b first (add binary64 t u) (h + 1)
  summed_next h {t} m l p q =
      record {
        inside =
            record {
              places = m.inside.places;
              bin = m.inside.bin;
              end = m.inside.end;
              order = omega arith;
              before = subst (λ (x : ℕ). b * x < length s) (go h) l;
            };
        reached = omega (arith, m.reached);
        sum = ap (add binary64 t) q ∙ one_more_lem (magnitude_in s) b first h m.reached m.sum p;
      }
    where
      go : (x : ℕ) → x ≡ x + 1 - 1
      go x = omega arith

  -- four orders more
  pub summed_four : (h : ℕ) {t u v w z : Float} → Summed s b first t h → b * (h + 3) < length s → u ≡ square_of (magnitude_in s (b * h))
      → v ≡ square_of (magnitude_in s (b * (h + 1))) → w ≡ square_of (magnitude_in s (b * (h + 2))) → z ≡ square_of (magnitude_in s (b * (h + 3)))
      → Summed s b first (add binary64 (add binary64 (add binary64 (add binary64 t u) v) w) z) (h + 4)
  summed_four h m l p q r e =
      let at = up_to_fourth (length s) b h in
      let two = summed_next (h + 1) (summed_next h m (at h l (omega arith)) refl p) (at (h + 1) l (omega arith)) refl q in
      let three = summed_next (h + 2) (same (h + 1 + 1) (h + 2) (omega arith) two) (at (h + 2) l (omega arith)) refl r in
      same (h + 3 + 1) (h + 4) (omega arith) (summed_next (h + 3) (same (h + 2 + 1) (h + 3) (omega arith) three) l refl e)
    where
      same : (i j : ℕ) {x : Float} → i ≡ j → Summed s b first x i → Summed s b first x j
      same i j {x} e = subst (λ (o : ℕ). Summed s b first x o) e

  -- where the bin is 1, the places that follow
  pub summed_places : (h k : ℕ) {t : Float} → b ≡ 1 → Summed s b first t h → h + k ≤ length s → Summed s b first (with_squares s h t k) (h + k)
  unfolding with_squares over
  summed_places h zero {t} e m l = subst (λ (o : ℕ). Summed s b first t o) (sym (add-zero h)) m
  summed_places h (suc k) {t} e m l =
      subst (Summed s b first (with_squares s h t (suc k))) (go h k)
      (subst (λ (u : Float). Summed s b first u (h + k + 1)) (sym (squares_next s h t k))
      (summed_next (h + k) (summed_places h k e m (omega arith)) (at (omega arith)) (ap (magnitude_in s) (sym (own (h + k)))) refl))
    where
      go : (h k : ℕ) → h + k + 1 ≡ h + suc k
      go h k = omega arith

      own : (i : ℕ) → b * i ≡ i
      own i = ap (λ (x : ℕ). x * i) e ∙ one-mul i

      at : h + k < length s → b * (h + k) < length s
      at g = subst (λ (x : ℕ). x < length s) (sym (own (h + k))) g

  -- past the last order whose multiple is inside
  pub summed_all : (h : ℕ) {t : Float} → Summed s b first t h → last_order (length s) b < h → t ≡ power_in s b first
  unfolding power_in
  summed_all h m l =
      let i = m.inside in
      let w = within (length s) b (h - 1) i.bin (omega (arith, i.end)) in
      all_orders (magnitude_in s) b first h (last_order (length s) b) (go h _ i.order (w.all i.before) l) m.sum
    where
      go : (h last : ℕ) → 1 ≤ h → h - 1 ≤ last → last < h → h ≡ last + 1
      go h last o k l = omega arith

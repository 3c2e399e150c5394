-- A run of stores, `sets` of `lib.Seq`: in two parts, read back, and from the first place on. Assumes nothing.
use mathlib.Core.Path.{◌≡◌, ap, ◌∙◌}
use mathlib.Core.List.{List, [], ◌∷◌, ◌++◌, append_assoc}
use Prim.Native.Nat.{ℕ, suc, ◌+◌, ◌≤◌}
use native.Mathlib.Omega.{arith}
use native.Mathlib.Nat.{add-zero, zero-add}
use lib.ListN.{length, take, drop, set}
use lib.Seq.{sets, sets-eq, drop_at, take-append_seam, length-take-le}
use Rattle.laws.specs.Front.{onto}

module _ {A : Type 0} where
  pub sets_append : (l : List A) (i : ℕ) (vs ws : List A) → sets l i (vs ++ ws) ≡ sets (sets l i vs) (i + length vs) ws
  sets_append l i [] ws = rw add-zero
  sets_append l i (v ∷ vs) ws =
      let e : i + suc (length vs) ≡ suc i + length vs = omega arith in
      sets_append (set l i v) (suc i) vs ws ∙ rw e

  -- where the first part is n long
  pub sets_then : (l : List A) (i n : ℕ) (vs ws : List A) → length vs ≡ n → sets (sets l i vs) (i + n) ws ≡ sets l i (vs ++ ws)
  sets_then l i n vs ws h = rw (sets_append l i vs ws, h)

  pub sets_part : (l : List A) (i : ℕ) (vs : List A) → i + length vs ≤ length l → take (length vs) (drop i (sets l i vs)) ≡ vs
  sets_part l i vs h =
      ap (λ (r : List A). take (length vs) (drop i r)) (sets-eq vs l i h ∙ append_assoc (take i l) vs (drop (i + length vs) l))
      ∙ ap (take (length vs)) (drop_at (take i l) (vs ++ drop (i + length vs) l) i (length-take-le i l (omega arith)))
      ∙ take-append_seam vs (drop (i + length vs) l)

  -- from the first place on, the stores stand in front of what was there
  pub sets_front : (new old : List A) → length new ≤ length old → sets old 0 new ≡ onto new old
  unfolding onto
  sets_front new old h = sets-eq new old 0 (omega arith) ∙ rw zero-add

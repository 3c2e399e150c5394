-- The power of a bin's harmonics, order by order, and which orders are taken in. Assumes nothing.
use mathlib.Core.Path.{◌≡◌, ap, ◌∙◌, subst}
use Prim.Native.Nat.{ℕ, suc, ◌+◌, ◌-◌, ◌*◌, ◌≤◌, ◌<◌, min}
use native.Mathlib.Nat.{le-div_iff_mul-le, mul_comm, div-eq_of_lt-le}
use native.Mathlib.Omega.{arith}
use lib.Ieee.{Float, binary64, add}
use Rattle.laws.specs.Literals.{zero64}
use Rattle.laws.specs.Samples.{square_of}
use Rattle.laws.specs.Harmonics.{harmonics_of, harmonic_power, last_order, last_up_to}

-- ---- the sum
module _ (magnitude : ℕ → Float) (b first : ℕ) where
  -- before the first order
  pub none_yet : zero64 ≡ harmonics_of magnitude b first (first - first)
  unfolding harmonics_of
  none_yet = ap (harmonics_of magnitude b first) (go first)
    where
      go : (x : ℕ) → 0 ≡ x - x
      go x = omega arith

  at_order : (k h : ℕ) → k ≡ suc (h - first) → first ≤ h
      → harmonics_of magnitude b first k ≡ add binary64 (harmonics_of magnitude b first (h - first)) (square_of (magnitude (b * h)))
  unfolding harmonics_of
  at_order k h e l =
      ap (harmonics_of magnitude b first) e
      ∙ ap (λ (x : ℕ). add binary64 (harmonics_of magnitude b first (h - first)) (square_of (magnitude (b * x)))) (go first h l)
    where
      go : (f h : ℕ) → f ≤ h → f + (h - f) ≡ h
      go f h l = omega arith

  -- with the order h
  pub one_more_lem : (h : ℕ) {t x : Float} → first ≤ h → t ≡ harmonics_of magnitude b first (h - first) → x ≡ magnitude (b * h)
      → add binary64 t (square_of x) ≡ harmonics_of magnitude b first (h + 1 - first)
  one_more_lem h l p q = cc (at_order (h + 1 - first) h (up first h l) l)
    where
      up : (f h : ℕ) → f ≤ h → h + 1 - f ≡ suc (h - f)
      up f h l = omega arith

  -- up to the last order
  pub all_orders : (h last : ℕ) {t : Float} → h ≡ last + 1 → t ≡ harmonics_of magnitude b first (h - first) → t ≡ harmonic_power magnitude b first last
  unfolding harmonic_power
  all_orders h last e p = p ∙ ap (λ (x : ℕ). harmonics_of magnitude b first (x - first)) e

-- ---- the orders

-- the order before the first multiple at or past the end is the last
pub last_inside : (end b h : ℕ) → 1 ≤ h → b * (h - 1) < end → end ≤ b * h → last_order end b ≡ h - 1
last_inside end b h p l g =
    let low : (h - 1) * b ≤ end - 1 = omega (arith, mul_comm (h - 1) b) in
    let e : (h - 1 + 1) * b ≡ b * h = ap (λ (x : ℕ). x * b) (go h p) ∙ mul_comm h b in
    let high : end - 1 < (h - 1 + 1) * b = omega arith in
    div-eq_of_lt-le b low high
  where
    go : (x : ℕ) → 1 ≤ x → x - 1 + 1 ≡ x
    go x l = omega arith

-- an order h is among those up to the last exactly when its multiple is below the end
pub record Within (end b h : ℕ) : Type 0 where
  pub all : b * h < end → h ≤ last_order end b
  pub only : h ≤ last_order end b → b * h < end

pub within : (end b h : ℕ) → 0 < b → 0 < end → Within end b h
within end b h B H =
    record {
      all = λ l. (le-div_iff_mul-le B).1 (before (h * b) end (subst (λ (x : ℕ). x < end) (mul_comm b h) l));
      only = λ l. subst (λ (x : ℕ). x < end) (mul_comm h b) (after (h * b) end H ((le-div_iff_mul-le B).0 l));
    }
  where
    before : (x n : ℕ) → x < n → x ≤ n - 1
    before x n l = omega arith

    after : (x n : ℕ) → 0 < n → x ≤ n - 1 → x < n
    after x n p l = omega arith

-- and, with a highest order, at most that
pub record Taken (top end b h : ℕ) : Type 0 where
  pub all : h ≤ top → b * h < end → h ≤ last_up_to top end b
  pub only : h ≤ last_up_to top end b → (h ≤ top) × (b * h < end)

pub taken : (top end b h : ℕ) → 0 < b → 0 < end → Taken top end b h
unfolding last_up_to
taken top end b h B H =
    let w = within end b h B H in
    record {
      all = λ t l. both h top (last_order end b) t (w.all l);
      only = λ l. (first h top (last_order end b) l, w.only (second h top (last_order end b) l));
    }
  where
    both : (h a b : ℕ) → h ≤ a → h ≤ b → h ≤ min a b
    both h a b p q = omega arith

    first : (h a b : ℕ) → h ≤ min a b → h ≤ a
    first h a b p = omega arith

    second : (h a b : ℕ) → h ≤ min a b → h ≤ b
    second h a b p = omega arith

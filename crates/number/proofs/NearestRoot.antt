-- `root` is correctly rounded: at every value of the format above zero it is the value nearest to the exact root (`root-nearest`). Assumes nothing.
use mathlib.Core.Path.{◌≡◌, sym, ap, ap₂, ◌∙◌, subst}
use mathlib.Core.Bool.{Bool, true, false, cond}
use Prim.Native.Nat.{ℕ, suc, ◌+◌, ◌-◌, ◌*◌, ◌/◌, ◌%◌, ◌^◌, ◌≤◌, ◌<◌, compare}
use native.Mathlib.Nat.{le_trans, le_of_eq, le_of_lt, lt_of_not-le, mul_comm, mul_assoc, mul_left_comm, mul-mul-mul_comm, mul-le-mul, mul-le-mul_right, mul-lt-mul_of_pos_right, le_of_mul-le-mul_right}
use native.Mathlib.Nat.{mul-pos, add-mul, le-div_iff_mul-le}
use native.Mathlib.Decide.{dec_le}
use native.Mathlib.Omega.{arith}
use lib.Dec.{eqb, lit≤}
use lib.Pow.{pow_pos}
use lib.Ieee.{Format, prec, low}
use lib.Ieee.Fits.{two, two-le_pos}
use lib.Ieee.Nearest.{nearest-ge}
use lib.Ieee.Order.{drop, kept}
use lib.Ieee.Positive.{num, den, first_pos}
use Rattle.laws.proofs.Near.{unit_le}
use Rattle.laws.proofs.Close.{own, cross}
use Rattle.number.specs.Number.{root}
use Rattle.number.specs.Nearest.{squared, RootIsNearest}
use Rattle.number.proofs.Spaced.{spaced, multiple, step_up, digits_of_lem, first_in_units, second_in_units, in_order, reversed}
use Rattle.number.proofs.WholeRoot.{whole_root_is}
use Rattle.number.proofs.RootBits.{sticky, Num}
use Rattle.number.proofs.RootCases.{root_fits}
use Rattle.number.proofs.Rooting.{n, r, g, h, P, four, normal, near, fine, from_above, covered, root_units, units_of}

squares_le : {a b : ℕ} → a ≤ b → a * a ≤ b * b
squares_le l = mul-le-mul l l

-- ---- In units of the smallest value: x is a of them, its root g, and v is m * 2 ^ j of them
module _ (f : Format) (a : ℕ) (A : 0 < a) (m j : ℕ) (small : m < 2 ^ prec f) where
  abbrev b : ℕ
  b = m * 2 ^ j

  abbrev k : ℕ
  k = drop (prec f) (Num (n f a A) * 2 ^ low f) (2 ^ suc (suc (low f)))

  abbrev q : ℕ
  q = kept (prec f) (Num (n f a A) * 2 ^ low f) (2 ^ suc (suc (low f)))

  one : 1 ≤ prec f
  one = two-le_pos (prec f) (two f)

  -- the digits before rounding: p of them and k that are dropped
  reached : 2 ^ suc (suc (low f)) * 2 ^ k * 2 ^ (prec f - 1) ≤ Num (n f a A) * 2 ^ low f
  reached = unit_le (prec f) (Num (n f a A) * 2 ^ low f) (2 ^ suc (suc (low f))) one (pow_pos (suc (suc (low f)))) (normal f a A)

  lead : 2 ^ (prec f - 1) ≤ q
  lead =
      let N = Num (n f a A) * 2 ^ low f in
      let u = 2 ^ suc (suc (low f)) * 2 ^ k in
      le_trans ((le-div_iff_mul-le (mul-pos (pow_pos (suc (suc (low f)))) (pow_pos k))).1 (le_trans (le_of_eq (mul_comm (2 ^ (prec f - 1)) u)) reached)) (nearest-ge (N / u) (compare (N % u * 2) u))

  -- the root itself has no less than they say
  whole : 2 * (2 ^ (prec f - 1) * 2 ^ k) ≤ r f a A
  whole =
      let L = 2 ^ low f in
      let e : 2 ^ suc (suc (low f)) * 2 ^ k * 2 ^ (prec f - 1) ≡ 4 * (2 ^ (prec f - 1) * 2 ^ k) * L = ap (λ (x : ℕ). x * 2 ^ k * 2 ^ (prec f - 1)) (four f a A)
      ∙ regroup L (2 ^ k) (2 ^ (prec f - 1)) in
      halved (2 ^ (prec f - 1) * 2 ^ k) (r f a A) (sticky (n f a A) (r f a A)) (le_of_mul-le-mul_right (le_trans (le_of_eq (sym e)) reached) (pow_pos (low f)))
      (sticky_le (eqb (r f a A * r f a A) (n f a A)))
    where
      regroup : (L k q : ℕ) → 4 * L * k * q ≡ 4 * (q * k) * L
      regroup L k q = simp (mul_assoc, mul_comm, mul_left_comm)

      sticky_le : (t : Bool) → cond t 0 1 ≤ 1
      sticky_le true = lit≤ tt
      sticky_le false = lit≤ tt

      halved : (x r s : ℕ) → 4 * x ≤ 2 * r + s → s ≤ 1 → 2 * x ≤ r
      halved x r s l t = omega arith

  upper : n f a A ≤ squared (2 * g f a A + h f a A)
  upper = covered (n f a A) (r f a A) (2 * g f a A) (h f a A) (P f a A) (whole_root_is (n f a A)) (near f a A) (fine f a A)

  under : 2 * g f a A ≤ r f a A + h f a A
  under = from_above (n f a A) (r f a A) (2 * g f a A) (h f a A) (P f a A) (whole_root_is (n f a A)) (near f a A) (fine f a A)

  beyond : g f a A < b → n f a A ≤ squared (g f a A + b)
  beyond l =
      let G = g f a A in
      let d : k ≤ j = spaced (prec f) m j k one small (le_trans (mul-le-mul_right (2 ^ k) lead) (le_of_lt l)) in
      let e = multiple m j k d in
      let s : G + 2 ^ k ≤ b = le_trans (step_up q (m * 2 ^ (j - k)) (2 ^ k) (subst (λ (x : ℕ). G < x) e l)) (le_of_eq (sym e)) in
      le_trans upper (squares_le (more G (2 ^ k) b s))
    where
      more : (g u b : ℕ) → g + u ≤ b → 2 * g + u ≤ g + b
      more g u b l = omega arith

  short : b < g f a A → squared (g f a A + b) ≤ n f a A
  short l = le_trans (squares_le (elim (dec_le q (2 ^ (prec f - 1))) [ yes e ↦ first e | no e ↦ second (omega arith) ])) (whole_root_is (n f a A)).0
    where
      G : ℕ
      G = g f a A

      -- the root's digits are the least of their number: the root is no less than that
      first : q ≤ 2 ^ (prec f - 1) → G + b ≤ r f a A
      first e = enough G b (2 ^ (prec f - 1) * 2 ^ k) (r f a A) (mul-le-mul_right (2 ^ k) e) l whole
        where
          enough : (g b w r : ℕ) → g ≤ w → b < g → 2 * w ≤ r → g + b ≤ r
          enough g b w r x y z = omega arith

      -- else v is a step below
      second : 2 ^ (prec f - 1) < q → G + b ≤ r f a A
      second e = enough G b (2 ^ k) (r f a A) (elim (dec_le (2 ^ (prec f - 1) * 2 ^ k) b) [ yes i ↦ near_by i | no i ↦ far (lt_of_not-le i) ]) under
        where
          enough : (g b u r : ℕ) → b + u ≤ g → 2 * g ≤ r + u → g + b ≤ r
          enough g b u r x y = omega arith

          near_by : 2 ^ (prec f - 1) * 2 ^ k ≤ b → b + 2 ^ k ≤ G
          near_by i =
              let e = multiple m j k (spaced (prec f) m j k one small i) in
              le_trans (le_of_eq (ap (λ (x : ℕ). x + 2 ^ k) e)) (step_up (m * 2 ^ (j - k)) q (2 ^ k) (subst (λ (x : ℕ). x < G) e l))

          far : b < 2 ^ (prec f - 1) * 2 ^ k → b + 2 ^ k ≤ G
          far i = le_trans (plus b (2 ^ (prec f - 1) * 2 ^ k) (2 ^ k) (le_of_lt i)) (step_up (2 ^ (prec f - 1)) q (2 ^ k) (mul-lt-mul_of_pos_right e (pow_pos k)))
            where
              plus : (x y u : ℕ) → x ≤ y → x + u ≤ y + u
              plus x y u z = omega arith

-- ---- From units to fractions
module _ (nx dx ny dy nv dv a g b L : ℕ) (ex : nx * L ≡ a * dx) (ey : ny * L ≡ g * dy) (ev : nv * L ≡ b * dv) where
  squared_sum : squared (ny * dv + nv * dy) * dx * (L * L) ≡ squared (g + b) * (squared (dy * dv) * dx)
  squared_sum =
      let S = ny * dv + nv * dy in
      let D = dy * dv in
      let e : S * L ≡ (g + b) * D = add-mul (ny * dv) (nv * dy) L ∙ ap₂ (λ (x y : ℕ). x + y) (first_in_units ny dy nv dv g b L ey ev) (second_in_units ny dy nv dv g b L ey ev) ∙ sym (add-mul g b D) in
      let c : S * S * dx * (L * L) ≡ S * L * (S * L) * dx = simp (mul_assoc, mul_comm, mul_left_comm) in
      let d : (g + b) * D * ((g + b) * D) * dx ≡ (g + b) * (g + b) * (D * D * dx) = ap (λ (x : ℕ). x * dx) (mul-mul-mul_comm (g + b) D (g + b) D) ∙ mul_assoc ((g + b) * (g + b)) (D * D) dx in
      c ∙ ap (λ (x : ℕ). x * x * dx) e ∙ d

  squared_x : nx * squared (2 * (dy * dv)) * (L * L) ≡ a * (4 * L) * (squared (dy * dv) * dx)
  squared_x =
      let D = dy * dv in
      let c : nx * (4 * (D * D)) * (L * L) ≡ nx * L * (4 * (D * D) * L) = simp (mul_assoc, mul_comm, mul_left_comm) in
      let d : a * dx * (4 * (D * D) * L) ≡ a * (4 * L) * (D * D * dx) = simp (mul_assoc, mul_comm, mul_left_comm) in
      ap (λ (x : ℕ). nx * x * (L * L)) (mul-mul-mul_comm 2 D 2 D) ∙ c ∙ ap (λ (x : ℕ). x * (4 * (D * D) * L)) ex ∙ d

  at_most : 0 < L → a * (4 * L) ≤ squared (g + b) → nx * squared (2 * (dy * dv)) ≤ squared (ny * dv + nv * dy) * dx
  at_most p l = le_of_mul-le-mul_right (le_trans (le_of_eq squared_x) (le_trans (mul-le-mul_right (squared (dy * dv) * dx) l) (le_of_eq (sym squared_sum)))) (mul-pos p p)

  at_least : 0 < L → squared (g + b) ≤ a * (4 * L) → squared (ny * dv + nv * dy) * dx ≤ nx * squared (2 * (dy * dv))
  at_least p l = le_of_mul-le-mul_right (le_trans (le_of_eq squared_sum) (le_trans (mul-le-mul_right (squared (dy * dv) * dx) l) (le_of_eq (sym squared_x)))) (mul-pos p p)

-- ---- the theorem
pub root_nearest : RootIsNearest
root_nearest f x t s p =
    let u = units_of f x false t s p in
    let a = u.count in
    let L = 2 ^ low f in
    let o : 0 < L = pow_pos (low f) in
    let ex = cross x false a L u.is in
    let A : 0 < a = first_pos a (den x) (subst (λ (k : ℕ). 0 < k) ex (mul-pos p o)) in
    let y = root f x in
    let G = g f a A in
    let hy = root_units f a A x u.is u.bound in
    let ey = cross y false G L hy in
    let e : a * 2 ^ suc (suc (low f)) ≡ a * (4 * L) = ap (λ (k : ℕ). a * k) (four f a A) in
    record {
      value = root_fits f x t;
      sign = own y false G L hy;
      above = λ v tv sv l.
          let d = digits_of_lem f v false tv sv in
          at_most (num x) (den x) (num y) (den y) (num v) (den v) a G (d.m * 2 ^ d.j) L ex ey d.is o
          (le_trans (le_of_eq (sym e)) (beyond f a A d.m d.j d.small (in_order (num y) (den y) (num v) (den v) G (d.m * 2 ^ d.j) L ey d.is o l)));
      below = λ v tv sv l.
          let d = digits_of_lem f v false tv sv in
          at_least (num x) (den x) (num y) (den y) (num v) (den v) a G (d.m * 2 ^ d.j) L ex ey d.is o
          (le_trans (short f a A d.m d.j d.small (reversed (num y) (den y) (num v) (den v) G (d.m * 2 ^ d.j) L ey d.is o l)) (le_of_eq e));
    }

-- What the proof of `number::root_digits` counts with. Assumes nothing.
use mathlib.Core.Path.{◌≡◌, refl, sym, ap, ◌∙◌, subst}
use mathlib.Core.Logic.{◌⊎◌, inl, inr, ⊎_elim}
use mathlib.Core.Bool.{Bool, true, false, not, cond}
use Prim.Native.Nat.{ℕ, zero, suc, ◌+◌, ◌-◌, ◌*◌, ◌/◌, ◌%◌, ◌^◌, ◌≤◌, ◌<◌}
use native.Mathlib.Omega.{arith}
use native.Mathlib.Nat.{le_of_suc-le-suc, lt_of_le_of_lt, eq-or-lt_of_le, one-mul, add-mul, mul_assoc, mul-div_cancel, pow-suc}
use lib.Dec.{T, ltb, ltb→lt, nltb→le, lit<}
use lib.Pow.{pow-add, pow-lt, pow_mono, pow_pos, shl_exact}
use Rattle.number.specs.Number.{whole_root}
use Rattle.number.proofs.Pack.{pow_lt_back}
use Rattle.number.proofs.WholeRoot.{Left, digit_set, digit_clear, digits_done}

-- where the loop's test is reached: the digits down to 2 ^ i are there, and j is not passed
pub record Held (N P j r y w : ℕ) : Type 0 where
  pub i : ℕ
  pub reached : j ≤ i
  pub weight : w ≡ 2 ^ i / 2
  pub left : Left N P (r / 2) y (2 ^ i)
  pub even : r ≡ r / 2 + r / 2
  pub many : ℕ
  pub whole : r / 2 ≡ many * 2 ^ i

-- where a turn begins: w is the weight of its digit
pub record Turn (N P j r y w : ℕ) : Type 0 where
  pub i : ℕ
  pub reached : j ≤ i
  pub weight : w ≡ 2 ^ i
  pub left : Left N P (r / 2) y (2 * w)
  pub even : r ≡ r / 2 + r / 2
  pub many : ℕ
  pub whole : r / 2 ≡ many * (2 * w)

-- what the bounds of p give
pub cap : (p : ℕ) → p ≤ 53 → 2 ^ (p + 1) ≤ 2 ^ 54
cap p h = pow_mono {i = p + 1} {j = 54} (omega arith)

pub one_at : (p : ℕ) → p ≤ 53 → 1 * 2 ^ p % 2 ^ 64 ≡ 2 ^ p
one_at p h = shl_exact 1 p 64 (lit< tt) (omega arith) ∙ one-mul (2 ^ p)

pub le_back : (a b : ℕ) → 2 ^ a ≤ 2 ^ b → a ≤ b
le_back a b h = le_of_suc-le-suc (pow_lt_back a (suc b) (lt_of_le_of_lt h (pow-lt {i = b} {j = suc b} (omega arith))))

pub begun : (N P j r y w : ℕ) → Held N P j r y w → 2 ^ j ≤ w → Turn N P j r y w
begun N P j r y w H l = go H.i H.weight H.left H.whole
  where
    none : 2 ^ j ≤ 0 → ⊥
    none h = omega (arith, pow_pos j)

    go : (i : ℕ) → w ≡ 2 ^ i / 2 → Left N P (r / 2) y (2 ^ i) → r / 2 ≡ H.many * 2 ^ i → Turn N P j r y w
    go zero e L m = absurd (none (subst (λ (x : ℕ). 2 ^ j ≤ x) e l))
    go (suc i) e L m =
        let d = pow-suc 2 i in
        let v : w ≡ 2 ^ i = omega arith in
        let u : 2 ^ suc i ≡ 2 * w = omega arith in
        record {
          i = i;
          reached = le_back j i (subst (λ (x : ℕ). 2 ^ j ≤ x) v l);
          weight = v;
          left = subst (λ (x : ℕ). Left N P (r / 2) y x) u L;
          even = H.even;
          many = H.many;
          whole = m ∙ ap (λ (x : ℕ). H.many * x) u;
        }

-- what is chosen: a where y is below t, and else b
abbrev pub Pick : ℕ → ℕ → ℕ → ℕ → ℕ → Type 0
Pick y t a b x = ((y < t) × (x ≡ a)) ⊎ ((t ≤ y) × (x ≡ b))

pub pick : (y t a b x : ℕ) → x ≡ cond (ltb y t) a b → Pick y t a b x
pick y t a b x = go (ltb y t) (ltb→lt y t) (nltb→le y t)
  where
    go : (f : Bool) → (T f → y < t) → (T (not f) → t ≤ y) → x ≡ cond f a b → Pick y t a b x
    go true l g e = inl (l tt, e)
    go false l g e = inr (g tt, e)

-- one turn, of either kind
pub both : (y t : ℕ) → y < t → t ≤ y → ⊥
both y t h k = omega arith

pub again : (N P j r y w A R : ℕ) → Turn N P j r y w → Pick y (r + w) 0 (r + w + (r + w)) A → Pick y (r + w) r (r + w + w) R → Held N P j R (y + y - A) (w / 2)
again N P j r y w A R t (inl a) (inl b) =
    let e = t.even in
    let v = t.weight in
    let q : r / 2 ≡ R / 2 = omega arith in
    let d : y + y ≡ y + y - A = omega arith in
    record {
      i = t.i;
      reached = t.reached;
      weight = ap (λ (x : ℕ). x / 2) v;
      left = subst (λ (x : ℕ). Left N P x (y + y - A) (2 ^ t.i)) q
          (subst (λ (x : ℕ). Left N P (r / 2) x (2 ^ t.i)) d (subst (λ (x : ℕ). Left N P (r / 2) (y + y) x) v (digit_clear N P (r / 2) y w (2 * w) refl t.left (omega arith))));
      even = omega arith;
      many = t.many * 2;
      whole = sym q ∙ t.whole ∙ sym (mul_assoc t.many 2 w) ∙ ap (λ (x : ℕ). t.many * 2 * x) v;
    }
again N P j r y w A R t (inl a) (inr b) = absurd (both y (r + w) a.0 b.0)
again N P j r y w A R t (inr a) (inl b) = absurd (both y (r + w) b.0 a.0)
again N P j r y w A R t (inr a) (inr b) =
    let e = t.even in
    let v = t.weight in
    let q : r / 2 + w ≡ R / 2 = omega arith in
    let z = y - (r + w) in
    let d : z + z ≡ y + y - A = omega arith in
    let m : (t.many * 2 + 1) * w ≡ t.many * 2 * w + w = add-mul (t.many * 2) 1 w ∙ ap (λ (x : ℕ). t.many * 2 * w + x) (one-mul w) in
    record {
      i = t.i;
      reached = t.reached;
      weight = ap (λ (x : ℕ). x / 2) v;
      left = subst (λ (x : ℕ). Left N P x (y + y - A) (2 ^ t.i)) q
          (subst (λ (x : ℕ). Left N P (r / 2 + w) x (2 ^ t.i)) d (subst (λ (x : ℕ). Left N P (r / 2 + w) (z + z) x) v (digit_set N P (r / 2) y w (2 * w) refl t.left z (omega arith))));
      even = omega arith;
      many = t.many * 2 + 1;
      whole = sym q ∙ ap (λ (x : ℕ). x + w) (t.whole ∙ sym (mul_assoc t.many 2 w)) ∙ sym m ∙ ap (λ (x : ℕ). (t.many * 2 + 1) * x) v;
    }

-- the digits that were asked for are there: 2 ^ i is 2 ^ j
pub ended : (i j w : ℕ) → j ≤ i → w ≡ 2 ^ i / 2 → w < 2 ^ j → i ≡ j
ended i j w h e l = ⊎_elim (λ (d : j ≡ i). sym d) (λ (d : j < i). absurd (go i d e)) (eq-or-lt_of_le h)
  where
    go : (k : ℕ) → j < k → w ≡ 2 ^ k / 2 → ⊥
    go zero d p = omega arith
    go (suc k) d p =
        let a = pow-suc 2 k in
        let b = pow_mono {i = j} {j = k} (omega arith) in
        omega arith

-- what the function answers
pub record Answered (N j r y : ℕ) : Type 0 where
  pub root : r / 2 ^ (j + 1) ≡ whole_root N / 2 ^ j
  pub exact : r / 2 ^ (j + 1) * 2 ^ j * (r / 2 ^ (j + 1) * 2 ^ j) + r / 2 ^ (j + 1) * 2 ^ j * (r / 2 ^ (j + 1) * 2 ^ j) + y * 2 ^ j ≡ N + N
  pub small : y < 4 * (r / 2 ^ (j + 1) * 2 ^ j) + 2 * 2 ^ j

pub answered : (N P j r y w : ℕ) → Held N P j r y w → w < 2 ^ j → Answered N j r y
answered N P j r y w H l =
    let k = H.many in
    let u = 2 ^ j in
    let e : H.i ≡ j = ended H.i j w H.reached H.weight l in
    let q : r / 2 ≡ k * u = H.whole ∙ ap (λ (x : ℕ). k * 2 ^ x) e in
    let v : r ≡ k * u * 2 = double r (k * u) H.even q in
    let d : r / 2 ^ (j + 1) ≡ k = ap (λ (x : ℕ). x / 2 ^ (j + 1)) (v ∙ mul_assoc k u 2 ∙ ap (λ (x : ℕ). k * x) (sym (pow-add 2 j 1))) ∙ mul-div_cancel k (pow_pos (j + 1)) in
    let L : Left N P (k * u) y u = subst (λ (x : ℕ). Left N P x y u) q (subst (λ (x : ℕ). Left N P (r / 2) y (2 ^ x)) e H.left) in
    record {
      root = d ∙ digits_done N P k y u (pow_pos j) L;
      exact = ap (λ (x : ℕ). x * u * (x * u) + x * u * (x * u) + y * u) d ∙ L.exact;
      small = subst (λ (x : ℕ). y < 4 * (x * u) + 2 * u) (sym d) L.small;
    }
  where
    double : (x y : ℕ) → x ≡ x / 2 + x / 2 → x / 2 ≡ y → x ≡ y * 2
    double x y a b = omega arith

pub here : (m p j r y w : ℕ) → p ≤ 53 → j ≤ p → Held (m * 2 ^ (p + 1)) (2 ^ (p + 1)) j r y w → 1 * 2 ^ j % 2 ^ 64 ≤ w → Turn (m * 2 ^ (p + 1)) (2 ^ (p + 1)) j r y w
here m p j r y w P J H l = begun (m * 2 ^ (p + 1)) (2 ^ (p + 1)) j r y w H (subst (λ (x : ℕ). x ≤ w) (one_at j (omega arith)) l)

-- what bounds a turn's numbers
pub record Room (r y w : ℕ) : Type 0 where
  pub above : r / 2 + 2 * w ≤ 2 ^ 54
  pub rest : y < 4 * (r / 2) + 2 * (2 * w)
  pub even : r ≡ r / 2 + r / 2
  pub some : 0 < w

pub room : (m p j r y w : ℕ) → p ≤ 53 → j ≤ p → Held (m * 2 ^ (p + 1)) (2 ^ (p + 1)) j r y w → 1 * 2 ^ j % 2 ^ 64 ≤ w → Room r y w
room m p j r y w P J H l =
    let t = here m p j r y w P J H l in
    let L = t.left in
    let o = L.room in
    let k = cap p P in
    record { above = omega arith; rest = L.small; even = t.even; some = subst (λ (x : ℕ). 0 < x) (sym t.weight) (pow_pos t.i) }

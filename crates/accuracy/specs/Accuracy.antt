-- How near `compute_power` is to exact arithmetic, for every capture of 1 to 65,536 pairs of whole numbers of size at most 32,768: demand 3, sentence by sentence.
-- A finite float x is the fraction `value x / den x`, and `num x / den x` in size. The sentences are multiplied out, so that only whole numbers are compared. Definitions only.
use Rattle.std.specs.Prelude.{ℕ, zero, suc, ◌+◌, ◌*◌, ◌^◌, ◌≤◌, ◌<◌, ◌≡◌, List, map, T, length, get_or, ℤ, pos, negsuc, nat_abs, ◌-ℤ◌, ◌*ℤ◌, Ok, Float}
use Rattle.std.specs.Float.{nan, binary32}
use Rattle.std.specs.Float.Ieee.{of_int}
use Rattle.std.specs.Float.Ieee.Scale.{finite}
use Rattle.std.specs.Float.Ieee.Positive.{num, den}
use Rattle.laws.specs.Whole.{value, Is}
use Rattle.laws.specs.Products.{code_at, products}
use Rattle.number.specs.Nearest.{squared}
use Rattle.answers.specs.Numbers.{longest}
use Rattle.power.specs.declared.Power.{Power}
use Rattle.power.specs.Power.{power_of, answer_of}

-- ---- what is measured

-- the samples of v are the whole numbers x 0, x 1, .., each of size at most 32,768
pub record Capture (v : List Float) (x : ℕ → ℤ) : Type 0 where
  pub are : (k : ℕ) → k < length v → Is (get_or v k nan) (x k)
  pub small : (k : ℕ) → k < length v → nat_abs (x k) ≤ 32768

-- codes as samples: each cast to an f32
abbrev pub samples_of : List ℤ → List Float
samples_of z = map (λ (a : ℤ). of_int binary32 a) z

-- ---- exact arithmetic over the first n pairs: W is the sum of the products (Products.antt of `laws`)

-- the sum of the squares: V of the voltage, I of the current
unfoldable pub squares : (ℕ → ℤ) → ℕ → ℕ
squares x zero = 0
squares x (suc n) = squares x n + nat_abs (x n) * nat_abs (x n)

-- ---- the sentences

-- a and b are no further apart than t / 2 ^ k
abbrev pub Within : ℤ → ℤ → ℕ → ℕ → Type 0
Within a b t k = nat_abs (a -ℤ b) * 2 ^ k ≤ t

pub data Sign : Type 0 where
  minus none plus : Sign

abbrev pub sign : ℤ → Sign
sign (pos zero) = none
sign (pos (suc a)) = plus
sign (negsuc a) = minus

-- n p is within |W| / 2^k of W
abbrev pub ActiveNear : ℕ → ℕ → ℤ → Float → Type 0
ActiveNear k n w p = Within (pos n *ℤ value p) (w *ℤ pos (den p)) (nat_abs w * den p) k

-- n² s² is within V I / 2^k of V I
abbrev pub ApparentNear : ℕ → ℕ → ℕ → ℕ → Float → Type 0
ApparentNear k n v i s = Within (pos (squared n * squared (num s))) (pos (v * i * squared (den s))) (v * i * squared (den s)) k

-- n² q² is within V I / 2^k of V I - W², where q is nonactive
abbrev pub NonactiveNear : ℕ → ℕ → ℕ → ℕ → ℤ → Float → Type 0
NonactiveNear k n v i w q = Within (pos (squared n * squared (num q))) (pos (v * i * squared (den q)) -ℤ pos (squared (nat_abs w) * squared (den q))) (v * i * squared (den q)) k

-- pf² V I is within W² / 2^k of W²
abbrev pub FactorNear : ℕ → ℕ → ℕ → ℤ → Float → Type 0
FactorNear k v i w f = Within (pos (squared (num f) * (v * i))) (pos (squared (nat_abs w) * squared (den f))) (squared (nat_abs w) * squared (den f)) k

-- pf has the sign of W, and so is 0 exactly when W is
abbrev pub SignOf : ℤ → Float → Type 0
SignOf w f = sign (value f) ≡ sign w

-- pf is at most 1 + 1 / 2^k in size
abbrev pub AtMost : ℕ → Float → Type 0
AtMost k f = num f * 2 ^ k ≤ (2 ^ k + 1) * den f

-- demand 3's powers of two: how near p, s, nonactive and pf are, and by how much the size of pf may be above 1
abbrev pub near_p : ℕ
near_p = 23

abbrev pub near_s : ℕ
near_s = 21

abbrev pub near_nonactive : ℕ
near_nonactive = 20

abbrev pub near_pf : ℕ
near_pf = 20

abbrev pub most_pf : ℕ
most_pf = 21

-- the record r of n pairs with the sums v and i of squares and w of products; and no figure is an infinity or a NaN
pub record Bounds (n v i : ℕ) (w : ℤ) (r : Power) : Type 0 where
  pub active : ActiveNear near_p n w r.p
  pub apparent : ApparentNear near_s n v i r.s
  pub nonactive : NonactiveNear near_nonactive n v i w r.nonactive
  pub factor : FactorNear near_pf v i w r.pf
  pub signed : SignOf w r.pf × AtMost most_pf r.pf
  pub numbers : T (finite r.p) × T (finite r.nonactive) × T (finite r.s) × T (finite r.pf)

-- ---- the claims

-- demand 3: such a capture is measured, and within the bounds
abbrev pub Accuracy : Type 0
Accuracy =
    (v i : List Float) (x y : ℕ → ℤ) → Capture v x → Capture i y → length v ≡ length i → 0 < length v → length v ≤ longest
    → (answer_of v i ≡ Ok (power_of v i)) × Bounds (length v) (squares x (length v)) (squares y (length v)) (products x y (length v)) (power_of v i)

-- any codes of 16 bits are such a capture
abbrev pub Codes : Type 0
Codes = (z : List ℤ) → ((k : ℕ) → k < length z → nat_abs (code_at z k) ≤ 32768) → Capture (samples_of z) (code_at z)

-- What a correctly rounded result is, said without `round`: no value of the format is nearer to the exact one. And the claims: of which results that is proved. Definitions only.
use Rattle.std.specs.Prelude.{◌≡◌, Bool, false, ℕ, suc, ◌+◌, ◌-◌, ◌*◌, ◌^◌, ◌≤◌, ◌<◌, T, Float}
use Rattle.std.specs.Float.{inf, Format, binary32}
use Rattle.std.specs.Float.Ieee.{prec, emax, low, fits}
use Rattle.std.specs.Float.Ieee.Exact.{HasValue}
use Rattle.std.specs.Float.Ieee.Positive.{num, den}
use Rattle.number.specs.Number.{narrow, root}

abbrev pub squared : ℕ → ℕ
squared a = a * a

-- the middle of y and v is middle_num y v / middle_den y v
abbrev pub middle_num : Float → Float → ℕ
middle_num y v = num y * den v + num v * den y

abbrev pub middle_den : Float → Float → ℕ
middle_den y v = 2 * (den y * den v)

-- finite, with the sign s (true is minus); its size is num v / den v
abbrev pub WithSign : Bool → Float → Type 0
WithSign s v = HasValue v s (num v) (den v)

-- finite, and no less than zero
abbrev pub NotNegative : Float → Type 0
NotNegative v = WithSign false v

-- ---- the root

-- 01, item 1, "Correctly rounded square root"; IEEE 754, "nearest". y is a value of the format that is not negative. Of every other such value v the middle between y and v
-- lies on v's side of the root of x, or at the root: x is at most the middle's square where v is above y, and at least that where v is below
pub record NearestRoot (f : Format) (x y : Float) : Type 0 where
  pub value : T (fits f y)
  pub sign : NotNegative y
  pub above : (v : Float) → T (fits f v) → NotNegative v → num y * den v < num v * den y → num x * squared (middle_den y v) ≤ squared (middle_num y v) * den x
  pub below : (v : Float) → T (fits f v) → NotNegative v → num v * den y < num y * den v → squared (middle_num y v) * den x ≤ num x * squared (middle_den y v)

-- the claim, proved in proofs/NearestRoot.antt: for f32 and f64, of every finite value above zero. (The root of a zero, an infinity, a NaN and a number below zero is written out in `root`.)
abbrev pub RootIsNearest : Type 0
RootIsNearest = (f : Format) (x : Float) → T (fits f x) → NotNegative x → 0 < num x → NearestRoot f x (root f x)

-- ---- f64 to f32

-- the middle of the format's greatest value and 2 ^ (emax + 1), the next that it would have: of f32, 2 ^ 128 - 2 ^ 103
abbrev pub limit_of : Format → ℕ
limit_of f = (2 ^ suc (prec f) - 1) * 2 ^ (emax f - prec f)

-- an even last digit: y is an even number, 2 * digits, of units that are 2 ^ places of the format's smallest value, and has no more digits than the format
pub record Even (f : Format) (y : Float) : Type 0 where
  pub digits : ℕ
  pub places : ℕ
  pub few : 2 * digits ≤ 2 ^ prec f
  pub is : num y * 2 ^ low f ≡ 2 * digits * 2 ^ places * den y

-- IEEE 754, "nearest, ties to even" (01). y is a value of the format with x's sign s. Of every other such value v the middle between y and v lies on v's side of x, or at x:
-- x is at most the middle where v is above y in size, and at least that where v is below. Where x is that middle, y is the even one.
-- (A value of the other sign lies beyond the zero of x's own sign, which is one of these v.)
pub record NearestValue (f : Format) (s : Bool) (x y : Float) : Type 0 where
  pub value : T (fits f y)
  pub sign : WithSign s y
  pub above : (v : Float) → T (fits f v) → WithSign s v → num y * den v < num v * den y → num x * middle_den y v ≤ middle_num y v * den x
  pub below : (v : Float) → T (fits f v) → WithSign s v → num v * den y < num y * den v → middle_num y v * den x ≤ num x * middle_den y v
  pub tie : (v : Float) → T (fits f v) → WithSign s v → (num y * den v ≡ num v * den y → ⊥) → num x * middle_den y v ≡ middle_num y v * den x → Even f y

-- the claim, proved in proofs/NearestValue.antt: of every finite value, whatever its format, the f32 nearest to it, and an infinity of its sign from the limit on
-- ("overflow"). (`narrow` of an infinity and of a NaN is written out there.)
pub record NarrowIsNearest : Type 0 where
  pub near : (x : Float) (s : Bool) → WithSign s x → num x < limit_of binary32 * den x → NearestValue binary32 s x (narrow x)
  pub beyond : (x : Float) (s : Bool) → WithSign s x → limit_of binary32 * den x ≤ num x → narrow x ≡ inf s

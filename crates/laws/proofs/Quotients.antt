-- Over one divisor the larger dividend has the larger quotient, rounded or not: so what no quotient of the larger passes, no quotient of the smaller does. For
-- floats whose signs are clear. Assumes nothing.
use mathlib.Core.Path.{◌≡◌, refl, sym, ap, subst, ◌∙◌}
use mathlib.Core.Bool.{Bool, true, false, not, ◌&&◌, ◌||◌, cond}
use Prim.Native.Nat.{ℕ, zero, suc, ◌+◌, ◌*◌, ◌^◌, ◌≤◌, ◌<◌}
use native.Mathlib.Nat.{le_of_eq, le_of_lt, le_trans, lt_of_lt_of_le, zero-lt-suc, zero-mul, mul-pos, mul_comm, mul-mul-mul_comm, mul-le-mul_right}
use native.Mathlib.Omega.{arith}
use borrow.Author.Tests.{ltb-false, le-ltb}
use lib.Dec.{T, ltb, eqb, ltb→lt, eqb→eq, eqb_refl, T_not}
use lib.IntN.{ℤ, pos}
use lib.Ieee.{Float, nan, inf, fin, Format, prec, low, emax, up, down, is_nan, lt, eq, le, div, round, units, odd}
use lib.Ieee.Fits.{up_pos, down_pos}
use lib.Ieee.Order.{round_mono}
use lib.Ieee.Positive.{through}
use Rattle.laws.specs.Samples.{unsigned}
use Rattle.laws.proofs.NotNumber.{lt_nan}

pub level_or_below : (a b : ℕ) → T (ltb a b || (eqb a b && true)) → a ≤ b
level_or_below a b = go (ltb a b) (eqb a b) (ltb→lt a b) (eqb→eq a b)
  where
    go : (x y : Bool) → (T x → a < b) → (T y → a ≡ b) → T (x || (y && true)) → a ≤ b
    go true y p q t = le_of_lt (p tt)
    go false true p q t = le_of_eq (q tt)
    go false false p q t = absurd t

-- ---- signs that are clear
odd_unsigned : (d q k l : ℕ) → T (unsigned (odd d false q k l))
unfolding odd unsigned
odd_unsigned d zero k l = tt
odd_unsigned d (suc q) k l = tt

units_unsigned : (f : Format) (q k : ℕ) → T (unsigned (units f false q k))
unfolding units unsigned
units_unsigned f q k = go (ltb (q * 2 ^ k) (2 ^ (low f + suc (emax f))))
  where
    go : (b : Bool) → T (unsigned (cond b (odd (suc (prec f)) false q k (low f)) (inf false)))
    go true = odd_unsigned (suc (prec f)) q k (low f)
    go false = tt

pub round_unsigned : (f : Format) (a c : ℕ) → T (unsigned (round f false a c))
unfolding round
round_unsigned f a c = units_unsigned f _ _

pub div_unsigned : (f : Format) (x y : Float) → T (unsigned x) → T (unsigned y) → T (unsigned (div f x y))
unfolding div unsigned
div_unsigned f nan y X Y = tt
div_unsigned f (inf true) y X Y = absurd X
div_unsigned f (inf false) nan X Y = tt
div_unsigned f (inf false) (inf t) X Y = tt
div_unsigned f (inf false) (fin true n d) X Y = absurd Y
div_unsigned f (inf false) (fin false n d) X Y = tt
div_unsigned f (fin true m e) y X Y = absurd X
div_unsigned f (fin false m e) nan X Y = tt
div_unsigned f (fin false m e) (inf true) X Y = absurd Y
div_unsigned f (fin false m e) (inf false) X Y = tt
div_unsigned f (fin false m e) (fin true n d) X Y = absurd Y
div_unsigned f (fin false m e) (fin false n d) X Y = go (eqb n 0) (eqb m 0)
  where
    go : (a b : Bool) → T (unsigned (cond a (cond b nan (inf false)) (round f false (m * up e * down d) (n * up d * down e))))
    go true true = tt
    go true false = tt
    go false b = round_unsigned f (m * up e * down d) (n * up d * down e)

-- ---- the order
module _ (m : Float) (M : T (unsigned m)) where
  -- nothing is above what the infinity is not above
  top : (y : Float) → lt m (inf false) ≡ false → lt m y ≡ false
  unfolding lt unsigned
  top = go m M
    where
      go : (m : Float) → T (unsigned m) → (y : Float) → lt m (inf false) ≡ false → lt m y ≡ false
      go nan M y e = refl
      go (inf true) M y e = absurd M
      go (inf false) M nan e = refl
      go (inf false) M (inf t) e = refl
      go (inf false) M (fin t n d) e = refl
      go (fin s k d) M y e = absurd (subst T e tt)

  -- and none is below a zero
  floor : lt m (fin false 0 (pos 0)) ≡ false
  unfolding lt unsigned
  floor = go m M
    where
      go : (m : Float) → T (unsigned m) → lt m (fin false 0 (pos 0)) ≡ false
      go nan M = refl
      go (inf true) M = absurd M
      go (inf false) M = refl
      go (fin true k d) M = absurd M
      go (fin false k d) M = le-ltb (k * up d * 1) (0 * 1 * down d) (subst (λ (x : ℕ). x ≤ k * up d * 1) (sym (zero-mul (down d))) (omega arith))

  -- what m is not below, it is not below where something lower stands for it
  lower_too : (y z : Float) → T (unsigned y) → T (unsigned z) → T (le y z) → lt m z ≡ false → lt m y ≡ false
  unfolding le lt eq unsigned
  lower_too = go m M
    where
      go : (m : Float) → T (unsigned m) → (y z : Float) → T (unsigned y) → T (unsigned z) → T (le y z) → lt m z ≡ false → lt m y ≡ false
      go nan M y z Y Z l e = refl
      go (inf true) M y z Y Z l e = absurd M
      go (inf false) M nan z Y Z l e = refl
      go (inf false) M (inf t) z Y Z l e = refl
      go (inf false) M (fin t n d) z Y Z l e = refl
      go (fin true k d) M y z Y Z l e = absurd M
      go (fin false k d) M nan z Y Z l e = refl
      go (fin false k d) M (inf true) z Y Z l e = absurd Y
      go (fin false k d) M (inf false) nan Y Z l e = absurd l
      go (fin false k d) M (inf false) (inf true) Y Z l e = absurd Z
      go (fin false k d) M (inf false) (inf false) Y Z l e = e
      go (fin false k d) M (inf false) (fin t p q) Y Z l e = absurd l
      go (fin false k d) M (fin true n j) z Y Z l e = absurd Y
      go (fin false k d) M (fin false n j) nan Y Z l e = absurd l
      go (fin false k d) M (fin false n j) (inf true) Y Z l e = absurd Z
      go (fin false k d) M (fin false n j) (inf false) Y Z l e = absurd (subst T e tt)
      go (fin false k d) M (fin false n j) (fin true p q) Y Z l e = absurd Z
      go (fin false k d) M (fin false n j) (fin false p q) Y Z l e =
          le-ltb (k * up d * down j) (n * up j * down d)
          (through (n * up j) (p * up q) (k * up d) (down j) (down q) (down d) (down_pos q) (level_or_below (n * up j * down q) (p * up q * down j) l)
          (ltb-false (k * up d * down q) (p * up q * down d) e))

-- ---- quotients

-- a / j is at least b / e, and so it stays over one divisor
cross : (n e' k j' dq p : ℕ) → n * j' ≤ k * e' → n * dq * (p * j') ≤ k * dq * (p * e')
cross n e' k j' dq p h =
    le_trans (le_of_eq (turned n dq p j')) (le_trans (mul-le-mul_right (dq * p) h) (le_of_eq (sym (turned k dq p e'))))
  where
    turned : (a b c d : ℕ) → a * b * (c * d) ≡ a * d * (b * c)
    turned a b c d = ap (λ (x : ℕ). a * b * x) (mul_comm c d) ∙ mul-mul-mul_comm a b d c

-- a dividend of zero leaves none but zeros below it
zeros : (n k a b c d : ℕ) → 0 < a → 0 < b → n * a * b ≤ k * c * d → T (eqb k 0) → T (eqb n 0)
zeros zero k a b c d A B h z = eqb_refl 0
zeros (suc n) k a b c d A B h z =
    absurd
    (never
    (lt_of_lt_of_le (mul-pos (mul-pos (zero-lt-suc n) A) B)
    (le_trans h (le_of_eq (ap (λ (x : ℕ). x * c * d) (eqb→eq k 0 z) ∙ ap (λ (x : ℕ). x * d) (zero-mul c) ∙ zero-mul d)))))
  where
    never : 0 < 0 → ⊥
    never h = omega arith

above_zero_lem : (p : ℕ) → T (not (eqb p 0)) → 0 < p
above_zero_lem zero t = absurd (T_not (eqb 0 0) t (eqb_refl 0))
above_zero_lem (suc p) t = zero-lt-suc p

of_finite : (f : Format) (m : Float) (k n p : ℕ) (j e q : ℤ) → T (unsigned m) → n * up e * down j ≤ k * up j * down e → lt m (div f (fin false k j) (fin false p q)) ≡ false
    → lt m (div f (fin false n e) (fin false p q)) ≡ false
unfolding div
of_finite f m k n p j e q M l g = go (eqb p 0) (eqb n 0) (eqb k 0) (above_zero_lem p) (zeros n k (up e) (down j) (up j) (down e) (up_pos e) (down_pos j) l) g
  where
    go : (x y z : Bool) → (T (not x) → 0 < p) → (T z → T y) → lt m (cond x (cond z nan (inf false)) (round f false (k * up j * down q) (p * up q * down j))) ≡ false
        → lt m (cond x (cond y nan (inf false)) (round f false (n * up e * down q) (p * up q * down e))) ≡ false
    go true true z w i g = lt_nan m
    go true false true w i g = absurd (i tt)
    go true false false w i g = g
    go false y z w i g =
        let d : 0 < p * up q = mul-pos (w tt) (up_pos q) in
        lower_too m M (round f false (n * up e * down q) (p * up q * down e)) (round f false (k * up j * down q) (p * up q * down j)) (round_unsigned f (n * up e * down q) (p * up q * down e))
        (round_unsigned f (k * up j * down q) (p * up q * down j))
        (round_mono f (n * up e * down q) (p * up q * down e) (k * up j * down q) (p * up q * down j) (mul-pos d (down_pos e)) (mul-pos d (down_pos j))
        (cross (n * up e) (down e) (k * up j) (down j) (down q) (p * up q) l)) g

pub quotient_too : (f : Format) (m a b dt : Float) → T (unsigned m) → T (unsigned a) → T (unsigned b) → T (unsigned dt) → T (not (is_nan a)) → lt a b ≡ false → lt m (div f a dt) ≡ false
    → lt m (div f b dt) ≡ false
unfolding div lt unsigned is_nan
quotient_too f m a nan dt M A B D N h g = lt_nan m
quotient_too f m a (inf true) dt M A B D N h g = absurd B
quotient_too f m nan (inf false) dt M A B D N h g = absurd N
quotient_too f m (inf true) (inf false) dt M A B D N h g = absurd A
quotient_too f m (inf false) (inf false) dt M A B D N h g = g
quotient_too f m (fin s k j) (inf false) dt M A B D N h g = absurd (subst T h tt)
quotient_too f m a (fin true n e) dt M A B D N h g = absurd B
quotient_too f m a (fin false n e) nan M A B D N h g = lt_nan m
quotient_too f m a (fin false n e) (inf true) M A B D N h g = absurd D
quotient_too f m a (fin false n e) (inf false) M A B D N h g = floor m M
quotient_too f m a (fin false n e) (fin true p q) M A B D N h g = absurd D
quotient_too f m nan (fin false n e) (fin false p q) M A B D N h g = absurd N
quotient_too f m (inf true) (fin false n e) (fin false p q) M A B D N h g = absurd A
quotient_too f m (inf false) (fin false n e) (fin false p q) M A B D N h g = top m M (div f (fin false n e) (fin false p q)) g
quotient_too f m (fin true k j) (fin false n e) (fin false p q) M A B D N h g = absurd A
quotient_too f m (fin false k j) (fin false n e) (fin false p q) M A B D N h g = of_finite f m k n p j e q M (ltb-false (k * up j * down e) (n * up e * down j) h) g

-- Sizes that no rounding passes: `Bounded B x` says that x is finite and at most B in size. A format that holds B keeps what it rounds at most B, since rounding
-- keeps the order. Assumes nothing.
use mathlib.Core.Path.{◌≡◌, refl, sym, ap, ◌∙◌, subst}
use mathlib.Core.Bool.{Bool, true, false, cond, true≢false}
use Prim.Native.Nat.{ℕ, suc, ◌+◌, ◌*◌, ◌^◌, ◌≤◌, ◌<◌}
use native.Mathlib.Nat.{mul_comm, mul_assoc, mul-one, add-mul, mul-pos, mul_right_comm, mul-mul-mul_comm, mul-le-mul, mul-le-mul_right, le_of_mul-le-mul_right}
use native.Mathlib.Nat.{le_trans, le_of_eq, add-le-add, eq_of_mul-eq-mul_right, lt_of_lt_of_le}
use lib.Dec.{T, ltb, lit<, ltb→lt}
use lib.Pow.{pow_pos}
use lib.IntN.{ℤ, pos, neg_ℤ, nat_abs, ◌+ℤ◌, ◌-ℤ◌, ◌*ℤ◌}
use lib.Ieee.{Float, nan, inf, fin, Format, prec, low, up, down, odd, units, round, add, sub, mul, div, le}
use lib.Ieee.Fits.{down_pos, round_is}
use lib.Ieee.Exact.{HasValue}
use lib.Ieee.Order.{drop, kept, transfer, round_mono}
use lib.Ieee.Scale.{grid, overflow, finite, round_val, round_under}
use lib.Ieee.Positive.{num, den, den_pos}
use Rattle.laws.specs.Whole.{value}
use Rattle.laws.specs.Samples.{unsigned}
use Rattle.laws.proofs.Signs.{size_signed, size_mul, size_add, size_neg}
use Rattle.laws.proofs.Close.{own, cross, round_is_grid}
use Rattle.laws.proofs.Size.{Signed}
use Rattle.laws.proofs.Zero.{Null, Number, null_num, null_round}
use Rattle.laws.proofs.Over.{Over}
use Rattle.laws.proofs.Quotients.{level_or_below, round_unsigned}
use Rattle.laws.proofs.Rounded.{Rounded, rounded_size, add_rounded, sub_rounded, mul_rounded, div_rounded}

-- ---- rounding keeps the order

-- what is at most a number is one
at_most_finite : (x y : Float) (b d : ℕ) → T (unsigned x) → HasValue y false b d → T (le x y) → T (finite x)
unfolding le unsigned
at_most_finite nan y b d u v h = absurd h
at_most_finite (inf true) y b d u v h = absurd u
at_most_finite (inf false) nan b d u v h = absurd v
at_most_finite (inf false) (inf t) b d u v h = absurd v
at_most_finite (inf false) (fin t n k) b d u v h = absurd h
at_most_finite (fin s m e) y b d u v h = tt

-- the order of two floats is that of any fractions that they equal: the converse of `le_of_values` (`lib.Ieee.Order`)
le_values : (x y : Float) (a c b d : ℕ) → HasValue x false a c → HasValue y false b d → T (le x y) → a * d ≤ b * c
unfolding le
le_values nan y a c b d v w h = absurd v
le_values (inf s) y a c b d v w h = absurd v
le_values (fin true m e) y a c b d v w h = absurd (true≢false v.0)
le_values (fin false m e) nan a c b d v w h = absurd w
le_values (fin false m e) (inf t) a c b d v w h = absurd w
le_values (fin false m e) (fin true n k) a c b d v w h = absurd (true≢false w.0)
le_values (fin false m e) (fin false n k) a c b d v w h =
    transfer a b c d (m * up e) (n * up k) (down e) (down k) (down_pos e) (down_pos k) (sym v.1) (sym w.1) (level_or_below (m * up e * down k) (n * up k * down e) h)

pub rising : (f : Format) (a c b d : ℕ) → 0 < c → 0 < d → a * d ≤ b * c → grid f b d < overflow f → (grid f a c < overflow f) × (grid f a c ≤ grid f b d)
rising f a c b d C D h under =
    let m : T (le (round f false a c) (round f false b d)) = round_mono f a c b d C D h in
    let v = round_val f b d under in
    let u = round_under f a c (at_most_finite (round f false a c) (round f false b d) (grid f b d) (2 ^ low f) (round_unsigned f a c) v m) in
    (u, le_of_mul-le-mul_right (le_values (round f false a c) (round f false b d) (grid f a c) (2 ^ low f) (grid f b d) (2 ^ low f) (round_val f a c u) v m) (pow_pos (low f)))

-- ---- a rounded fraction that is a number: its sign is the fraction's, and the larger fraction is no smaller
units_under : (f : Format) (s : Bool) (q k : ℕ) → Number (units f s q k) → q * 2 ^ k < overflow f
unfolding units
units_under f s q k = go (ltb (q * 2 ^ k) (overflow f)) (ltb→lt (q * 2 ^ k) (overflow f))
  where
    go : (b : Bool) → (T b → q * 2 ^ k < overflow f) → Number (cond b (odd (suc (prec f)) s q k (low f)) (inf s)) → q * 2 ^ k < overflow f
    go true h n = h tt
    go false h n = absurd n

number_under : (f : Format) (s : Bool) (a c : ℕ) → Number (round f s a c) → grid f a c < overflow f
number_under f s a c n =
    units_under f s (kept (prec f) (a * 2 ^ low f) c) (drop (prec f) (a * 2 ^ low f) c) (subst (λ (z : Float). Number z) (round_is f s a c) n)

module _ (f : Format) (x : Float) (z : ℤ) (c : ℕ) (r : Rounded f x z c) (X : Number x) where
  rounded_under : grid f r.amount c < overflow f
  rounded_under = number_under f r.side r.amount c (subst (λ (y : Float). Number y) r.is X)

  pub rounded_value : HasValue x r.side (grid f r.amount c) (2 ^ low f)
  rounded_value =
      subst (λ (y : Float). HasValue y r.side (grid f r.amount c) (2 ^ low f)) (sym r.is) (round_is_grid f r.side r.amount c rounded_under)

  pub rounded_signed : Signed x r.side
  rounded_signed = own x r.side (grid f r.amount c) (2 ^ low f) rounded_value

  pub rounded_null : 0 < c → r.amount ≡ 0 → num x ≡ 0
  rounded_null C e = null_num x (subst (λ (y : Float). Null y) (sym r.is) (null_round f r.side r.amount c C e))

pub rounded_order : (f : Format) (x y : Float) (z w : ℤ) (c : ℕ) (r : Rounded f x z c) (q : Rounded f y w c) → Number x → Number y → 0 < c → r.amount ≤ q.amount
    → num x * den y ≤ num y * den x
rounded_order f x y z w c r q X Y C h =
    let a = grid f r.amount c in
    let b = grid f q.amount c in
    let g = rising f r.amount c q.amount c C C (mul-le-mul_right c h) (rounded_under f y w c q Y) in
    transfer (num x) (num y) (den x) (den y) a b (2 ^ low f) (2 ^ low f) (pow_pos (low f)) (pow_pos (low f)) (cross x r.side a (2 ^ low f) (rounded_value f x z c r X))
    (cross y q.side b (2 ^ low f) (rounded_value f y w c q Y)) (mul-le-mul_right (2 ^ low f) g.1)

-- ---- the bound
abbrev pub Bounded : ℕ → Float → Type 0
Bounded B x = Number x × (num x ≤ B * den x)

pub bounded_more : (A B : ℕ) (x : Float) → A ≤ B → Bounded A x → Bounded B x
bounded_more A B x h b = (b.0, le_trans b.1 (mul-le-mul_right (den x) h))

pub bounded_of_value : (x : Float) (s : Bool) (a c B : ℕ) → 0 < c → HasValue x s a c → a ≤ B * c → Bounded B x
bounded_of_value nan s a c B C v h = absurd v
bounded_of_value (inf t) s a c B C v h = absurd v
bounded_of_value (fin t m e) s a c B C v h =
    (tt, le_of_mul-le-mul_right (le_trans (le_of_eq v.1) (le_trans (mul-le-mul_right (down e) h) (le_of_eq (mul_right_comm B c (down e))))) C)

-- the format holds B
abbrev pub Held : Format → ℕ → Type 0
Held f B = HasValue (round f false B 1) false B 1

value_finite : (x : Float) (s : Bool) (a c : ℕ) → HasValue x s a c → T (finite x)
value_finite nan s a c v = v
value_finite (inf t) s a c v = v
value_finite (fin t m e) s a c v = tt

pub held_under : (f : Format) (B : ℕ) → Held f B → grid f B 1 < overflow f
held_under f B h = round_under f B 1 (value_finite (round f false B 1) false B 1 h)

held_grid : (f : Format) (B : ℕ) → Held f B → grid f B 1 ≡ B * 2 ^ low f
held_grid f B h =
    let x = round f false B 1 in
    eq_of_mul-eq-mul_right (den x) (den_pos x) (grid f B 1) (B * 2 ^ low f)
    (sym (cross x false (grid f B 1) (2 ^ low f) (round_val f B 1 (held_under f B h)))
    ∙ ap (λ (n : ℕ). n * 2 ^ low f) (sym (mul-one (num x)) ∙ cross x false B 1 h)
    ∙ mul_right_comm B (den x) (2 ^ low f))

pub rounded_bounded : (f : Format) (x : Float) (z : ℤ) (c B : ℕ) → 0 < c → Held f B → nat_abs z ≤ B * c → Rounded f x z c → Bounded B x
rounded_bounded f x z c B C k h r =
    let a = r.amount in
    let l : a * 1 ≤ B * c = le_trans (le_of_eq (mul-one a ∙ rounded_size f x z c r)) h in
    let g = rising f a c B 1 C (lit< tt) l (held_under f B k) in
    subst (λ (y : Float). Bounded B y) (sym r.is)
    (bounded_of_value (round f r.side a c) r.side (grid f a c) (2 ^ low f) B (pow_pos (low f)) (round_is_grid f r.side a c g.0)
    (le_trans g.1 (le_of_eq (held_grid f B k))))

-- ---- operations
pub size_value : (x : Float) → nat_abs (value x) ≡ num x
size_value nan = refl
size_value (inf s) = refl
size_value (fin s m e) = size_signed s (m * up e)

size_times : (x : Float) (d : ℕ) → nat_abs (value x *ℤ pos d) ≡ num x * d
size_times x d = size_mul (value x) (pos d) ∙ ap (λ (n : ℕ). n * d) (size_value x)

-- of z / 2^p, from its numerator and back
over_size : (p : ℕ) (x : Float) (z : ℤ) → Over p x z → num x * 2 ^ p ≡ nat_abs z * den x
over_size p x z o = sym (size_times x (2 ^ p)) ∙ ap nat_abs o.1 ∙ size_mul z (pos (den x))

pub over_bounded : (p : ℕ) (x : Float) (z : ℤ) (B : ℕ) → Over p x z → nat_abs z ≤ B * 2 ^ p → Bounded B x
over_bounded p x z B o h =
    (o.0, le_of_mul-le-mul_right (le_trans (le_of_eq (over_size p x z o)) (le_trans (mul-le-mul_right (den x) h) (le_of_eq (mul_right_comm B (2 ^ p) (den x))))) (pow_pos p))

pub bounded_over : (p : ℕ) (x : Float) (z : ℤ) (B : ℕ) → Over p x z → Bounded B x → nat_abs z ≤ B * 2 ^ p
bounded_over p x z B o b =
    le_of_mul-le-mul_right (le_trans (le_of_eq (sym (over_size p x z o))) (le_trans (mul-le-mul_right (2 ^ p) b.1) (le_of_eq (mul_right_comm B (den x) (2 ^ p))))) (den_pos x)

pub mul_size : (x y : Float) (A B : ℕ) → Bounded A x → Bounded B y → nat_abs (value x *ℤ value y) ≤ A * B * (den x * den y)
mul_size x y A B p q =
    le_trans (le_of_eq (size_mul (value x) (value y) ∙ ap (λ (n : ℕ). n * nat_abs (value y)) (size_value x) ∙ ap (λ (n : ℕ). num x * n) (size_value y)))
    (le_trans (mul-le-mul p.1 q.1) (le_of_eq (mul-mul-mul_comm A (den x) B (den y))))

pub mul_bounded : (f : Format) (x y : Float) (A B : ℕ) → Held f (A * B) → Bounded A x → Bounded B y → Bounded (A * B) (mul f x y)
mul_bounded f x y A B k p q =
    rounded_bounded f (mul f x y) (value x *ℤ value y) (den x * den y) (A * B) (mul-pos (den_pos x) (den_pos y)) k (mul_size x y A B p q) (mul_rounded f x y p.0 q.0)

-- a + b, with each at most its share
pub shares : (a b A B c d : ℕ) → a ≤ A * c → b ≤ B * d → a * d + b * c ≤ (A + B) * (c * d)
shares a b A B c d h k =
    le_trans
    (add-le-add (le_trans (mul-le-mul_right d h) (le_of_eq (mul_assoc A c d))) (le_trans (mul-le-mul_right c k) (le_of_eq (mul_assoc B d c ∙ ap (λ (n : ℕ). B * n) (mul_comm d c)))))
    (le_of_eq (sym (add-mul A B (c * d))))

-- what a sum and a difference round
module _ (x y : Float) (A B : ℕ) (p : Bounded A x) (q : Bounded B y) where
  pub add_size : nat_abs (value x *ℤ pos (den y) +ℤ value y *ℤ pos (den x)) ≤ (A + B) * (den x * den y)
  add_size =
      le_trans (size_add (value x *ℤ pos (den y)) (value y *ℤ pos (den x)))
      (le_trans (add-le-add (le_of_eq (size_times x (den y))) (le_of_eq (size_times y (den x)))) (shares (num x) (num y) A B (den x) (den y) p.1 q.1))

  pub sub_size : nat_abs (value x *ℤ pos (den y) -ℤ value y *ℤ pos (den x)) ≤ (A + B) * (den x * den y)
  sub_size =
      le_trans (size_add (value x *ℤ pos (den y)) (neg_ℤ (value y *ℤ pos (den x))))
      (le_trans (add-le-add (le_of_eq (size_times x (den y))) (le_of_eq (size_neg (value y *ℤ pos (den x)) ∙ size_times y (den x))))
      (shares (num x) (num y) A B (den x) (den y) p.1 q.1))

pub add_bounded : (f : Format) (x y : Float) (A B : ℕ) → Held f (A + B) → Bounded A x → Bounded B y → Bounded (A + B) (add f x y)
add_bounded f x y A B k p q =
    rounded_bounded f (add f x y) (value x *ℤ pos (den y) +ℤ value y *ℤ pos (den x)) (den x * den y) (A + B) (mul-pos (den_pos x) (den_pos y)) k (add_size x y A B p q)
    (add_rounded f x y p.0 q.0)

pub sub_bounded : (f : Format) (x y : Float) (A B : ℕ) → Held f (A + B) → Bounded A x → Bounded B y → Bounded (A + B) (sub f x y)
sub_bounded f x y A B k p q =
    rounded_bounded f (sub f x y) (value x *ℤ pos (den y) -ℤ value y *ℤ pos (den x)) (den x * den y) (A + B) (mul-pos (den_pos x) (den_pos y)) k (sub_size x y A B p q)
    (sub_rounded f x y p.0 q.0)

-- by a number from 1 up
pub div_bounded : (f : Format) (x y : Float) (A : ℕ) → Held f A → Bounded A x → Signed y false → den y ≤ num y → Bounded A (div f x y)
div_bounded f x y A k p q h =
    let Y : 0 < num y = lt_of_lt_of_le (den_pos y) h in
    rounded_bounded f (div f x y) (value x *ℤ pos (den y)) (num y * den x) A (mul-pos Y (den_pos x)) k
    (le_trans (le_of_eq (size_times x (den y)))
    (le_trans (mul-le-mul p.1 h) (le_of_eq (mul_assoc A (den x) (num y) ∙ ap (λ (n : ℕ). A * n) (mul_comm (den x) (num y))))))
    (div_rounded f x y p.0 q Y)

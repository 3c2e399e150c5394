-- `root` of a value by its digits, as a bit pattern, in either format (`root-bits`). Assumes nothing.
use mathlib.Core.Path.{◌≡◌, refl, sym, ap, ◌∙◌, subst}
use mathlib.Core.Logic.{inl, inr}
use Prim.Native.Nat.{ℕ, zero, suc, ◌+◌, ◌-◌, ◌*◌, ◌/◌, ◌%◌, ◌^◌, ◌≤◌, ◌<◌, min, compare}
use native.Mathlib.Nat.{le_trans, le_of_eq, le_of_lt, lt_of_lt_of_le, lt_of_le_of_lt, lt_irrefl, mul_assoc, mul_right_comm, mul_left_comm, mul-mul-mul_comm, suc-mul, add-zero, zero-add, le-add_right}
use native.Mathlib.Nat.{eq-zero-or-pos, mul-pos, mul-le-mul, mul-le-mul_right, eq_of_mul-eq-mul_right, mul-div_cancel, div-add-mod', mod-lt, add-mul, pow-succ', pow-suc, mul-mod_left, zero-mul}
use native.Mathlib.Nat.{mul-one, mul-le-mul_left, lt_of_not-le, mul-lt-mul_of_pos_right, mod-eq_of_lt}
use native.Mathlib.Numerals.{add-one}
use native.Mathlib.Omega.{arith}
use mathlib.Core.Bool.{Bool, true, false, cond, true≢false}
use lib.Dec.{T, eqb, eqb→eq, lit≤, not_T}
use lib.Arith.{digits_div, digits_mod}
use lib.Pow.{pow-add, pow_pos, pow_mono, shl_lt}
use lib.Bits.{bit_and, and_mask}
use lib.Ieee.{Float, nan, inf, fin, Format, binary32, binary64, prec, emax, odd, of_fields, low, up, down, hid, ones, nearest, round, to_bits}
use lib.Ieee.Fits.{two, down_pos}
use lib.Ieee.Exact.{HasValue, odd_sign}
use lib.Ieee.Bits.{cond_no}
use lib.Ieee.Nearest.{closest}
use lib.Ieee.Order.{drop, kept}
use lib.Ieee.Scale.{grid, overflow, round_val}
use Rattle.number.specs.Number.{root, whole_root}
use Rattle.number.proofs.Pack.{round_bits, twice_hid}
use Rattle.number.proofs.Shift.{nearest_lt, nearest_gt}
use Rattle.number.proofs.Scaled.{pow_sum, drop_at, kept_at}
use Rattle.number.proofs.WholeRoot.{IsRoot, root_le, unique, whole_root_is, root_cut, odd_square}

-- ---- `root` sees only the value: of a units of the smallest value
abbrev pub sticky : ℕ → ℕ → ℕ
sticky n r = cond (eqb (r * r) n) 0 1

abbrev pub Finer : Format → ℕ → Float
Finer f n = round f false (2 * whole_root n + sticky n (whole_root n)) (2 ^ suc (suc (low f)))

four_pow : (w : ℕ) → 4 ^ w ≡ 2 ^ (w + w)
four_pow zero = refl
four_pow (suc w) = pow-suc 4 w ∙ ap (λ (x : ℕ). x * 4) (four_pow w) ∙ pow_sum (w + w) 2 (suc w + suc w) (omega arith)

units_of : (l m u d a : ℕ) → 0 < d → m * u * 2 ^ l ≡ a * d → m * u * 4 ^ suc l / d ≡ a * 2 ^ suc (suc l)
units_of l m u d a D h =
    ap (λ (x : ℕ). m * u * x / d) (four_pow (suc l) ∙ sym (pow_sum l (suc (suc l)) (suc l + suc l) (omega arith)))
    ∙ ap (λ (x : ℕ). x / d) (sym (mul_assoc (m * u) (2 ^ l) (2 ^ suc (suc l))) ∙ ap (λ (x : ℕ). x * 2 ^ suc (suc l)) h ∙ mul_right_comm a d (2 ^ suc (suc l)))
    ∙ mul-div_cancel (a * 2 ^ suc (suc l)) D

pub root_value : (f : Format) (v : Float) (a : ℕ) → 0 < a → HasValue v false a (2 ^ low f) → root f v ≡ Finer f (a * 2 ^ suc (suc (low f)))
unfolding root
root_value f nan a A h = absurd h
root_value f (inf t) a A h = absurd h
root_value f (fin true zero e) a A h = absurd (true≢false h.0)
root_value f (fin false zero e) a A h = absurd (nothing (mul-pos A (down_pos e)) (sym h.1 ∙ zeros))
  where
    zeros : 0 * up e * 2 ^ low f ≡ 0
    zeros = ap (λ (x : ℕ). x * 2 ^ low f) (zero-mul (up e)) ∙ zero-mul (2 ^ low f)

    nothing : {x : ℕ} → 0 < x → x ≡ 0 → ⊥
    nothing p q = omega arith
root_value f (fin true (suc m) e) a A h = absurd (true≢false h.0)
root_value f (fin false (suc m) e) a A h = ap (Finer f) (units_of (low f) (suc m) (up e) (down e) a (down_pos e) h.1)

-- ---- R * h + c, a c below h, rounded to a multiple of 2 * h, where it is no tie
pub closest_half : (R h c : ℕ) → c < h → (R % 2 ≡ 1 → 0 < c) → closest (R * h + c) (2 * h) ≡ (R + 1) / 2
closest_half R h c l g = go (R % 2) refl
  where
    even : (x : ℕ) → x % 2 ≡ 0 → x ≡ x / 2 * 2
    even x e = omega arith

    odd : (x : ℕ) → x % 2 ≡ 1 → x ≡ x / 2 * 2 + 1
    odd x e = omega arith

    at : (q r : ℕ) → R * h + c ≡ q * (2 * h) + r → r < 2 * h → closest (R * h + c) (2 * h) ≡ nearest q (compare (r * 2) (2 * h))
    at q r e s = ap (λ (x : ℕ). closest x (2 * h)) e ∙ ap (λ (x : ℕ). nearest x (compare ((q * (2 * h) + r) % (2 * h) * 2) (2 * h))) (digits_div q s)
        ∙ ap (λ (x : ℕ). nearest q (compare (x * 2) (2 * h))) (digits_mod q s)

    go : (b : ℕ) → R % 2 ≡ b → closest (R * h + c) (2 * h) ≡ (R + 1) / 2
    go zero e =
        at (R / 2) c (ap (λ (x : ℕ). x * h + c) (even R e) ∙ ap (λ (x : ℕ). x + c) (mul_assoc (R / 2) 2 h)) (omega arith)
        ∙ nearest_lt (R / 2) (c * 2) (2 * h) (omega arith)
        ∙ same R e
      where
        same : (x : ℕ) → x % 2 ≡ 0 → x / 2 ≡ (x + 1) / 2
        same x p = omega arith
    go (suc b) e =
        let o : R % 2 ≡ 1 = omega arith in
        let p : 0 < c = g o in
        at (R / 2) (h + c) (ap (λ (x : ℕ). x * h + c) (odd R o) ∙ ap (λ (x : ℕ). x + c) (add-mul (R / 2 * 2) 1 h ∙ ap (λ (x : ℕ). x + 1 * h) (mul_assoc (R / 2) 2 h))
        ∙ shuffle (R / 2 * (2 * h))) (omega arith)
        ∙ nearest_gt (R / 2) ((h + c) * 2) (2 * h) (omega arith)
        ∙ next R o
      where
        shuffle : (x : ℕ) → x + 1 * h + c ≡ x + (h + c)
        shuffle x = omega arith

        next : (x : ℕ) → x % 2 ≡ 1 → suc (x / 2) ≡ (x + 1) / 2
        next x p = omega arith

-- ---- the root of N * 4 ^ j, from the root R of N, which has one digit more than the format keeps

sticky_le : (n r : ℕ) → sticky n r ≤ 1
sticky_le n r = go (eqb (r * r) n)
  where
    go : (b : Bool) → cond b 0 1 ≤ 1
    go true = lit≤ tt
    go false = lit≤ tt

sticky_zero : (n r : ℕ) → sticky n r ≡ 0 → r * r ≡ n
sticky_zero n r = go (eqb (r * r) n) (eqb→eq (r * r) n)
  where
    go : (b : Bool) → (T b → r * r ≡ n) → ◌≡◌ {A = ℕ} (cond b 0 1) 0 → r * r ≡ n
    go true h e = h tt
    go false h e = absurd (one e)
      where
        one : ◌≡◌ {A = ℕ} 1 0 → ⊥
        one p = omega arith

module _ (N R w : ℕ) (E : N % 2 ≡ 0) (W : 0 < w) (h : IsRoot N R) where
  abbrev n : ℕ
  n = N * (w * w)

  abbrev r : ℕ
  r = whole_root n

  -- what is below R's last digit, in halves of the last place of r
  abbrev c : ℕ
  c = 2 * (r % w) + sticky n r

  cut : r / w ≡ R
  cut = unique N (r / w) R (root_cut N r w W (whole_root_is n)) h

  split : r ≡ R * w + r % w
  split = sym (div-add-mod' r w) ∙ ap (λ (x : ℕ). x * w + r % w) cut

  num_is : 2 * r + sticky n r ≡ R * (2 * w) + c
  num_is = ap (λ (x : ℕ). 2 * x + sticky n r) split ∙ spread (R * w) (r % w) (sticky n r) (R * (2 * w)) (mul_left_comm R 2 w)
    where
      spread : (a t s b : ℕ) → b ≡ 2 * a → 2 * (a + t) + s ≡ b + (2 * t + s)
      spread a t s b e = omega arith

  c_lt : c < 2 * w
  c_lt = less (r % w) (sticky n r) w (mod-lt r W) (sticky_le n r)
    where
      less : (t s w : ℕ) → t < w → s ≤ 1 → 2 * t + s < 2 * w
      less t s w p q = omega arith

  no_tie : R % 2 ≡ 1 → 0 < c
  no_tie o = elim (eq-zero-or-pos c) [
    | inl z ↦
        let t : r % w ≡ 0 = none (r % w) (sticky n r) z in
        let s : r * r ≡ n = sticky_zero n r (rest (r % w) (sticky n r) z) in
        let q : r ≡ R * w = split ∙ ap (λ (x : ℕ). R * w + x) t ∙ add-zero (R * w) in
        absurd (odd_square R N o E (eq_of_mul-eq-mul_right (w * w) (mul-pos W W) (R * R) N (sym (mul-mul-mul_comm R w R w) ∙ ap (λ (x : ℕ). x * x) (sym q) ∙ s)))
    | inr p ↦ p
  ]
    where
      none : (t s : ℕ) → 2 * t + s ≡ 0 → t ≡ 0
      none t s e = omega arith

      rest : (t s : ℕ) → 2 * t + s ≡ 0 → s ≡ 0
      rest t s e = omega arith

  kept_is : closest (2 * r + sticky n r) (2 * (2 * w)) ≡ (R + 1) / 2
  kept_is = ap (λ (x : ℕ). closest x (2 * (2 * w))) num_is ∙ closest_half R (2 * w) c c_lt no_tie

  num_ge : R * (2 * w) ≤ 2 * r + sticky n r
  num_ge = le_trans (le-add_right (R * (2 * w)) c) (le_of_eq (sym num_is))

  num_lt : 2 * r + sticky n r < suc R * (2 * w)
  num_lt = lt_of_le_of_lt (le_of_eq num_is) (lt_of_lt_of_le (more (R * (2 * w)) c (2 * w) c_lt) (le_of_eq (sym (suc-mul R (2 * w)))))
    where
      more : (a x y : ℕ) → x < y → a + x < a + y
      more a x y l = omega arith

four : (j : ℕ) → 2 ^ suc (suc j) ≡ 2 * (2 * 2 ^ j)
four j = pow-succ' 2 (suc j) ∙ ap (λ (x : ℕ). 2 * x) (pow-succ' 2 j)

-- what `round` drops and keeps there
abbrev pub Num : ℕ → ℕ
Num n = 2 * whole_root n + sticky n (whole_root n)

finer_parts : (f : Format) (N R j : ℕ) → N % 2 ≡ 0 → IsRoot N R → 2 ^ prec f ≤ R → R < 2 ^ suc (prec f)
    → (drop (prec f) (Num (N * (2 ^ j * 2 ^ j)) * 2 ^ low f) (2 ^ suc (suc (low f))) ≡ j) × (closest (Num (N * (2 ^ j * 2 ^ j)) * 2 ^ low f) (2 ^ suc (suc (low f)) * 2 ^ j) ≡ (R + 1) / 2)
finer_parts f N R j E h lo hi =
    let w = 2 ^ j in
    let W : 0 < w = pow_pos j in
    let p = prec f in
    let l = low f in
    let x = Num (N * (w * w)) in
    let L : 2 ^ suc (p + j) ≤ x =
    le_trans (le_of_eq (pow-succ' 2 (p + j) ∙ ap (λ (y : ℕ). 2 * y) (pow-add 2 p j) ∙ mul_left_comm 2 (2 ^ p) w)) (le_trans (mul-le-mul_right (2 * w) lo) (num_ge N R w E W h)) in
    let H : x < 2 ^ suc (suc (p + j)) =
    lt_of_lt_of_le (num_lt N R w E W h)
    (le_trans (mul-le-mul_right (2 * w) hi) (le_of_eq (ap (λ (y : ℕ). 2 ^ suc p * y) (sym (pow-succ' 2 j)) ∙ pow_sum (suc p) (suc j) (suc (suc (p + j))) (omega arith)))) in (
      ap (λ (y : ℕ). drop y (x * 2 ^ l) (2 ^ suc (suc l))) (sym (back p (two f))) ∙ drop_at (p - 1) x l (suc (suc l)) j (suc (p + j)) L H (place p l j (two f)),
      kept_at x l (suc (suc l)) j (suc (suc j)) (omega arith) ∙ ap (λ (y : ℕ). closest x y) (four j) ∙ kept_is N R w E W h,
    )
  where
    back : (p : ℕ) → 2 ≤ p → suc (p - 1) ≡ p
    back p h = omega arith

    place : (p l j : ℕ) → 2 ≤ p → l + suc (p + j) ≡ suc (suc l) + (p - 1 + j)
    place p l j h = omega arith

finer_bits : (f : Format) (N R j : ℕ) → N % 2 ≡ 0 → IsRoot N R → 2 ^ prec f ≤ R → R < 2 ^ suc (prec f)
    → to_bits f (Finer f (N * (2 ^ j * 2 ^ j))) ≡ min (j * hid f + (R + 1) / 2) (ones f * hid f)
finer_bits f N R j E h lo hi =
    let p = prec f in
    let n = Num (N * (2 ^ j * 2 ^ j)) * 2 ^ low f in
    let den = 2 ^ suc (suc (low f)) in
    let d = finer_parts f N R j E h lo hi in
    round_bits f false (Num (N * (2 ^ j * 2 ^ j))) den
    ∙ zero-add (min (drop p n den * hid f + kept p n den) (ones f * hid f))
    ∙ ap (λ (y : ℕ). min (y * hid f + closest n (den * 2 ^ y)) (ones f * hid f)) d.0
    ∙ ap (λ (y : ℕ). min (j * hid f + y) (ones f * hid f)) d.1

-- the value, where it does not overflow
pub finer_value : (f : Format) (N R j : ℕ) → N % 2 ≡ 0 → IsRoot N R → 2 ^ prec f ≤ R → R < 2 ^ suc (prec f) → (R + 1) / 2 * 2 ^ j < overflow f
    → HasValue (Finer f (N * (2 ^ j * 2 ^ j))) false ((R + 1) / 2 * 2 ^ j) (2 ^ low f)
finer_value f N R j E h lo hi o =
    let p = prec f in
    let x = Num (N * (2 ^ j * 2 ^ j)) in
    let n = x * 2 ^ low f in
    let den = 2 ^ suc (suc (low f)) in
    let d = finer_parts f N R j E h lo hi in
    let g : grid f x den ≡ (R + 1) / 2 * 2 ^ j = ap (λ (y : ℕ). closest n (den * 2 ^ y) * 2 ^ y) d.0 ∙ ap (λ (y : ℕ). y * 2 ^ j) d.1 in
    subst (λ (y : ℕ). HasValue (Finer f (N * (2 ^ j * 2 ^ j))) false y (2 ^ low f)) g (round_val f x den (subst (λ (y : ℕ). y < overflow f) (sym g) o))

-- ---- and of a value of a units, which is m * 2 ^ (prec + 1 + g) quarters of 2 ^ -low of a unit, for an m of prec digits

-- the number that the root is taken of
abbrev pub Under : ℕ → ℕ → ℕ → ℕ
Under p m g = m * 2 ^ (g % 2) * 2 ^ (p + 1)

pub under_scale : (p m g : ℕ) → m * 2 ^ (p + 1 + g) ≡ Under p m g * (2 ^ (g / 2) * 2 ^ (g / 2))
under_scale p m g =
    ap (λ (x : ℕ). m * x) (sym (pow_sum (g % 2) (p + 1 + (g / 2 + g / 2)) (p + 1 + g) (parts g p)))
    ∙ sym (mul_assoc m (2 ^ (g % 2)) (2 ^ (p + 1 + (g / 2 + g / 2))))
    ∙ ap (λ (x : ℕ). m * 2 ^ (g % 2) * x) (pow-add 2 (p + 1) (g / 2 + g / 2) ∙ ap (λ (x : ℕ). 2 ^ (p + 1) * x) (pow-add 2 (g / 2) (g / 2)))
    ∙ sym (mul_assoc (m * 2 ^ (g % 2)) (2 ^ (p + 1)) (2 ^ (g / 2) * 2 ^ (g / 2)))
  where
    parts : (g p : ℕ) → g % 2 + (p + 1 + (g / 2 + g / 2)) ≡ p + 1 + g
    parts g p = omega arith

pub under_even : (p m g : ℕ) → Under p m g % 2 ≡ 0
under_even p m g =
    ap (λ (x : ℕ). x % 2) (ap (λ (x : ℕ). m * 2 ^ (g % 2) * x) (pow-add 2 p 1) ∙ sym (mul_assoc (m * 2 ^ (g % 2)) (2 ^ p) 2))
    ∙ mul-mod_left (m * 2 ^ (g % 2) * 2 ^ p) 2

under_ge : (p m g : ℕ) → 1 ≤ p → 2 ^ (p - 1) ≤ m → 2 ^ p * 2 ^ p ≤ Under p m g
under_ge p m g P h =
    le_trans (le_of_eq (pow_sum p p (p - 1 + (p + 1)) (omega arith) ∙ pow-add 2 (p - 1) (p + 1)))
    (mul-le-mul_right (2 ^ (p + 1)) (le_trans h (le_trans (le_of_eq (sym (mul-one m))) (mul-le-mul_left m (pow_pos (g % 2))))))

pub under_lt : (p m g : ℕ) → m < 2 ^ p → m * 2 ^ (g % 2) < 2 ^ (p + 1)
under_lt p m g h = lt_of_lt_of_le (shl_lt p (g % 2) h) (pow_mono (last p g))
  where
    last : (p g : ℕ) → p + g % 2 ≤ p + 1
    last p g = omega arith

-- `m << (g & 1)` loses nothing
pub doubled : (m g p : ℕ) → m < 2 ^ p → p ≤ 53 → m * 2 ^ bit_and g 1 % 2 ^ 64 ≡ m * 2 ^ (g % 2)
doubled m g p h k =
    ap (λ (x : ℕ). m * 2 ^ x % 2 ^ 64) (and_mask g 1) ∙ mod-eq_of_lt (lt_of_lt_of_le (under_lt p m g h) (pow_mono {i = p + 1} {j = 64} (omega arith)))

root_lt : (N R B : ℕ) → N < B * B → R * R ≤ N → R < B
root_lt N R B h k = lt_of_not-le (λ (g : B ≤ R). lt_irrefl N (lt_of_lt_of_le h (le_trans (mul-le-mul g g) k)))

pub under_root_lt : (p m g : ℕ) → m < 2 ^ p → whole_root (Under p m g) < 2 ^ (p + 1)
under_root_lt p m g hi = root_lt (Under p m g) (whole_root (Under p m g)) (2 ^ (p + 1)) (mul-lt-mul_of_pos_right (under_lt p m g hi) (pow_pos (p + 1))) (whole_root_is (Under p m g)).0

-- the root has one digit more than the format keeps
pub under_root : (p m g : ℕ) → 1 ≤ p → 2 ^ (p - 1) ≤ m → m < 2 ^ p → (2 ^ p ≤ whole_root (Under p m g)) × (whole_root (Under p m g) < 2 ^ (p + 1))
under_root p m g P lo hi =
    let N = Under p m g in
    let i = whole_root_is N in (
      root_le N (2 ^ p) (whole_root N) (under_ge p m g P lo) i.1,
      under_root_lt p m g hi,
    )

within : (k h q w o : ℕ) → w ≡ 2 * h → q ≤ w → k * h + 2 * h ≤ o → k * h + q ≤ o
within k h q w o e l g = omega arith

pub root_bits_lem : (f : Format) (v : Float) (a m g : ℕ) → 0 < a → HasValue v false a (2 ^ low f) → a * 2 ^ suc (suc (low f)) ≡ m * 2 ^ (prec f + 1 + g) → 2 ^ (prec f - 1) ≤ m → m < 2 ^ prec f
    → g / 2 + 2 ≤ ones f → to_bits f (root f v) ≡ g / 2 * hid f + (whole_root (Under (prec f) m g) + 1) / 2
root_bits_lem f v a m g A h e lo hi o =
    let p = prec f in
    let N = Under p m g in
    let R = whole_root N in
    let b = under_root p m g (le_trans (lit≤ tt) (two f)) lo hi in
    let hi' : R < 2 ^ suc p = subst (λ (x : ℕ). R < 2 ^ x) (add-one p) b.1 in
    ap (to_bits f) (root_value f v a A h ∙ ap (Finer f) (e ∙ under_scale p m g))
    ∙ finer_bits f N R (g / 2) (under_even p m g) (whole_root_is N) b.0 hi'
    ∙ min_left (g / 2 * hid f + (R + 1) / 2) (ones f * hid f)
    (within (g / 2) (hid f) ((R + 1) / 2) (2 ^ p) (ones f * hid f) (twice_hid p (two f)) (half R (2 ^ p) (subst (λ (x : ℕ). R < x) (pow-succ' 2 p) hi'))
    (le_trans (le_of_eq (sym (add-mul (g / 2) 2 (hid f)))) (mul-le-mul_right (hid f) o)))
  where
    half : (x y : ℕ) → x < 2 * y → (x + 1) / 2 ≤ y
    half x y l = omega arith

    min_left : (x y : ℕ) → x ≤ y → min x y ≡ x
    min_left x y l = omega arith

-- ---- by the fields

abbrev pub Answer : ℕ → ℕ → ℕ → ℕ
Answer p m g = g / 2 * 2 ^ (p - 1) + (whole_root (Under p m g) + 1) / 2

pub emax_ge : (f : Format) → suc (prec f) ≤ emax f
emax_ge binary32 = lit≤ tt
emax_ge binary64 = lit≤ tt

pub fields_zero : (f : Format) (s : Bool) (t : ℕ) → of_fields f s 0 t ≡ odd (prec f) s t 0 (low f)
unfolding of_fields
fields_zero f s t = refl

pub fields_suc : (f : Format) (s : Bool) (y t : ℕ) → suc y < ones f → of_fields f s (suc y) t ≡ odd (prec f) s (hid f + t) y (low f)
unfolding of_fields
fields_suc f s y t h = cond_no (eqb (suc y) (ones f)) (cond (eqb t 0) (inf s) nan) (odd (prec f) s (hid f + t) y (low f))
    (not_T (eqb (suc y) (ones f)) (λ (u : T (eqb (suc y) (ones f))). differ (suc y) (ones f) h (eqb→eq (suc y) (ones f) u)))
  where
    differ : (a b : ℕ) → a < b → a ≡ b → ⊥
    differ a b l e = omega arith

-- the leading digit of a value below the normal ones, brought to its place by z
pub root_low : (f : Format) (t z : ℕ) → 0 < t → 2 ^ (prec f - 1) ≤ t * 2 ^ z → t * 2 ^ z < 2 ^ prec f → z ≤ emax f - 1
    → to_bits f (root f (of_fields f false 0 t)) ≡ Answer (prec f) (t * 2 ^ z) (emax f - 1 - z)
root_low f t z A lo hi l =
    let g = emax f - 1 - z in
    ap (λ (v : Float). to_bits f (root f v)) (fields_zero f false t)
    ∙ root_bits_lem f (odd (prec f) false t 0 (low f)) (t * 2 ^ 0) (t * 2 ^ z) g (mul-pos A (pow_pos 0)) (odd_sign (prec f) false t 0 (low f))
    (ap (λ (x : ℕ). x * 2 ^ suc (suc (low f))) (mul-one t) ∙ sym (mul_assoc t (2 ^ z) (2 ^ (prec f + 1 + g))
    ∙ ap (λ (x : ℕ). t * x) (pow_sum z (prec f + 1 + g) (suc (suc (low f))) (place (prec f) (emax f) z (two f) l (le_of_lt (emax_ge f))))))
    lo hi (room (emax f) z (le_trans (two f) (le_of_lt (emax_ge f))))
  where
    place : (p E z : ℕ) → 2 ≤ p → z ≤ E - 1 → p ≤ E → z + (p + 1 + (E - 1 - z)) ≡ suc (suc (E + p - 2))
    place p E z P h k = omega arith

    room : (E z : ℕ) → 2 ≤ E → (E - 1 - z) / 2 + 2 ≤ 2 * E + 1
    room E z k = omega arith

pub root_high : (f : Format) (F t : ℕ) → 1 ≤ F → F < ones f → t < hid f → to_bits f (root f (of_fields f false F t)) ≡ Answer (prec f) (hid f + t) (F + (emax f - 2))
root_high f zero t P H T = absurd (none P)
  where
    none : 1 ≤ 0 → ⊥
    none h = omega arith
root_high f (suc y) t P H T =
    let g = suc y + (emax f - 2) in
    let m = hid f + t in
    ap (λ (v : Float). to_bits f (root f v)) (fields_suc f false y t H)
    ∙ root_bits_lem f (odd (prec f) false m y (low f)) (m * 2 ^ y) m g (mul-pos (lt_of_lt_of_le (pow_pos (prec f - 1)) (le-add_right (hid f) t)) (pow_pos y)) (odd_sign (prec f) false m y (low f))
    (mul_assoc m (2 ^ y) (2 ^ suc (suc (low f))) ∙ ap (λ (x : ℕ). m * x) (pow_sum y (suc (suc (low f))) (prec f + 1 + g) (place (prec f) (emax f) y (two f) (le_of_lt (emax_ge f)))))
    (le-add_right (hid f) t) (lead (hid f) t (2 ^ prec f) (twice_hid (prec f) (two f)) T) (room (emax f) y H (le_trans (two f) (le_of_lt (emax_ge f))))
  where
    place : (p E y : ℕ) → 2 ≤ p → p ≤ E → y + suc (suc (E + p - 2)) ≡ p + 1 + (suc y + (E - 2))
    place p E y P k = omega arith

    lead : (h t w : ℕ) → w ≡ 2 * h → t < h → h + t < w
    lead h t w e l = omega arith

    room : (E y : ℕ) → suc y < 2 * E + 1 → 2 ≤ E → (suc y + (E - 2)) / 2 + 2 ≤ 2 * E + 1
    room E y h k = omega arith

-- ---- the same by the numbers of the format, as the program has them: p digits, the largest exponent e + 2

pub low_at : (f : Format) (p e t z : ℕ) → prec f ≡ p → emax f ≡ e + 2 → 0 < t → 2 ^ (p - 1) ≤ t * 2 ^ z → t * 2 ^ z < 2 ^ p → z ≤ e + 1
    → to_bits f (root f (of_fields f false 0 t)) ≡ Answer p (t * 2 ^ z) (e + 1 - z)
low_at f p e t z P E A lo hi l =
    root_low f t z A (subst (λ (x : ℕ). 2 ^ (x - 1) ≤ t * 2 ^ z) (sym P) lo) (subst (λ (x : ℕ). t * 2 ^ z < 2 ^ x) (sym P) hi) (subst (λ (x : ℕ). z ≤ x - 1) (sym E) (omega arith))
    ∙ ap (λ (x : ℕ). Answer x (t * 2 ^ z) (emax f - 1 - z)) P
    ∙ ap (λ (x : ℕ). Answer p (t * 2 ^ z) x) (ap (λ (x : ℕ). x - 1 - z) E ∙ same e z)
  where
    same : (e z : ℕ) → e + 2 - 1 - z ≡ e + 1 - z
    same e z = omega arith

pub high_at : (f : Format) (p e F t : ℕ) → prec f ≡ p → emax f ≡ e + 2 → 1 ≤ F → F ≤ 2 * (e + 2) → t < 2 ^ (p - 1)
    → to_bits f (root f (of_fields f false F t)) ≡ Answer p (2 ^ (p - 1) + t) (F + e)
high_at f p e F t P E A h l =
    root_high f F t A (subst (λ (x : ℕ). F < 2 * x + 1) (sym E) (omega arith)) (subst (λ (x : ℕ). t < 2 ^ (x - 1)) (sym P) l)
    ∙ ap (λ (x : ℕ). Answer x (2 ^ (x - 1) + t) (F + (emax f - 2))) P
    ∙ ap (λ (x : ℕ). Answer p (2 ^ (p - 1) + t) (F + x)) (ap (λ (x : ℕ). x - 2) E ∙ same e)
  where
    same : (e : ℕ) → e + 2 - 2 ≡ e
    same e = omega arith

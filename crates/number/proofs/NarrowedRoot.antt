-- `narrowedRoot`, by the fields of the number that the root is taken of, where the answer is a normal f32: as a bit pattern. Assumes nothing.
use mathlib.Core.Path.{◌≡◌, sym, ap, ◌∙◌, subst}
use Prim.Native.Nat.{ℕ, zero, suc, ◌+◌, ◌-◌, ◌*◌, ◌/◌, ◌%◌, ◌^◌, ◌≤◌, ◌<◌}
use native.Mathlib.Nat.{lt_of_lt_of_le, lt_of_not-le, mod-lt, mul_assoc, mul-le-mul, mul-pos}
use native.Mathlib.Omega.{arith}
use mathlib.Core.Bool.{false}
use lib.Dec.{lit<, lit≤}
use lib.Pow.{pow_mono, pow_pos, shl_lt}
use lib.Ieee.{Float, binary32, binary64, odd, of_fields, to_bits}
use lib.Ieee.Exact.{HasValue, odd_sign}
use lib.Ieee.Nearest.{closest}
use Rattle.number.specs.Number.{root, narrowed_root, whole_root}
use Rattle.number.proofs.NarrowBits.{Beside, value_high, closest_le}
use Rattle.number.proofs.RootBits.{Finer, Under, fields_suc, finer_value, root_value, under_even, under_root, under_scale}
use Rattle.number.proofs.Scaled.{pow_sum}
use Rattle.number.proofs.WholeRoot.{IsRoot, whole_root_is}

-- the number that the root is taken of, without its last 54 digits, which are 0
pub under_room : (m g : ℕ) → m < 2 ^ 53 → m * 2 ^ (g % 2) + 1 < 2 ^ 54
under_room m g h = go (g % 2) (mod-lt g (lit< tt))
  where
    go : (b : ℕ) → b < 2 → m * 2 ^ b + 1 < 2 ^ 54
    go zero l = omega arith
    go (suc zero) l = omega arith
    go (suc (suc b)) l = absurd (none l)
      where
        none : suc (suc b) < 2 → ⊥
        none p = omega arith

-- rounded to 53 digits, its root still has 53
no_carry : (M R : ℕ) → M + 1 < 2 ^ 54 → IsRoot (M * 2 ^ 54) R → R + 1 < 2 ^ 54
no_carry M R h I = below R (lt_of_not-le (λ (g : 2 ^ 54 - 1 ≤ R). clash g))
  where
    below : (x : ℕ) → x < 2 ^ 54 - 1 → x + 1 < 2 ^ 54
    below x l = omega arith

    clash : 2 ^ 54 - 1 ≤ R → ⊥
    clash g =
        let a : (2 ^ 54 - 1) * (2 ^ 54 - 1) ≤ R * R = mul-le-mul g g in
        let b = I.0 in
        omega arith

-- the exponent's field and what is kept of the root, side by side
abbrev pub Bits : ℕ → ℕ → ℕ
Bits m g = (g / 2 - 896) * 2 ^ 23 + closest ((whole_root (Under 53 m g) + 1) / 2) (2 ^ 29)

units_bits : (m y : ℕ) → 2 ^ 52 ≤ m → m < 2 ^ 53 → 770 ≤ y → y ≤ 1277 → to_bits binary32 (narrowed_root (odd 53 false m y 1074)) ≡ Bits m (suc y + 1021)
unfolding narrowed_root
units_bits m y lo hi L U =
    let g = suc y + 1021 in
    let j = g / 2 in
    let N = Under 53 m g in
    let R = whole_root N in
    let H = (R + 1) / 2 in
    let v = odd 53 false m y 1074 in
    let b = under_root 53 m g (lit≤ tt) lo hi in
    let c : R + 1 < 2 ^ 54 = no_carry (m * 2 ^ (g % 2)) R (under_room m g hi) (whole_root_is N) in
    let from : 2 ^ 52 ≤ H = omega arith in
    let below : H < 2 ^ 53 = omega arith in
    let is : root binary64 v ≡ Finer binary64 (N * (2 ^ j * 2 ^ j)) =
    root_value binary64 v (m * 2 ^ y) (mul-pos (lt_of_lt_of_le (pow_pos 52) lo) (pow_pos y)) (odd_sign 53 false m y 1074)
    ∙ ap (Finer binary64) (mul_assoc m (2 ^ y) (2 ^ 1076) ∙ ap (λ (x : ℕ). m * x) (pow_sum y 1076 (53 + 1 + g) (omega arith)) ∙ under_scale 53 m g) in
    let value : HasValue (root binary64 v) false (H * 2 ^ j) (2 ^ 1074) =
    subst (λ (x : Float). HasValue x false (H * 2 ^ j) (2 ^ 1074)) (sym is)
    (finer_value binary64 N R j (under_even 53 m g) (whole_root_is N) b.0 b.1 (lt_of_lt_of_le (shl_lt 53 j below) (pow_mono {i = 53 + j} {j = 2098} (omega arith)))) in
    value_high (root binary64 v) false H j value from below (omega arith) ∙ whole (j - 896) (closest H (2 ^ 29)) (omega arith) (closest_le H 29 24 below)
  where
    whole : (k q : ℕ) → k ≤ 253 → q ≤ 2 ^ 24 → 0 + Beside k q ≡ k * 2 ^ 23 + q
    whole k q h l = omega arith

pub narrowed_bits : (F t : ℕ) → 771 ≤ F → F ≤ 1278 → t < 2 ^ 52 → to_bits binary32 (narrowed_root (of_fields binary64 false F t)) ≡ Bits (2 ^ 52 + t) (F + 1021)
narrowed_bits zero t L U h = absurd (none L)
  where
    none : 771 ≤ 0 → ⊥
    none p = omega arith
narrowed_bits (suc y) t L U h =
    ap (λ (v : Float). to_bits binary32 (narrowed_root v)) (fields_suc binary64 false y t (omega arith)) ∙ units_bits (2 ^ 52 + t) y (omega arith) (omega arith) (omega arith) (omega arith)

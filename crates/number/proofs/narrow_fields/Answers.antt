-- `number::narrow_fields` meets its contract: each answer is a law of `proofs/NarrowBits.antt`. Assumes nothing.
use mathlib.Core.Path.{◌≡◌, sym, ap, ◌∙◌, subst}
use Prim.Native.Nat.{ℕ, ◌+◌, ◌-◌, ◌*◌, ◌^◌, ◌≤◌, ◌<◌, min}
use native.Mathlib.Omega.{arith}
use mathlib.Core.Bool.{cond}
use native.Mathlib.Nat.{lt_of_lt_of_le}
use lib.Pow.{pow_mono}
use lib.Bits.{bit_or, or_shifted_r}
use lib.Ieee.Nearest.{closest}
use borrow.Author.Rules.{rules}
use Rattle.number.proofs.NarrowBits.{tiny, low_bits, high_bits, closest_le}
use Rattle.number.proofs.narrow_fields.Goals as goal

-- the leading digit set
lead : (t : ℕ) → t < 2 ^ 52 → bit_or t (2 ^ 52) ≡ 2 ^ 52 + t
lead t h = or_shifted_r 1 52 t h

rounded : (t d r : ℕ) → t < 2 ^ 52 → r ≡ closest (bit_or t (2 ^ 52)) (2 ^ d) → r ≡ closest (2 ^ 52 + t) (2 ^ d)
rounded t d r h e = e ∙ ap (λ (x : ℕ). closest x (2 ^ d)) (lead t h)

below : (t d : ℕ) → t < 2 ^ 52 → 29 ≤ d → closest (2 ^ 52 + t) (2 ^ d) < 2 ^ 31
below t d h l =
    let hi : 2 ^ 52 + t < 2 ^ 53 = omega arith in
    let b = closest_le (2 ^ 52 + t) d 24 (lt_of_lt_of_le hi (pow_mono {i = 53} {j = 24 + d} (omega arith))) in
    omega arith

pub returns-then-field-lt872 : goal.returns-then-field-lt872
returns-then-field-lt872 c = record { value = λ s. tiny s c.args.field c.args.digits (search rules) (search rules); below_sign = search rules }

pub nearest_shr-requires : goal.nearest_shr-requires
nearest_shr-requires c =
    let e = lead c.args.digits (search rules) in
    record { m_bound = omega arith; d_nonzero = omega arith; d_bound = omega arith }

pub returns-then-field-lt897 : goal.returns-then-field-lt897
returns-then-field-lt897 c =
    let F = c.args.field in
    let t = c.args.digits in
    let r = rounded t (926 - F) c.nearest_shr.result (search rules) c.nearest_shr.ensures in record { value = λ s. low_bits s F t (search rules) (search rules) (search rules) ∙ ap (λ (x : ℕ). cond s (2 ^ 31) 0 + x) (sym r); below_sign = subst (λ (x : ℕ). x < 2 ^ 31) (sym r) (below t (926 - F) (search rules) (omega arith)) }

pub nearest_shr-requires-2 : goal.nearest_shr-requires-2
nearest_shr-requires-2 c =
    let e = lead c.args.digits (search rules) in
    record { m_bound = omega arith; d_nonzero = omega arith; d_bound = omega arith }

pub overflow_add-r : goal.overflow_add-r
overflow_add-r c =
    let t = c.args.digits in
    let r = rounded t 29 c.nearest_shr-2.result (search rules) c.nearest_shr-2.ensures in
    let b = below t 29 (search rules) (omega arith) in
    omega arith

pub returns : goal.returns
returns c =
    let F = c.args.field in
    let t = c.args.digits in
    let r = rounded t 29 c.nearest_shr-2.result (search rules) c.nearest_shr-2.ensures in record { value = λ s. high_bits s F t (search rules) (search rules) (search rules) c.requires.no_nan ∙ ap (λ (x : ℕ). cond s (2 ^ 31) 0 + min ((F - 897) * 2 ^ 23 + x) (255 * 2 ^ 23)) (sym r) ∙ ap (λ (x : ℕ). cond s (2 ^ 31) 0 + x) (omega arith); below_sign = omega arith }

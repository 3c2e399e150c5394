-- `number::away_fields` meets its contract: each answer is a law of `proofs/AwayBits.antt`. Assumes nothing.
use mathlib.Core.Path.{◌≡◌, sym, ap₂, ◌∙◌}
use Prim.Native.Nat.{ℕ, ◌+◌, ◌-◌, ◌*◌, ◌/◌, ◌%◌, ◌^◌, ◌≤◌, ◌<◌}
use native.Mathlib.Omega.{arith}
use native.Mathlib.Nat.{one-mul, mod-eq_of_lt, lt_of_le_of_lt}
use mathlib.Core.Bool.{cond}
use lib.Dec.{lit<}
use lib.Pow.{pow_mono, shl_exact}
use lib.Bits.{bit_or, or_shifted_r}
use borrow.Author.Rules.{rules}
use Rattle.number.proofs.AwayBits.{Away, away_le, away_none, away_some}
use Rattle.number.proofs.away_fields.Goals as goal

-- the shifts and the leading digit, as numbers
half : (d : ℕ) → d ≤ 24 → 1 * 2 ^ (d - 1) % 2 ^ 64 ≡ 2 ^ (d - 1)
half d h = shl_exact 1 (d - 1) 64 (lit< tt) (omega arith) ∙ one-mul (2 ^ (d - 1))

half_le : (d : ℕ) → d ≤ 24 → 2 ^ (d - 1) ≤ 2 ^ 23
half_le d h = pow_mono {i = d - 1} {j = 23} (omega arith)

lead : (t : ℕ) → t < 2 ^ 23 → bit_or t (2 ^ 23) ≡ 2 ^ 23 + t
lead t h = or_shifted_r 1 23 t h

digits_are : (t d : ℕ) → t < 2 ^ 23 → 1 ≤ d → d ≤ 24 → (bit_or t (2 ^ 23) + 1 * 2 ^ (d - 1) % 2 ^ 64) / 2 ^ d * 2 ^ d % 2 ^ 64 ≡ Away (2 ^ 23 + t) d
digits_are t d h a b =
    ap₂ (λ (x y : ℕ). (x + y) / 2 ^ d * 2 ^ d % 2 ^ 64) (lead t h) (half d b) ∙ mod-eq_of_lt (lt_of_le_of_lt (away_le (2 ^ 23 + t) d (omega arith) (omega arith) a b) (lit< tt))

field_is : (F : ℕ) → F < 150 → (F - 1) * 2 ^ 23 % 2 ^ 64 ≡ (F - 1) * 2 ^ 23
field_is F h = omega arith

pub returns-then-field-lt126 : goal.returns-then-field-lt126
returns-then-field-lt126 c = record { value = λ s. away_none s c.args.field c.args.digits (search rules) (search rules); below_sign = search rules }

pub overflow_add-result : goal.overflow_add-result
overflow_add-result c =
    let d = 150 - c.args.field in
    omega (arith, lead c.args.digits (search rules), half d (omega arith), half_le d (omega arith))

pub overflow_add-result-2 : goal.overflow_add-result-2
overflow_add-result-2 c =
    let F = c.args.field in
    let t = c.args.digits in
    let a = digits_are t (150 - F) (search rules) (omega arith) (omega arith) in
    let b = away_le (2 ^ 23 + t) (150 - F) (omega arith) (omega arith) (omega arith) (omega arith) in
    omega arith

pub returns : goal.returns
returns c =
    let F = c.args.field in
    let t = c.args.digits in
    let e = field_is F (search rules) in
    let a = digits_are t (150 - F) (search rules) (omega arith) (omega arith) in
    let b = away_le (2 ^ 23 + t) (150 - F) (omega arith) (omega arith) (omega arith) (omega arith) in
    record { value = λ s. away_some s F t (search rules) (search rules) (search rules) ∙ ap₂ (λ (x y : ℕ). cond s (2 ^ 31) 0 + (x + y)) (sym e) (sym a); below_sign = omega arith }

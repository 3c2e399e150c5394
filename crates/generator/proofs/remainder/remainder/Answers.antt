-- `generator::remainder::remainder` meets its contract: NaNs, infinities and zeros by themselves, and all else by the bits. Assumes nothing.
use mathlib.Core.Path.{◌≡◌, sym, ◌∙◌, subst}
use Prim.Native.Nat.{ℕ, ◌+◌, ◌*◌, ◌/◌, ◌%◌, ◌^◌, ◌<◌}
use native.Mathlib.Nat.{lt_of_lt_of_le}
use native.Mathlib.Omega.{arith}
use mathlib.Core.Bool.{cond}
use lib.Dec.{lit≤}
use lib.Bits.{bit_and, bit_or, and_mask}
use lib.Pow.{pow_pos}
use lib.Ieee.{binary32, to_bits, rem}
use lib.Ieee.Bits.{to_bits-lt}
use lib.Ieee.Fits.{rem-fits}
use lib.Ieee.Exact.{HasValue}
use Rattle.laws.proofs.Numbers.{is_nan_lem, no_nan}
use Rattle.number.proofs.Fields.{held, sign_of, joined, joined_lt, written, written_no_nan}
use Rattle.generator.specs.Units.{units}
use Rattle.generator.proofs.Units.{units_pos, units_zero}
use Rattle.generator.proofs.Remains.{rem_of_nan, rem_by_nan, rem_of_infinite, rem_by_infinite, rem_by_zero, no_number, value_of, infinite_of, rem_bits, rem_no_nan}
use Rattle.generator.proofs.remainder.remainder.Goals as goal

pub returns-then-x : goal.returns-then-x
returns-then-x c = rem_of_nan binary32 c.args.x c.args.y (is_nan_lem c.args.x c.if-x.true)

pub returns-then-y : goal.returns-then-y
returns-then-y c = rem_by_nan binary32 c.args.x c.args.y (is_nan_lem c.args.y c.if-y.true)

pub float_to_bits-bits : goal.float_to_bits-bits
float_to_bits-bits c = no_nan c.args.x c.if-x.false

pub float_to_bits-b : goal.float_to_bits-b
float_to_bits-b c = no_nan c.args.y c.if-y.false

pub overflow_cast-bits : goal.overflow_cast-bits
overflow_cast-bits c = record { fits = lt_of_lt_of_le (to_bits-lt binary32 c.args.x (held c.well_formed.0.1)) (lit≤ tt) }

pub overflow_cast-b : goal.overflow_cast-b
overflow_cast-b c = record { fits = lt_of_lt_of_le (to_bits-lt binary32 c.args.y (held c.well_formed.1.0.1)) (lit≤ tt) }

pub returns-then-a-ge-INFINITE : goal.returns-then-a-ge-INFINITE
returns-then-a-ge-INFINITE c =
    let x = c.args.x in
    let e = infinite_of x _ (held c.well_formed.0.1) (no_nan x c.if-x.false) (and_mask (to_bits binary32 x) 31) c.if-a-ge-INFINITE.true in
    no_number _ (rem_of_infinite binary32 x c.args.y _ e)

pub returns-then-b-eq0 : goal.returns-then-b-eq0
returns-then-b-eq0 c =
    let y = c.args.y in
    let b = to_bits binary32 y in
    let m = and_mask b 31 in
    let v = value_of y 0 (held c.well_formed.1.0.1) (sym c.if-b-eq0.true ∙ m) (omega arith) in
    no_number _ (rem_by_zero binary32 c.args.x y (sign_of binary32 b) (2 ^ 149) (pow_pos 149) (subst (λ (a : ℕ). HasValue y (sign_of binary32 b) a (2 ^ 149)) units_zero v))

pub returns-then-b-ge-INFINITE : goal.returns-then-b-ge-INFINITE
returns-then-b-ge-INFINITE c =
    let x = c.args.x in
    let y = c.args.y in
    let v = value_of x _ (held c.well_formed.0.1) (and_mask (to_bits binary32 x) 31) (omega (arith, c.if-a-ge-INFINITE.false)) in
    sym
    (rem_by_infinite binary32 x y _ _ _ _ v (infinite_of y _ (held c.well_formed.1.0.1) (no_nan y c.if-y.false) (and_mask (to_bits binary32 y) 31) c.if-b-ge-INFINITE.true))

-- the values of both
value_x : (c : goal.After-of_magnitudes) → HasValue c.args.x (sign_of binary32 (to_bits binary32 c.args.x)) (units (bit_and (to_bits binary32 c.args.x) 2147483647)) (2 ^ 149)
value_x c = value_of c.args.x _ (held c.well_formed.0.1) (and_mask (to_bits binary32 c.args.x) 31) (omega (arith, c.if-a-ge-INFINITE.false))

value_y : (c : goal.After-of_magnitudes) → HasValue c.args.y (sign_of binary32 (to_bits binary32 c.args.y)) (units (bit_and (to_bits binary32 c.args.y) 2147483647)) (2 ^ 149)
value_y c = value_of c.args.y _ (held c.well_formed.1.0.1) (and_mask (to_bits binary32 c.args.y) 31) (omega (arith, c.if-b-ge-INFINITE.false))

above : (c : goal.After-of_magnitudes) → 0 < units (bit_and (to_bits binary32 c.args.y) 2147483647)
above c = units_pos _ (omega (arith, c.if-b-eq0.false))

small : (c : goal.After-of_magnitudes) → c.of_magnitudes.result < 2 ^ 31
small c = omega (arith, c.of_magnitudes.ensures.finite)

-- the sign and the fields below it, side by side, which are the bits of the answer
pattern : (c : goal.After-of_magnitudes) → bit_or (to_bits binary32 c.args.x / 2 ^ 31 * 2 ^ 31 % 2 ^ 64) c.of_magnitudes.result
    ≡ cond (sign_of binary32 (to_bits binary32 c.args.x)) (2 ^ 31) 0 + c.of_magnitudes.result
pattern c = joined binary32 c.args.x c.of_magnitudes.result (held c.well_formed.0.1) (small c)

made : (c : goal.After-of_magnitudes) → to_bits binary32 (rem binary32 c.args.x c.args.y) ≡ bit_or (to_bits binary32 c.args.x / 2 ^ 31 * 2 ^ 31 % 2 ^ 64) c.of_magnitudes.result
made c =
    rem_bits c.args.x c.args.y _ _ _ _ c.of_magnitudes.result (value_x c) (value_y c) (above c) c.of_magnitudes.ensures.value c.of_magnitudes.ensures.finite ∙ sym (pattern c)

pub overflow_cast-result : goal.overflow_cast-result
overflow_cast-result c = record { fits = joined_lt (sign_of binary32 (to_bits binary32 c.args.x)) (pattern c) (small c) }

pub float_from_bits-result : goal.float_from_bits-result
float_from_bits-result c =
    written_no_nan binary32 (rem binary32 c.args.x c.args.y) _ (rem-fits binary32 c.args.x c.args.y (held c.well_formed.0.1))
    (rem_no_nan c.args.x c.args.y _ _ _ _ (value_x c) (value_y c) (above c)) (made c)

pub returns : goal.returns
returns c = written binary32 (rem binary32 c.args.x c.args.y) _ (rem-fits binary32 c.args.x c.args.y (held c.well_formed.0.1)) (made c)

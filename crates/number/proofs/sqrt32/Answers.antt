-- `number::sqrt32` meets its contract: each answer is a case of `proofs/RootCases.antt`. Assumes nothing.
use mathlib.Core.Path.{◌≡◌, refl, ◌∙◌, subst}
use Prim.Native.Nat.{ℕ, ◌^◌, ◌<◌}
use native.Mathlib.Omega.{arith}
use native.Mathlib.Nat.{lt_of_lt_of_le}
use lib.Dec.{lit≤}
use lib.Ieee.Bits.{to_bits-lt}
use lib.Ieee.{binary32, to_bits}
use Rattle.number.specs.Number.{root}
use Rattle.number.proofs.Fields.{held, field_lt, digits_lt, written, written_no_nan}
use Rattle.laws.proofs.Numbers.{is_nan_lem, no_nan}
use Rattle.number.proofs.RootCases.{zero_over_zero, root_nan, zero_case, negative_case, inf_case, rest_case, root_fits, root_no_nan}
use Rattle.number.proofs.sqrt32.Goals as goal

-- the pattern that is made is the bits of the answer
made : (c : goal.After-root_fields) → to_bits binary32 (root binary32 c.args.x) ≡ c.root_fields.result
made c =
    rest_case binary32 c.args.x c.root_fields.result (held c.well_formed.0.1) c.if-bits-ge2147483648.false (c.root_fields.ensures binary32 refl refl)

pub returns-then-x : goal.returns-then-x
returns-then-x c = zero_over_zero binary32 ∙ root_nan binary32 c.args.x (is_nan_lem c.args.x c.if-x.true)

pub float_to_bits-bits : goal.float_to_bits-bits
float_to_bits-bits c = no_nan c.args.x c.if-x.false

pub overflow_cast-bits : goal.overflow_cast-bits
overflow_cast-bits c = record { fits = lt_of_lt_of_le (to_bits-lt binary32 c.args.x (held c.well_formed.0.1)) (lit≤ tt) }

pub overflow_add-field : goal.overflow_add-field
overflow_add-field c =
    let b = to_bits binary32 c.args.x in
    omega (arith, field_lt binary32 b, digits_lt binary32 b)

pub returns-then-field-digits-eq0 : goal.returns-then-field-digits-eq0
returns-then-field-digits-eq0 c = zero_case binary32 c.args.x (held c.well_formed.0.1) c.if-field-digits-eq0.true

pub returns-then-bits-ge2147483648 : goal.returns-then-bits-ge2147483648
returns-then-bits-ge2147483648 c =
    zero_over_zero binary32 ∙ negative_case binary32 c.args.x (held c.well_formed.0.1) c.if-field-digits-eq0.false c.if-bits-ge2147483648.true

pub returns-then-field-eq255 : goal.returns-then-field-eq255
returns-then-field-eq255 c =
    inf_case binary32 c.args.x (held c.well_formed.0.1) (no_nan c.args.x c.if-x.false) c.if-bits-ge2147483648.false c.if-field-eq255.true

pub root_fields-requires : goal.root_fields-requires
root_fields-requires c =
    let b = to_bits binary32 c.args.x in
    record { not_zero = omega (arith, c.if-field-digits-eq0.false); digits_bound = digits_lt binary32 b; field_bound = omega (arith, field_lt binary32 b, c.if-field-eq255.false); format = (lit≤ tt, lit≤ tt, lit≤ tt, lit≤ tt) }

pub overflow_cast-result : goal.overflow_cast-result
overflow_cast-result c =
    record { fits = subst (λ (x : ℕ). x < 2 ^ 32) (made c) (to_bits-lt binary32 (root binary32 c.args.x) (root_fits binary32 c.args.x (held c.well_formed.0.1))) }

pub float_from_bits-result : goal.float_from_bits-result
float_from_bits-result c =
    let x = c.args.x in
    let h = held c.well_formed.0.1 in
    written_no_nan binary32 (root binary32 x) _ (root_fits binary32 x h) (root_no_nan binary32 x h (no_nan x c.if-x.false) c.if-bits-ge2147483648.false) (made c)

pub returns : goal.returns
returns c =
    written binary32 (root binary32 c.args.x) _ (root_fits binary32 c.args.x (held c.well_formed.0.1)) (made c)

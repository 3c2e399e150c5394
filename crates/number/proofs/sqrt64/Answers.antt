-- `number::sqrt64` meets its contract: each answer is a case of `proofs/RootCases.antt`. Assumes nothing.
use mathlib.Core.Path.{◌≡◌, refl, ◌∙◌}
use native.Mathlib.Omega.{arith}
use lib.Dec.{lit≤}
use lib.Ieee.{binary64, to_bits}
use Rattle.number.specs.Number.{root}
use Rattle.number.proofs.Fields.{held, field_lt, digits_lt, written, written_no_nan}
use Rattle.laws.proofs.Numbers.{is_nan_lem, no_nan}
use Rattle.number.proofs.RootCases.{zero_over_zero, root_nan, zero_case, negative_case, inf_case, rest_case, root_fits, root_no_nan}
use Rattle.number.proofs.sqrt64.Goals as goal

-- the pattern that is made is the bits of the answer
made : (c : goal.After-root_fields) → to_bits binary64 (root binary64 c.args.x) ≡ c.root_fields.result
made c =
    rest_case binary64 c.args.x c.root_fields.result (held c.well_formed.0.1) c.if-bits-ge9223372036854775808.false (c.root_fields.ensures binary64 refl refl)

pub returns-then-x : goal.returns-then-x
returns-then-x c = zero_over_zero binary64 ∙ root_nan binary64 c.args.x (is_nan_lem c.args.x c.if-x.true)

pub float_to_bits-bits : goal.float_to_bits-bits
float_to_bits-bits c = no_nan c.args.x c.if-x.false

pub overflow_add-field : goal.overflow_add-field
overflow_add-field c =
    let b = to_bits binary64 c.args.x in
    omega (arith, field_lt binary64 b, digits_lt binary64 b)

pub returns-then-field-digits-eq0 : goal.returns-then-field-digits-eq0
returns-then-field-digits-eq0 c = zero_case binary64 c.args.x (held c.well_formed.0.1) c.if-field-digits-eq0.true

pub returns-then-bits-ge9223372036854775808 : goal.returns-then-bits-ge9223372036854775808
returns-then-bits-ge9223372036854775808 c =
    zero_over_zero binary64 ∙ negative_case binary64 c.args.x (held c.well_formed.0.1) c.if-field-digits-eq0.false c.if-bits-ge9223372036854775808.true

pub returns-then-field-eq2047 : goal.returns-then-field-eq2047
returns-then-field-eq2047 c =
    inf_case binary64 c.args.x (held c.well_formed.0.1) (no_nan c.args.x c.if-x.false) c.if-bits-ge9223372036854775808.false c.if-field-eq2047.true

pub root_fields-requires : goal.root_fields-requires
root_fields-requires c =
    let b = to_bits binary64 c.args.x in
    record { not_zero = omega (arith, c.if-field-digits-eq0.false); digits_bound = digits_lt binary64 b; field_bound = omega (arith, field_lt binary64 b, c.if-field-eq2047.false); format = (lit≤ tt, lit≤ tt, lit≤ tt, lit≤ tt) }

pub float_from_bits-result : goal.float_from_bits-result
float_from_bits-result c =
    let x = c.args.x in
    let h = held c.well_formed.0.1 in
    written_no_nan binary64 (root binary64 x) _ (root_fits binary64 x h) (root_no_nan binary64 x h (no_nan x c.if-x.false) c.if-bits-ge9223372036854775808.false) (made c)

pub returns : goal.returns
returns c =
    written binary64 (root binary64 c.args.x) _ (root_fits binary64 c.args.x (held c.well_formed.0.1)) (made c)

-- `number::narrow` meets its contract. Assumes nothing.
use mathlib.Core.Path.{◌≡◌, sym, ap, ◌∙◌}
use Prim.Native.Nat.{◌*◌, ◌/◌, ◌%◌, ◌^◌}
use lib.Bits.{bit_or}
use lib.Ieee.{Float, binary32, binary64, to_bits}
use Rattle.number.specs.Number.{narrow}
use Rattle.number.proofs.Fields.{held, sign_of, field_lt, digits_lt, read_fields, no_digits, joined, joined_lt, written, written_no_nan}
use Rattle.laws.proofs.Numbers.{is_nan_lem, no_nan}
use Rattle.number.proofs.NarrowBits.{narrow_fits, narrow_no_nan, of_nan}
use Rattle.number.proofs.narrow.Goals as goal

-- the pattern that is made is the bits of the answer
made : (c : goal.After-narrow_fields-fields) → to_bits binary32 (narrow c.args.x)
    ≡ bit_or (to_bits binary64 c.args.x / 2 ^ 63 * 2 ^ 31 % 2 ^ 64) c.narrow_fields-fields.result
made c =
    let x = c.args.x in
    let b = to_bits binary64 x in
    ap (λ (v : Float). to_bits binary32 (narrow v)) (sym (read_fields binary64 x (held c.well_formed.0.1)))
    ∙ c.narrow_fields-fields.ensures.value (sign_of binary64 b)
    ∙ sym (joined binary64 x c.narrow_fields-fields.result (held c.well_formed.0.1) c.narrow_fields-fields.ensures.below_sign)

pub returns-then-x : goal.returns-then-x
returns-then-x c = of_nan c.args.x (is_nan_lem c.args.x c.if-x.true)

pub float_to_bits-bits : goal.float_to_bits-bits
float_to_bits-bits c = no_nan c.args.x c.if-x.false

pub narrow_fields-fields-requires : goal.narrow_fields-fields-requires
narrow_fields-fields-requires c =
    let x = c.args.x in
    let b = to_bits binary64 x in record { field_bound = field_lt binary64 b; digits_bound = digits_lt binary64 b; no_nan = no_digits binary64 x (held c.well_formed.0.1) (no_nan x c.if-x.false) }

pub overflow_cast-result : goal.overflow_cast-result
overflow_cast-result c =
    let x = c.args.x in
    record {
      fits = joined_lt (sign_of binary64 (to_bits binary64 x)) (joined binary64 x c.narrow_fields-fields.result (held c.well_formed.0.1) c.narrow_fields-fields.ensures.below_sign)
          c.narrow_fields-fields.ensures.below_sign;
    }

pub float_from_bits-result : goal.float_from_bits-result
float_from_bits-result c =
    let x = c.args.x in
    written_no_nan binary32 (narrow x) _ (narrow_fits x) (narrow_no_nan x (no_nan x c.if-x.false)) (made c)

pub returns : goal.returns
returns c = written binary32 (narrow c.args.x) _ (narrow_fits c.args.x) (made c)

-- `number::round32` meets its contract. Assumes nothing.
use mathlib.Core.Path.{◌≡◌, sym, ap, ◌∙◌}
use Prim.Native.Nat.{◌+◌, ◌*◌, ◌/◌, ◌%◌, ◌^◌}
use native.Mathlib.Nat.{lt_of_lt_of_le}
use mathlib.Core.Bool.{cond}
use lib.Dec.{lit≤}
use lib.Bits.{bit_or}
use lib.Ieee.{Float, binary32, to_bits}
use lib.Ieee.Bits.{to_bits-lt}
use Rattle.number.specs.Number.{round_away}
use Rattle.number.proofs.Fields.{held, sign_of, field_of, digits_of, field_lt, digits_lt, read_fields, no_digits, joined, joined_lt, written, written_no_nan}
use Rattle.laws.proofs.Numbers.{is_nan_lem, no_nan}
use Rattle.number.proofs.AwayBits.{away_fits, away_no_nan, away_of_nan, away_whole}
use Rattle.number.proofs.round32.Goals as goal

-- the sign and the fields below it, side by side
pattern : (c : goal.After-away_fields-fields) → bit_or (to_bits binary32 c.args.x / 2 ^ 31 * 2 ^ 31 % 2 ^ 64) c.away_fields-fields.result
    ≡ cond (sign_of binary32 (to_bits binary32 c.args.x)) (2 ^ 31) 0 + c.away_fields-fields.result
pattern c = joined binary32 c.args.x c.away_fields-fields.result (held c.well_formed.0.1) c.away_fields-fields.ensures.below_sign

-- which are the bits of the answer
made : (c : goal.After-away_fields-fields) → to_bits binary32 (round_away binary32 c.args.x)
    ≡ bit_or (to_bits binary32 c.args.x / 2 ^ 31 * 2 ^ 31 % 2 ^ 64) c.away_fields-fields.result
made c =
    ap (λ (v : Float). to_bits binary32 (round_away binary32 v)) (sym (read_fields binary32 c.args.x (held c.well_formed.0.1))) ∙ c.away_fields-fields.ensures.value (sign_of binary32 (to_bits binary32 c.args.x))
    ∙ sym (pattern c)

pub returns-then-x : goal.returns-then-x
returns-then-x c = away_of_nan c.args.x (is_nan_lem c.args.x c.if-x.true)

pub float_to_bits-bits : goal.float_to_bits-bits
float_to_bits-bits c = no_nan c.args.x c.if-x.false

pub overflow_cast-bits : goal.overflow_cast-bits
overflow_cast-bits c = record { fits = lt_of_lt_of_le (to_bits-lt binary32 c.args.x (held c.well_formed.0.1)) (lit≤ tt) }

pub returns-then-field-ge150 : goal.returns-then-field-ge150
returns-then-field-ge150 c =
    let x = c.args.x in
    let b = to_bits binary32 x in
    let e = read_fields binary32 x (held c.well_formed.0.1) in
    sym e
    ∙ away_whole (sign_of binary32 b) (field_of binary32 b) (digits_of binary32 b) c.if-field-ge150.true (field_lt binary32 b) (digits_lt binary32 b)
    (no_digits binary32 x (held c.well_formed.0.1) (no_nan x c.if-x.false))
    ∙ ap (round_away binary32) e

pub away_fields-fields-requires : goal.away_fields-fields-requires
away_fields-fields-requires c = record { field_bound = c.if-field-ge150.false; digits_bound = digits_lt binary32 (to_bits binary32 c.args.x) }

pub overflow_cast-result : goal.overflow_cast-result
overflow_cast-result c = record { fits = joined_lt (sign_of binary32 (to_bits binary32 c.args.x)) (pattern c) c.away_fields-fields.ensures.below_sign }

pub float_from_bits-result : goal.float_from_bits-result
float_from_bits-result c =
    let x = c.args.x in
    written_no_nan binary32 (round_away binary32 x) _ (away_fits x) (away_no_nan x (no_nan x c.if-x.false)) (made c)

pub returns : goal.returns
returns c = written binary32 (round_away binary32 c.args.x) _ (away_fits c.args.x) (made c)

-- `number::sqrt64_narrowed` meets its contract: where the root is a normal f32, by `proofs/NarrowedRoot.antt`, and elsewhere by what the two calls ensure. Assumes nothing.
use mathlib.Core.Path.{◌≡◌, sym, ap, ◌∙◌, subst}
use Prim.Native.Nat.{ℕ, ◌+◌, ◌/◌, ◌^◌, ◌≤◌, ◌<◌}
use native.Mathlib.Omega.{arith}
use native.Mathlib.Nat.{mod-eq_of_lt}
use mathlib.Core.Bool.{false}
use lib.Bits.{bit_or, and_mask, or_shifted_r}
use lib.Dec.{T}
use lib.Ieee.{Float, binary32, binary64, fits, of_fields, to_bits}
use lib.Ieee.Bits.{to_bits-lt}
use Rattle.number.specs.Number.{narrow, root, narrowed_root}
use Rattle.number.proofs.Fields.{held, field_of, digits_of, digits_lt, written, written_no_nan}
use Rattle.laws.proofs.Numbers.{is_nan_lem, no_nan}
use Rattle.number.proofs.NarrowBits.{narrow_fits, narrow_no_nan, of_nan}
use Rattle.number.proofs.NarrowedRoot.{Bits, narrowed_bits}
use Rattle.number.proofs.RootCases.{positive, root_nan, root_no_nan}
use Rattle.number.proofs.sqrt64_narrowed.Goals as goal

-- the leading digit set
lead : (t : ℕ) → t < 2 ^ 52 → bit_or t (2 ^ 52) ≡ 2 ^ 52 + t
lead t h = or_shifted_r 1 52 t h

-- a pattern with an exponent's field in the range has no sign
no_sign : (b : ℕ) → b / 2 ^ 52 ≤ 1278 → b < 2 ^ 63
no_sign b h = omega arith

field_is : (b : ℕ) → b / 2 ^ 52 ≤ 1278 → field_of binary64 b ≡ b / 2 ^ 52
field_is b h = and_mask (b / 2 ^ 52) 11 ∙ mod-eq_of_lt (omega arith)

-- the bits of the answer, by those of x
narrowed_at : (x : Float) → T (fits binary64 x) → 771 ≤ to_bits binary64 x / 2 ^ 52 → to_bits binary64 x / 2 ^ 52 ≤ 1278
    → to_bits binary32 (narrowed_root x) ≡ Bits (bit_or (digits_of binary64 (to_bits binary64 x)) (2 ^ 52)) (to_bits binary64 x / 2 ^ 52 + 1021)
narrowed_at x h l u =
    let b = to_bits binary64 x in
    let t = digits_of binary64 b in
    ap (λ (v : Float). to_bits binary32 (narrowed_root v)) (sym (positive binary64 x h (no_sign b u)) ∙ ap (λ (F : ℕ). of_fields binary64 false F t) (field_is b u))
    ∙ narrowed_bits (b / 2 ^ 52) t l u (digits_lt binary64 b)
    ∙ ap (λ (m : ℕ). Bits m (b / 2 ^ 52 + 1021)) (sym (lead t (digits_lt binary64 b)))

-- the pattern that is made is the bits of the answer
made : (c : goal.After-narrowed_of) → to_bits binary32 (narrowed_root c.args.x) ≡ c.narrowed_of.result
made c =
    narrowed_at c.args.x (held c.well_formed.0.1) c.if-field-ge771.true c.if-field-le1278.true ∙ sym c.narrowed_of.ensures

pub returns-then-x : goal.returns-then-x
unfolding narrowed_root
returns-then-x c = of_nan (root binary64 c.args.x) (sym (root_nan binary64 c.args.x (is_nan_lem c.args.x c.if-x.true)))

pub float_to_bits-bits : goal.float_to_bits-bits
float_to_bits-bits c = no_nan c.args.x c.if-x.false

pub narrowed_of-requires : goal.narrowed_of-requires
narrowed_of-requires c =
    let b = to_bits binary64 c.args.x in
    let d = digits_lt binary64 b in
    let e = lead (digits_of binary64 b) d in
    let l = c.if-field-ge771.true in
    let u = c.if-field-le1278.true in
    record { m_low = omega arith; m_bound = omega arith; g_low = omega arith; g_bound = omega arith }

pub overflow_cast-result : goal.overflow_cast-result
unfolding narrowed_root
overflow_cast-result c =
    let x = c.args.x in
    record { fits = subst (λ (n : ℕ). n < 2 ^ 32) (made c) (to_bits-lt binary32 (narrowed_root x) (narrow_fits (root binary64 x))) }

pub float_from_bits-result : goal.float_from_bits-result
unfolding narrowed_root
float_from_bits-result c =
    let x = c.args.x in
    let y = root binary64 x in
    written_no_nan binary32 (narrow y) _ (narrow_fits y) (narrow_no_nan y (root_no_nan binary64 x (held c.well_formed.0.1) (no_nan x c.if-x.false) (no_sign (to_bits binary64 x) c.if-field-le1278.true)))
    (made c)

pub returns-then-field-le1278 : goal.returns-then-field-le1278
unfolding narrowed_root
returns-then-field-le1278 c =
    let y = root binary64 c.args.x in
    written binary32 (narrow y) _ (narrow_fits y) (made c)

pub returns : goal.returns
unfolding narrowed_root
returns c = c.narrow.ensures ∙ ap narrow c.sqrt64.ensures

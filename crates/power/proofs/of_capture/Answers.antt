-- `power::of_capture` meets its contract: no pairs, a NaN that a pass found decides the record, and without one the sums do. Assumes nothing.
use Rattle.std.proofs.Common.{sym, ap, ◌∙◌, arith}
use Rattle.power.specs.declared.parts.Sums.{Sums}
use Rattle.power.specs.Power.{record_of}
use Rattle.power.proofs.NotNumbers.{nan_voltage, nan_current}
use Rattle.power.proofs.Refusals.{no_pairs, some_pairs}
use Rattle.power.proofs.of_capture.Goals as goal

pub returns-then-voltage-eq0 : goal.returns-then-voltage-eq0
returns-then-voltage-eq0 c = let args = c.args in sym (no_pairs args.voltage.now args.current.now c.if-voltage-eq0.true)

pub returns-then-not-all_numbers : goal.returns-then-not-all_numbers
returns-then-not-all_numbers c =
    let args = c.args in
    let v = args.voltage.now in
    let i = args.current.now in
    let t = c.all_numbers in
    c.of_nan.ensures ∙ sym (some_pairs v i c.if-voltage-eq0.false ∙ nan_voltage v i (sym t.ensures ∙ c.if-not-all_numbers.true))

pub returns-then-not-all_numbers-2 : goal.returns-then-not-all_numbers-2
returns-then-not-all_numbers-2 c =
    let v = c.args.voltage.now in
    let i = c.args.current.now in
    let t = c.all_numbers-2 in
    c.of_nan-then-not-all_numbers-2.ensures
    ∙ sym (some_pairs v i c.if-voltage-eq0.false ∙ nan_current v i c.requires.voltage_len (sym t.ensures ∙ c.if-not-all_numbers-2.true))

pub sums_of_numbers-requires : goal.sums_of_numbers-requires
sums_of_numbers-requires c =
    let t = c.all_numbers in
    let u = c.all_numbers-2 in
    record { voltage_len = c.requires.voltage_len; voltage_len_bound = c.requires.voltage_len_bound; voltage_value = sym t.ensures ∙ c.if-not-all_numbers.false; current_value = sym u.ensures ∙ c.if-not-all_numbers-2.false }

pub of_sums-requires : goal.of_sums-requires
of_sums-requires c = omega (arith, ap (λ (t : Sums). t.count) c.sums_of_numbers.ensures)

pub returns : goal.returns
returns c =
    let args = c.args in
    c.of_sums.ensures ∙ ap record_of c.sums_of_numbers.ensures
    ∙ sym (some_pairs args.voltage.now args.current.now c.if-voltage-eq0.false)

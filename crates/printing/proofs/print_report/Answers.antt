-- `printing::print_report` meets its contract: 80 bytes hold any report, so all of it is handed on. Assumes nothing.
use native.Mathlib.Omega.{arith}
use native.Mathlib.Nat.{le_refl}
use Rattle.reporting.proofs.Stored.{part_long}
use Rattle.reporting.proofs.Whole.{report_short, count_written, written_back}
use Rattle.printing.proofs.print_report.Goals as goal

pub slice_bounds-text-end : goal.slice_bounds-text-end
slice_bounds-text-end g c =
    let w = c.report_text in
    let e = count_written c.args.input.now _ w.result _ w.ensures (le_refl 80) _ c.unwrap_or-n.ensures in
    omega (arith, e, report_short c.args.input.now, w.auto.output)

pub slice_bounds-hand_on-end : goal.slice_bounds-hand_on-end
slice_bounds-hand_on-end g c =
    let w = c.report_text in
    let e = count_written c.args.input.now _ w.result _ w.ensures (le_refl 80) _ c.unwrap_or-n.ensures in
    part_long _ _ (omega (arith, e, report_short c.args.input.now, w.auto.output))

pub hand_on-requires : goal.hand_on-requires
hand_on-requires g c = let w = c.report_text in written_back _ _ w.result _ w.ensures (le_refl 80) _ c.unwrap_or-n.ensures

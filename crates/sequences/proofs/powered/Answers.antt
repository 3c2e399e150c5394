-- `sequences::powered` meets its contract: how the signal was made, beside what the last call says. Assumes nothing.
use Rattle.std.proofs.Common.{Ok, Err, sym, ◌∙◌}
use Rattle.std.proofs.lemmas.Result.{err_from_is_err_and}
use Rattle.sequences.proofs.Endings.{powered_told}
use Rattle.sequences.proofs.powered.Goals as goal

pub returns-in_err-ended : goal.returns-in_err-ended
returns-in_err-ended c =
    let args = c.args in
    let arm = c.in_err-ended in
    let e = err_from_is_err_and c.from_residual.result c.from_residual.ensures.1 in
    rw (e.1, e.2) (powered_told args.voltage args.current args.frequency args.edition args.next args.samples.now (Err _) _ _ (sym arm.was ∙ c.judged-ended.ensures) c.power_after-power.ensures)

pub returns : goal.returns
returns c =
    let args = c.args in
    let arm = c.in_ok-ended in
    powered_told args.voltage args.current args.frequency args.edition args.next args.samples.now (Ok _) _ _ (sym arm.was ∙ c.judged-ended.ensures) c.power_after-power.ensures

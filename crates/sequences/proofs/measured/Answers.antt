-- `sequences::measured` meets its contract: how the signal was made, beside what the last call says. Assumes nothing.
use Rattle.std.proofs.Common.{Ok, Err, sym, ◌∙◌}
use Rattle.std.proofs.lemmas.Result.{err_from_is_err_and}
use Rattle.sequences.proofs.Endings.{measured_told}
use Rattle.sequences.proofs.measured.Goals as goal

pub returns-in_err-made : goal.returns-in_err-made
returns-in_err-made c =
    let args = c.args in
    let arm = c.in_err-made in
    let e = err_from_is_err_and c.from_residual.result c.from_residual.ensures.1 in
    rw (e.1, e.2) (measured_told args.wave args.amplitude args.frequency args.edition args.duty_cycle args.samples.now (Err _) _ _ (sym arm.was ∙ c.judged-made.ensures) c.metrics_after-metrics.ensures)

pub returns : goal.returns
returns c =
    let args = c.args in
    let arm = c.in_ok-made in
    measured_told args.wave args.amplitude args.frequency args.edition args.duty_cycle args.samples.now (Ok _) _ _ (sym arm.was ∙ c.judged-made.ensures) c.metrics_after-metrics.ensures

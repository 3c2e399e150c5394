-- `samples::add_four` meets its contract: four sums, and then four stores. Assumes nothing.
use Rattle.std.proofs.Common.{◌≡◌, ◌∙◌, ap, arith, length}
use Rattle.laws.proofs.Filling.{filled_length}
use Rattle.samples.specs.Samples.{sum_at}
use Rattle.samples.proofs.Adding.{four_stores}
use Rattle.samples.proofs.add_four.Goals as goal

pub returns : goal.returns
returns c before i =
    let a = c.args in
    let l : length a.output.now ≡ length before = ap length i ∙ filled_length _ _ _ in
    four_stores (sum_at a.a.now a.b.now) a.from before a.output.now _ _ _ _ (omega arith) c.sum_at-w.ensures c.sum_at-x.ensures c.sum_at-y.ensures c.sum_at-z.ensures i

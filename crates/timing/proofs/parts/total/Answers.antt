-- `timing::parts::total` meets its contract. Assumes nothing.
use Rattle.std.proofs.Common.{◌≡◌, length, take, map, refl, ◌∙◌, rules, arith, take_all}
use denote.Bor.{Bor}
use lib.Ieee.{Float, binary64, add}
use Rattle.laws.specs.Literals.{zero64}
use Rattle.passes.proofs.Folded.{folded}
use Rattle.timing.specs.Timing.{total_of}
use Rattle.timing.proofs.parts.total.Goals as goal

pub returns : goal.returns
unfolding total_of
returns c =
    let xs = c.args.samples.now in
    let h = c.fold.ensures.runs in
    let items : map (λ (x : Bor Float). x.now) h.0.items ≡ take (length xs) xs = (c.iter.ensures.runs h.0 h.0.seen).4 h.2 ∙ grind (arith, take_all) in
    folded (add binary64) (add binary64) (λ a x. refl) zero64 h.0.items (length xs) xs (h.3 _ (λ a b f r k. search rules)) items (omega arith)

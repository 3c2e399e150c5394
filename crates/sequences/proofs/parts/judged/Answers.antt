-- `sequences::parts::judged` meets its contract: a number that is no edition comes first. Assumes nothing.
use mathlib.Core.Path.{sym, ◌∙◌}
use Rattle.distortion.proofs.ByEdition.{edition_known, edition_unknown}
use Rattle.sequences.proofs.parts.judged.Goals as goal

pub returns-then-highest_order-eq0 : goal.returns-then-highest_order-eq0
returns-then-highest_order-eq0 c = sym (edition_unknown _ _ _ _ c.highest_order.ensures c.if-highest_order-eq0.true)

pub returns : goal.returns
returns c = c.judged.ensures ∙ sym (edition_known _ _ _ _ c.highest_order.ensures c.if-highest_order-eq0.false)

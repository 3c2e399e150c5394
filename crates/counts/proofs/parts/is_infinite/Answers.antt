-- `counts::parts::is_infinite` meets its contract. Assumes nothing.
use mathlib.Core.Path.{sym, ap, subst, ◌∙◌}
use mathlib.Core.Bool.{not}
use lib.Dec.{T}
use Rattle.counts.proofs.Words.{sign_cleared, nan_aside}
use Rattle.counts.proofs.parts.is_infinite.Goals as goal

pub returns-then-is_no_number : goal.returns-then-is_no_number
returns-then-is_no_number c = nan_aside c.args.x (sym c.is_no_number.ensures ∙ c.if-is_no_number.true)

pub float_to_bits-result : goal.float_to_bits-result
float_to_bits-result c = subst T (sym (ap not (sym c.is_no_number.ensures ∙ c.if-is_no_number.false))) tt

pub returns : goal.returns
returns c =
    sign_cleared c.args.x (subst T (sym c.well_formed.0.1) tt)

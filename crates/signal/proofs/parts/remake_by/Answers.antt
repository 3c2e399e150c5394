-- `signal::parts::remake_by` meets its contract: a number that is no edition writes nothing, and else its highest order decides. Assumes nothing.
use Rattle.std.proofs.Common.{◌≢◌, sym, ◌∙◌, arith}
use Rattle.distortion.proofs.ByEdition.{edition_known, order_fits}
use Rattle.signal.specs.Editions.{remade_by}
use Rattle.signal.proofs.parts.remake_by.Goals as goal

pub remake-requires : goal.remake-requires
remake-requires c =
    let known : c.highest_order-top.result ≢ 0 = omega arith in
    order_fits _ _ c.highest_order-top.ensures known

pub returns : goal.returns
unfolding remade_by
returns c =
    let known : c.highest_order-top.result ≢ 0 = omega arith in
    c.remake.ensures ∙ sym (edition_known _ _ _ _ c.highest_order-top.ensures known)

-- `passes::parts::numbers_in` meets its contract. Assumes nothing.
use Rattle.std.proofs.Common.{◌≡◌, Bool, true, false, not, ◌&&◌, take, drop, map, refl, ap, ◌∙◌, rules, arith, length-drop}
use denote.Bor.{Bor}
use lib.Ieee.{Float, eq, ne}
use Rattle.laws.specs.Samples.{numbers_in, still_numbers}
use Rattle.laws.proofs.Numbers.{still_nan, still_number}
use Rattle.passes.proofs.Folded.{folded}
use Rattle.passes.proofs.parts.numbers_in.Goals as goal

still : (t : Bool) (x : Float) → (t && eq x x) ≡ still_numbers t x
unfolding ne
still t x = go t (eq x x) refl
  where
    go : (t b : Bool) → eq x x ≡ b → (t && b) ≡ still_numbers t x
    go true true e = still_number true x (ap not e)
    go true false e = still_nan true x (ap not e)
    go false true e = still_number false x (ap not e)
    go false false e = still_nan false x (ap not e)

pub returns : goal.returns
unfolding numbers_in
returns c =
    let a = c.args in
    let h = c.fold.ensures.runs in
    let items : map (λ (x : Bor Float). x.now) h.0.items ≡ take a.count (drop a.from a.samples.now) = (c.iter.ensures.runs h.0 h.0.seen).4 h.2 ∙ grind arith in
    folded (λ (t : Bool) (x : Float). t && eq x x) still_numbers still true h.0.items a.count (drop a.from a.samples.now) (h.3 _ (λ a b f r k. search rules)) items
    (omega (arith, length-drop a.from a.samples.now))

-- `generator::remainder::of_magnitudes` meets its contract: by which of the two has more places. Assumes nothing.
use mathlib.Core.Path.{◌∙◌}
use native.Mathlib.Omega.{arith}
use Rattle.generator.proofs.Units.{smaller, brought}
use Rattle.generator.proofs.remainder.of_magnitudes.Goals as goal

pub returns-then-p-q-clause-value : goal.returns-then-p-q-clause-value
returns-then-p-q-clause-value c = smaller c.args.a c.args.b (omega (arith, c.places-p.ensures, c.places-q.ensures, c.if-p-q.true))

pub returns-clause-value : goal.returns-clause-value
returns-clause-value c =
    let p = c.places-p in
    let q = c.places-q in
    c.packed.ensures.value
    ∙ brought c.args.a c.args.b p.result q.result c.left_of.result p.ensures q.ensures (omega (arith, c.if-p-q.false)) c.requires.above c.left_of.ensures

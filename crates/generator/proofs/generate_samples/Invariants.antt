-- `generator::generate_samples` meets its contract. The loop's invariant: the places passed hold their samples, the others stay. The measure is what is left.
-- Assumes nothing.
use mathlib.Core.Path.{◌≡◌}
use Prim.Native.Nat.{◌≤◌, ◌-◌}
use Rattle.laws.specs.Filled.{filled}
use Rattle.generator.specs.Sample.{sample_at}
use Rattle.generator.proofs.generate_samples.Given as goal

abbrev pub invariant-loop-i : goal.invariant-loop-i
invariant-loop-i l = (l.i ≤ l.n) × (l.samples ≡ filled (sample_at l.shape l.n) l.i l.initial.samples)

abbrev pub decreases-loop-i : goal.decreases-loop-i
decreases-loop-i l = l.n - l.i

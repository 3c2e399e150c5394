-- `quarter::parts::sine` meets its contract, on each half of the turn. Assumes nothing.
use mathlib.Core.Path.{◌≡◌, ◌∙◌, ap}
use Prim.Native.Nat.{ℕ, ◌-◌, ◌%◌}
use native.Mathlib.Nat.{mod-eq_of_lt}
use native.Mathlib.Omega.{arith}
use lib.Ieee.{Float, neg}
use Rattle.quarter.specs.Wave.{t}
use Rattle.quarter.specs.Turn.{fraction, folded}
use Rattle.quarter.proofs.Halves.{first_half, second_half}
use Rattle.quarter.proofs.parts.sine.Goals as goal

-- what was read, with the place of the half turn written out
read : (v : Float) (j k h : ℕ) → v ≡ fraction (t j) → j ≡ folded k → k ≡ h → v ≡ fraction (t (folded h))
read v j k h r f e = r ∙ ap (λ (i : ℕ). fraction (t i)) (f ∙ ap folded e)

pub returns-then-step-lt2048 : goal.returns-then-step-lt2048
returns-then-step-lt2048 c =
    read _ _ _ _ c.fraction_at-v.ensures c.fold.ensures.0 (mod-eq_of_lt c.if-step-lt2048.true) ∙ first_half _ c.if-step-lt2048.true

pub returns-else-step-lt2048 : goal.returns-else-step-lt2048
returns-else-step-lt2048 c =
    let s = c.args.step in
    ap neg (read _ _ (s % 2048) (s - 2048) c.fraction_at-v.ensures c.fold.ensures.0 (omega arith)) ∙ second_half s c.if-step-lt2048.false (omega arith)

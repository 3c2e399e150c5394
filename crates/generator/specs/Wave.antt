-- The waves and their numbers. Definitions only.
use Rattle.std.specs.Prelude.{ℕ, cond, eqb}
use Rattle.generator.specs.declared.Wave.{Wave}
use Rattle.generator.specs.declared.Wave.TheVariants.{DC, PWM, Triangular, Sawtooth}

-- 01, item 8: "`DC`, `PWM`, `Triangular`, `Sawtooth`, the only cases that `SignalType` keeps", numbered in that order for the C boundary
abbrev pub wave_number : Wave → ℕ
wave_number DC = 0
wave_number PWM = 1
wave_number Triangular = 2
wave_number Sawtooth = 3

-- the wave with this number, and DC for any other
unfoldable pub wave_of : ℕ → Wave
wave_of n = cond (eqb n 1) PWM (cond (eqb n 2) Triangular (cond (eqb n 3) Sawtooth DC))

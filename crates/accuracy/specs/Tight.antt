-- The bounds are within a factor of four of the best that can be said: each sentence with two more powers of two is false, at a capture of three pairs, and of seven for the last.
-- Computed over the definitions. Assumes nothing.
use Rattle.std.specs.Prelude.{ℕ, List, [], ◌∷◌, ℤ, pos, negsuc}
use Rattle.std.proofs.Common.{not-le_of_lt, lit<}
use Rattle.std.specs.Float.Ieee.{add, sub, mul, div, lt, of_int, of_bits}
use Rattle.laws.specs.Quotients.{ratio_or_zero}
use Rattle.number.specs.Number.{narrow, root, narrowed_root}
use Rattle.power.specs.declared.Power.{Power}
use Rattle.power.specs.Power.{sum_to, mean64, active_of, apparent_of, above_zero, nonactive_of, record_of, power_of}
use Rattle.laws.specs.Products.{code_at, products}
use Rattle.accuracy.specs.Accuracy.{samples_of, squares, ActiveNear, ApparentNear, NonactiveNear, FactorNear, AtMost}

abbrev volts : List ℤ
volts = pos 4 ∷ pos 4 ∷ pos 5 ∷ []

abbrev amps : List ℤ
amps = pos 4 ∷ negsuc 3 ∷ pos 5 ∷ []

abbrev found : Power
found = power_of (samples_of volts) (samples_of amps)

abbrev v : ℕ
v = squares (code_at volts) 3

abbrev i : ℕ
i = squares (code_at amps) 3

abbrev w : ℤ
w = products (code_at volts) (code_at amps) 3

-- voltage and current alike: their pf is 1 + 1 / 2^22
abbrev alike : List ℤ
alike = pos 10 ∷ pos 4 ∷ pos 1 ∷ pos 4 ∷ pos 0 ∷ pos 4 ∷ pos 0 ∷ []

pub no_nearer :
    (ActiveNear 25 3 w found.p → ⊥)
    × (ApparentNear 23 3 v i found.s → ⊥)
    × (NonactiveNear 22 3 v i w found.nonactive → ⊥)
    × (FactorNear 22 v i w found.pf → ⊥)
    × (AtMost 23 (power_of (samples_of alike) (samples_of alike)).pf → ⊥)
unfolding power_of record_of sum_to mean64 active_of narrowed_root apparent_of ratio_or_zero above_zero nonactive_of products squares narrow root add sub mul div lt of_int of_bits
no_nearer = (λ h. not-le_of_lt (lit< tt) h, λ h. not-le_of_lt (lit< tt) h, λ h. not-le_of_lt (lit< tt) h, λ h. not-le_of_lt (lit< tt) h, λ h. not-le_of_lt (lit< tt) h)

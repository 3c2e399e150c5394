-- Codes as a slice of 16 bit signed numbers holds them. Definitions only.
use Rattle.std.specs.Prelude.{◌<◌, List, [], ◌∷◌, ℤ}
use Rattle.std.specs.Int.Signed.{mag}

-- each fits 16 bits: `mag` of n and of -1 - n is n
abbrev pub Codes : List ℤ → Type 0
Codes [] = Unit {0}
Codes (z ∷ zs) = (mag z < 32768) × Codes zs

-- Numbers that several definitions start from or count with. Definitions only.
use Rattle.std.specs.Prelude.{ℕ, pos, Float}
use Rattle.std.specs.Float.{binary32, binary64}
use Rattle.std.specs.Float.Ieee.{of_int, of_bits}

abbrev pub zero32 : Float
zero32 = of_bits binary32 0

abbrev pub zero64 : Float
zero64 = of_bits binary64 0

abbrev pub one32 : Float
one32 = of_bits binary32 0x3F800000

abbrev pub hundred32 : Float
hundred32 = of_bits binary32 0x42C80000

-- 01's 1e-12: the f32 nearest to it
abbrev pub tiny32 : Float
tiny32 = of_bits binary32 0x2B8CBCCC

-- a count as a float: exact, up to 2^24 and 2^53
abbrev pub count32 : ℕ → Float
count32 n = of_int binary32 (pos n)

abbrev pub count64 : ℕ → Float
count64 n = of_int binary64 (pos n)

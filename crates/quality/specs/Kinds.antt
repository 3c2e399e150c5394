-- Each case of a quotient by a number and a ratio: 01, "Where an answer is an enum, a definition gives this paper's number and values for each of its cases". 01 names the cases
-- and gives them no numbers: 0, 1 and 2 are ours, and the header's. Definitions only.
use Rattle.std.specs.Prelude.{ℕ, Option, Some, None, Float}
use Rattle.laws.specs.Literals.{zero32, zero64}
use Rattle.quality.specs.declared.Sfdr.{Sfdr}
use Rattle.quality.specs.declared.Sfdr.TheVariants as S

-- of SNR and SINAD: 0 is the ratio itself, 2 an unusable bin
abbrev pub kind_of : Option Float → ℕ
kind_of (Some x) = 0
kind_of None = 2

-- its ratio, and 0 for an unusable bin
abbrev pub ratio_of : Option Float → Float
ratio_of (Some x) = x
ratio_of None = zero64

-- of SFDR: 0 is the ratio itself, 1 "the answer that there is no spur", 2 an unusable bin
abbrev pub sfdr_kind_of : Sfdr → ℕ
sfdr_kind_of (S.Ratio x) = 0
sfdr_kind_of S.NoSpur = 1
sfdr_kind_of S.UnusableBin = 2

-- its ratio, and 0 where there is no spur or the bin is unusable
abbrev pub sfdr_ratio_of : Sfdr → Float
sfdr_ratio_of (S.Ratio x) = x
sfdr_ratio_of S.NoSpur = zero32
sfdr_ratio_of S.UnusableBin = zero32

-- in a refusal "a quotient the ratio 0": what the C boundary tells there
abbrev pub refused_quotient : Option Float
refused_quotient = Some zero64

abbrev pub refused_sfdr : Sfdr
refused_sfdr = S.Ratio zero32

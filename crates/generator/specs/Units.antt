-- A float's magnitude by its bits, in the smallest values of its format: `digits b * 2 ^ places b` of them. Definitions only.
use Rattle.std.specs.Prelude.{ℕ, ◌-◌, ◌*◌, ◌/◌, ◌^◌}

-- the exponent's field less one, and 0 where it is 0
abbrev pub places : ℕ → ℕ
places b = b / 2 ^ 23 - 1

-- the digits' field, with the leading digit where the exponent's field is not 0
abbrev pub digits : ℕ → ℕ
digits b = b - places b * 2 ^ 23

unfoldable pub units : ℕ → ℕ
units b = digits b * 2 ^ places b

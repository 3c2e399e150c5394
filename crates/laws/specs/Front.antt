-- A lent slice whose first places are written with a given list. Definitions only.
use Rattle.std.specs.Prelude.{List, ◌++◌, length, drop}

-- 01, "places past what must be written stay": the new places in front, and behind them what was there
unfoldable pub onto : {A : Type 0} → List A → List A → List A
onto new old = new ++ drop (length new) old

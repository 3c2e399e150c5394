-- Which lengths the spectrum takes. Definitions only.
use Rattle.std.specs.Prelude.{ℕ, Bool, false, ◌||◌, List, [], ◌∷◌, ◌==◌}

-- 01, row 4: "0, 1 and the powers of two from 2 to 4,096"
unfoldable pub lengths : List ℕ
lengths = 0 ∷ 1 ∷ 2 ∷ 4 ∷ 8 ∷ 16 ∷ 32 ∷ 64 ∷ 128 ∷ 256 ∷ 512 ∷ 1024 ∷ 2048 ∷ 4096 ∷ []

abbrev pub among : List ℕ → ℕ → Bool
among [] n = false
among (x ∷ xs) n = n == x || among xs n

unfoldable pub on_grid : ℕ → Bool
on_grid n = among lengths n

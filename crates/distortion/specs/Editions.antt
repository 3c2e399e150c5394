-- The editions of THD, by number: how high its orders go (02, e). Definitions only.
use Rattle.std.specs.Prelude.{◌≡◌, ℕ, cond, ◌⊎◌, ◌==◌}

-- 02, e: "Keep edition 1 (16) for old records and add edition 2 (40)": what is worked out over the highest order of the edition e, and what is answered of a
-- number that is no edition
unfoldable pub by_edition : {A : Type 0} → ℕ → (ℕ → A) → A → A
by_edition e over unknown = cond (e == 1) (over 16) (cond (e == 2) (over 40) unknown)

-- that order; 0 of no edition
abbrev pub highest_order : ℕ → ℕ
highest_order e = by_edition e (λ (top : ℕ). top) 0

-- 02, e, "edition .. neither 1 nor 2" is refused: the numbers that aren't
abbrev pub Known : ℕ → Type 0
Known e = (e ≡ 1) ⊎ (e ≡ 2)

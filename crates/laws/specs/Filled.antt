-- A lent slice whose first places are written and whose other places stay. Definitions only.
use Rattle.std.specs.Prelude.{List, [], ◌∷◌, ℕ, zero, suc}

-- 01, "places past what must be written stay": f 0, f 1, .. in the first k places, as far as there are any, and behind them what was there
unfoldable pub filled : {A : Type 0} → (ℕ → A) → ℕ → List A → List A
filled f zero out = out
filled f (suc k) [] = []
filled f (suc k) (o ∷ out) = f zero ∷ filled (λ (j : ℕ). f (suc j)) k out

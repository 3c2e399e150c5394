-- `signal::reset_waveform` meets its contract: a refusal writes nothing, and where none holds samples and state are cleared. Assumes nothing.
use Rattle.std.proofs.Common.{◌≡◌, ℕ, List, [], ◌∷◌, length, Float, sym, ap, refl, ◌∙◌}
use Rattle.std.proofs.Math.ListN.{replicate}
use Rattle.laws.specs.Filled.{filled}
use Rattle.laws.specs.Literals.{zero32}
use Rattle.signal.specs.Calls.{reset_of}
use Rattle.signal.proofs.Ends.{refused, taken}
use Rattle.signal.proofs.reset_waveform.Goals as goal

-- one value in every place
all_of : (x : Float) (xs : List Float) → replicate (length xs) x ≡ filled (λ (j : ℕ). x) (length xs) xs
unfolding filled
all_of x [] = refl
all_of x (o ∷ xs) = ap (λ (l : List Float). x ∷ l) (all_of x xs)

pub returns-in-Ok : goal.returns-in-Ok
unfolding reset_of
returns-in-Ok c =
    rw (c.silenced.ensures, c.fill.ensures.after (λ y e. e) ∙ all_of zero32 c.args.samples.now)
    (sym (taken _ _ _ _ c.in-Ok.ensures))

pub returns-in-Err : goal.returns-in-Err
unfolding reset_of
returns-in-Err c = refused _ _ _ _ c.in-Err.ensures

-- The counts of the record that is handed out are those of the samples that were measured, or the earlier ones. Assumes nothing.
use Prim.Native.Nat.{ℕ, ◌<◌}
use native.Mathlib.Omega.{arith}
use mathlib.Core.Path.{◌≡◌, refl, sym, ◌∙◌}
use mathlib.Core.Logic.{⊎_elim}
use Rattle.std.proofs.Common.{List, Ok}
use lib.Ieee.{Float}
use lib.ListN.{length}
use borrow.Author.Tests.{lt-ltb, le-ltb, ne_eqb}
use Rattle.answers.specs.Numbers.{longest}
use Rattle.answers.specs.Answers.{told}
use Rattle.counts.proofs.Finite.{zero_exactly}
use Rattle.generator.specs.declared.Wave.{Wave}
use Rattle.figures.specs.declared.TimeFigures.{TimeFigures}
use Rattle.figures.specs.Figures.{figures_of, answer_of}
use Rattle.figures.specs.Counted.{CountsMeasured, CountsKept, LongRefused, FromFinite}

pub counts_measured : CountsMeasured
unfolding answer_of figures_of
counts_measured wave amplitude frequency earlier xs m = rw (le-ltb longest (length xs) m.1, ne_eqb (length xs) 0 (some (length xs) m.0)) (refl, refl)
  where
    some : (n : ℕ) → 0 < n → n ≡ 0 → ⊥
    some n h e = omega arith

-- no samples: done, with the earlier record
pub no_samples : (wave : Wave) (amplitude frequency : Float) (earlier : TimeFigures) (xs : List Float) → length xs ≡ 0 → answer_of wave amplitude frequency earlier xs ≡ Ok earlier
unfolding answer_of
no_samples wave amplitude frequency earlier xs e = rw e

pub counts_kept : CountsKept
unfolding answer_of
counts_kept wave amplitude frequency earlier xs h = ⊎_elim none (λ l. rw (lt-ltb longest (length xs) l)) h
  where
    none : length xs ≡ 0 → told earlier (answer_of wave amplitude frequency earlier xs) ≡ earlier
    none e = rw e

pub long_refused : LongRefused
unfolding answer_of
long_refused wave amplitude frequency earlier xs l = rw (lt-ltb longest (length xs) l)

pub from_finite : FromFinite
from_finite wave amplitude frequency earlier xs m =
    let c = counts_measured wave amplitude frequency earlier xs m in
    let z = zero_exactly xs in
    ((λ b. z.0 (sym c.0 ∙ b.0, sym c.1 ∙ b.1)), (λ f. let b = z.1 f in (c.0 ∙ b.0, c.1 ∙ b.1)))

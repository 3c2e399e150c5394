-- `replay_lines::of_limits::on_text` meets its contract. How long the text is comes from a law: counting its places takes seconds. Assumes nothing.
use mathlib.Core.Path.{sym}
use Prim.Native.Nat.{ℕ}
use lib.ListN.{length-replicate}
use Rattle.replay_lines.proofs.of_limits.on_text.Goals as goal

pub slice_bounds-case-end : goal.slice_bounds-case-end
slice_bounds-case-end g c = sym (length-replicate {A = ℕ} 561169 46)

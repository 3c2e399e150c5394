-- `figures::edges::find_edges` meets its contract. The loop's invariant: the edges are those of the places below i. Assumes nothing.
use mathlib.Core.Path.{◌≡◌}
use Prim.Native.Nat.{◌-◌, ◌≤◌}
use lib.ListN.{length}
use Rattle.laws.specs.Walks.{pairs}
use Rattle.figures.specs.Edges.{edge_at, no_edge}
use Rattle.figures.proofs.edges.find_edges.Given as goal

abbrev pub invariant-loop-i : goal.invariant-loop-i
invariant-loop-i l = record { inside : l.i - 1 ≤ length l.samples - 1; reached : l.s ≡ pairs (edge_at l.low l.high) no_edge l.samples (l.i - 1) }

use mathlib.Core.Path.{◌≡◌, refl}
use Prim.Native.Nat.{◌-◌}
use native.Mathlib.Omega.{arith}
use lib.ListN.{length}
use Rattle.laws.proofs.Turn.{pairs_next}
use Rattle.figures.specs.Edges.{edge_at, no_edge, edges_of}
use Rattle.figures.proofs.Bounds.{within}
use Rattle.figures.proofs.edges.find_edges.Goals as goal

pub edge_at-s-requires : goal.edge_at-s-requires
edge_at-s-requires c =
    let l = c.loop-i in
    let a = c.args in
    let w = within a.low a.high a.samples.now (l.i - 1) in
    rw l.invariant.reached (omega (arith, w.rise), omega (arith, w.fall))

pub loop-i-preserved : goal.loop-i-preserved
unfolding edge_at
loop-i-preserved c =
    let l = c.loop-i in
    let a = c.args in
    record {
      inside = omega arith;
      reached = rw c.edge_at-s.ensures (pairs_next (edge_at a.low a.high) no_edge a.samples.now l.i (omega arith) l.invariant.reached refl refl);
    }

pub returns : goal.returns
unfolding edges_of
returns c =
    let l = c.loop-i in
    let e : l.i - 1 ≡ length c.args.samples.now - 1 = omega arith in
    rw (l.invariant.reached, e)

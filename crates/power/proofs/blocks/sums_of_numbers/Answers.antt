use Rattle.std.proofs.Common.{arith}
use Rattle.power.specs.Blocks.{product_from}
use Rattle.power.proofs.BlockSums.{block_sums, kept}
use Rattle.power.proofs.blocks.sums_of_numbers.Goals as goal

pub loop-k-preserved : goal.loop-k-preserved
loop-k-preserved c =
    let l = c.loop-k in
    let m = c.min-count.result in
    let f = c.products.ensures in
    let v = c.args.voltage.now in
    let i = c.args.current.now in (
      omega arith,
      block_sums v i l.k m l.block.vi l.block.vv l.block.ii _ _ _ (omega arith) (omega arith) (omega arith) l.invariant.1 f.vi_after f.vv_after f.ii_after c.sums_with-t.ensures,
      kept (product_from v i l.k) m 32 l.block.vi _ f.vi_after l.invariant.2,
      kept (product_from v v l.k) m 32 l.block.vv _ f.vv_after l.invariant.3,
      kept (product_from i i l.k) m 32 l.block.ii _ f.ii_after l.invariant.4,
    )

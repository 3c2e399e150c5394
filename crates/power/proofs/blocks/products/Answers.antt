use Rattle.std.proofs.Common.{◌≡◌, ◌+◌, not, List, length, get_or, set, refl, arith}
use lib.Ieee.{Float, nan, binary64, fits, is_nan}
use lib.Ieee.Fits.{and_i, fits_widens}
use Rattle.laws.specs.Filled.{filled}
use Rattle.laws.proofs.Filling.{filled_next}
use Rattle.laws.proofs.Numbers.{all_numbers_at}
use Rattle.power.specs.Blocks.{product_from}
use Rattle.power.proofs.blocks.products.Goals as goal

pub float_to_float-v : goal.float_to_float-v
float_to_float-v c =
    let v = c.args.voltage.now in
    let k = c.args.from + c.loop-j.j in
    let x = get_or v k nan in
    and_i (fits binary64 x) (not (is_nan x)) (fits_widens x c.row_known-1.given) (all_numbers_at v k c.requires.voltage_value (omega arith))

pub float_to_float-i : goal.float_to_float-i
float_to_float-i c =
    let i = c.args.current.now in
    let k = c.args.from + c.loop-j.j in
    let x = get_or i k nan in
    and_i (fits binary64 x) (not (is_nan x)) (fits_widens x c.row_known-in-loop-j-1.given) (all_numbers_at i k c.requires.current_value (omega arith))

pub loop-j-preserved : goal.loop-j-preserved
loop-j-preserved c =
    let l = c.loop-j in
    let v = c.args.voltage.now in
    let i = c.args.current.now in
    let from = c.args.from in
    let fill : (x y : List Float) (made out : List Float) → length out ≡ 32 → made ≡ filled (product_from x y from) l.j out
    → set made l.j (product_from x y from l.j) ≡ filled (product_from x y from) (l.j + 1) out = λ x y made out e h. filled_next (product_from x y from) l.j out made _ (omega arith) refl h in (
      fill v i l.block.vi c.args.block.now.vi (omega arith) l.invariant.0,
      fill v v l.block.vv c.args.block.now.vv (omega arith) l.invariant.1,
      fill i i l.block.ii c.args.block.now.ii (omega arith) l.invariant.2,
    )

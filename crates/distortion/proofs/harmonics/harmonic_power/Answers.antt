use Rattle.std.proofs.Common.{ℕ, ◌+◌, ◌*◌, ◌^◌, ◌<◌, ◌≤◌, ◌∙◌, lt_of_le_of_lt, mul-le-mul_left, arith, w64, Fits}
use Rattle.laws.proofs.Harmonics.{none_yet, one_more_lem, all_orders}
use Rattle.distortion.proofs.harmonics.harmonic_power.Goals as goal

-- the bin of an order up to the last is a place of the samples
below_length : (bin order last n : ℕ) → order ≤ last → bin * last < n → n < 2 ^ 64 → (Fits w64 (bin * order)) × (bin * order < n)
below_length bin order last n l h f = let p = lt_of_le_of_lt (mul-le-mul_left bin l) h in (omega arith, p)

pub loop-order-init : goal.loop-order-init
loop-order-init c = (omega arith, none_yet _ _ 2)

pub overflow_mul-bin : goal.overflow_mul-bin
overflow_mul-bin c =
    (below_length c.args.bin c.loop-order.order c.args.last _ (omega arith) c.requires.last_in_bounds (omega arith)).0

pub bin_magnitude-requires : goal.bin_magnitude-requires
bin_magnitude-requires c = record { samples_value = c.requires.samples_value; k_in_bounds = (below_length c.args.bin c.loop-order.order c.args.last _ (omega arith) c.requires.last_in_bounds (omega arith)).1 }

pub loop-order-preserved : goal.loop-order-preserved
loop-order-preserved c = (omega arith, c.with_square-sum.ensures ∙ one_more_lem _ _ 2 c.loop-order.order (omega arith) c.loop-order.invariant.1 c.bin_magnitude.ensures)

-- where there is no order to take, and at the last one
pub returns : goal.returns
returns c = all_orders _ _ 2 c.loop-order.order c.args.last (omega arith) c.loop-order.invariant.1

pub returns-2 : goal.returns-2
returns-2 c =
    all_orders _ _ 2 (c.loop-order.order + 1) c.args.last (omega arith)
    (c.with_square-sum.ensures ∙ one_more_lem _ _ 2 c.loop-order.order (omega arith) c.loop-order.invariant.1 c.bin_magnitude.ensures)

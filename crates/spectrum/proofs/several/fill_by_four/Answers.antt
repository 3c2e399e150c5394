use Rattle.std.proofs.Common.{◌≡◌, ℕ, ◌+◌, ◌*◌, ◌/◌, length, ap, ◌∙◌, arith}
use Rattle.laws.specs.Filled.{filled}
use Rattle.laws.proofs.Filling.{filled_none, filled_length}
use Rattle.spectrum.specs.Spectrum.{bin_of}
use Rattle.spectrum.proofs.Grid.{grid_le, grid_eights}
use Rattle.spectrum.proofs.Running.{four_more}
use Rattle.spectrum.proofs.several.fill_by_four.Goals as goal

pub loop-turn-init : goal.loop-turn-init
loop-turn-init c = filled_none (bin_of c.args.samples.now) c.args.output.now

pub overflow_mul-k : goal.overflow_mul-k
overflow_mul-k c = omega (arith, grid_le c.requires.samples_value)

pub four_sums-requires : goal.four_sums-requires
four_sums-requires c = record { sines = c.requires.sines; samples_value = c.requires.samples_value; in_bounds = c.requires.in_bounds; k_in_bounds = omega (arith, grid_eights c.requires.samples_value c.requires.in_bounds) }

pub store_four-requires : goal.store_four-requires
store_four-requires c =
    let l = c.loop-turn in
    let room = ap length l.invariant ∙ filled_length (bin_of c.args.samples.now) (4 * l.turn) c.args.output.now in
    record { k_in_bounds = omega (arith, room, grid_eights c.requires.samples_value c.requires.in_bounds); n_bound = grid_le c.requires.samples_value }

pub loop-turn-preserved : goal.loop-turn-preserved
loop-turn-preserved c =
    let l = c.loop-turn in
    let xs = c.args.samples.now in
    let eights = grid_eights c.requires.samples_value c.requires.in_bounds in
    let next : 4 * l.turn + 4 ≡ 4 * (l.turn + 1) = omega arith in
    c.store_four.ensures
    ∙ four_more xs c.args.output.now l.output (4 * l.turn) c.four_sums.result (omega (arith, eights)) c.four_sums.ensures l.invariant
    ∙ ap (λ (k : ℕ). filled (bin_of xs) k c.args.output.now) next

pub returns : goal.returns
returns c =
    let xs = c.args.samples.now in
    let eights = grid_eights c.requires.samples_value c.requires.in_bounds in
    let e : 4 * c.loop-turn.turn ≡ length xs / 2 = omega (arith, eights) in
    c.loop-turn.invariant ∙ ap (λ (k : ℕ). filled (bin_of xs) k c.args.output.now) e

-- `spectrum::several::fill_by_four` meets its contract. The invariant: four places a turn hold their bins. Assumes nothing.
use Rattle.std.proofs.Common.{◌≡◌, ◌*◌}
use Rattle.laws.specs.Filled.{filled}
use Rattle.spectrum.specs.Spectrum.{bin_of}
use Rattle.spectrum.proofs.several.fill_by_four.Given as goal

abbrev pub invariant-loop-turn : goal.invariant-loop-turn
invariant-loop-turn l = l.output ≡ filled (bin_of l.samples) (4 * l.turn) l.initial.output

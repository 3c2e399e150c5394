-- `spectrum::several::fill_sines` meets its contract. The invariant: the first j places hold their sines. Assumes nothing.
use Rattle.std.proofs.Common.{◌≡◌}
use Rattle.laws.specs.Filled.{filled}
use Rattle.spectrum.specs.Sines.{sine_at}
use Rattle.spectrum.proofs.several.fill_sines.Given as goal

abbrev pub invariant-loop-j : goal.invariant-loop-j
invariant-loop-j l = l.scratch ≡ filled (sine_at l.n) l.j l.initial.scratch

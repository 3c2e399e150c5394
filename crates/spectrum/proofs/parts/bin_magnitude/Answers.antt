-- `spectrum::parts::bin_magnitude` meets its contract. Assumes nothing.
use Rattle.std.proofs.Common.{length, ap, ◌∙◌}
use Rattle.spectrum.specs.declared.parts.Sums.{Sums}
use Rattle.spectrum.specs.Bin.{size_of, magnitude_of}
use Rattle.spectrum.proofs.Grid.{grid_le}
use Rattle.spectrum.proofs.parts.bin_magnitude.Goals as goal

pub size-requires : goal.size-requires
size-requires c = grid_le c.requires.samples_value

pub returns : goal.returns
unfolding magnitude_of
returns c = c.size.ensures ∙ ap (λ (s : Sums). size_of s (length c.args.samples.now)) c.bin_sums-sums.ensures

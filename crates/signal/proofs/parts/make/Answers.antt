-- `signal::parts::make` meets its contract: generated, then measured. Assumes nothing.
use mathlib.Core.Path.{ap, ◌∙◌}
use Rattle.spectrum.specs.Grid.{on_grid}
use Rattle.signal.proofs.Whole.{made_whole}
use Rattle.signal.proofs.parts.make.Goals as goal

pub measure-requires : goal.measure-requires
measure-requires c = record { samples_value = ap on_grid c.generate_samples.auto.samples ∙ c.requires.samples_value; le_top = c.requires.le_top }

pub returns : goal.returns
returns c =
    made_whole _ c.args.state _ c.args.samples.now _ _ c.generate_samples.ensures c.measure.ensures

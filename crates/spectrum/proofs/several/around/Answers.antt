-- `spectrum::several::around` meets its contract. Assumes nothing.
use Rattle.spectrum.proofs.Running.{mask_is, mask_lt}
use Rattle.spectrum.proofs.several.around.Goals as goal

pub returns : goal.returns
returns c = (
  mask_is c.args.n c.args.place c.requires.n_value c.requires.n_nonzero,
  mask_lt c.args.n c.args.place c.requires.n_value c.requires.n_nonzero,
)

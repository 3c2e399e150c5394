-- `spectrum::several::step` meets its contract: both sines are read at their places. Assumes nothing.
use Rattle.spectrum.proofs.Running.{step_is}
use Rattle.spectrum.proofs.several.step.Goals as goal

pub returns : goal.returns
returns c =
    let ahead = c.around-ahead in
    step_is c.args.n c.args.sines.now c.args.b c.args.x c.args.k ahead.result c.around.result c.turn.result
    c.requires.n_value c.requires.le_n c.requires.sines c.requires.at_lt_n ahead.ensures.0 c.around.ensures.0 c.turn.ensures

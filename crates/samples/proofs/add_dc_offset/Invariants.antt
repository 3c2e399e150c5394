-- What `samples::add_dc_offset` does to each sample. Assumes nothing.
use Rattle.std.specs.Float.{binary32}
use Rattle.std.specs.Float.Ieee.{add}
use Rattle.samples.proofs.add_dc_offset.Given as goal

abbrev pub ghost-each : goal.ghost-each
ghost-each a x = add binary32 x a.f.0

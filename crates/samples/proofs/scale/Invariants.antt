-- What `samples::scale` does to each sample. Assumes nothing.
use Rattle.std.specs.Float.{binary32}
use Rattle.std.specs.Float.Ieee.{mul}
use Rattle.samples.proofs.scale.Given as goal

abbrev pub ghost-each : goal.ghost-each
ghost-each a x = mul binary32 x a.f.0

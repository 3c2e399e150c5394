-- `power::parts::judged` meets its contract: each return is the case that the tests before it pick. Assumes nothing.
use Rattle.std.proofs.Common.{sym}
use Rattle.power.proofs.Refusals.{long_volts, long_amps, differing, taken}
use Rattle.power.proofs.parts.judged.Goals as goal

pub returns-then-volts-gt-LONGEST : goal.returns-then-volts-gt-LONGEST
returns-then-volts-gt-LONGEST c = sym (long_volts _ _ c.if-volts-gt-LONGEST.true)

pub returns-then-amps-gt-LONGEST : goal.returns-then-amps-gt-LONGEST
returns-then-amps-gt-LONGEST c = sym (long_amps _ _ c.if-amps-gt-LONGEST.true)

pub returns-then-volts-amps : goal.returns-then-volts-amps
returns-then-volts-amps c = sym (differing _ _ c.if-volts-gt-LONGEST.false c.if-amps-gt-LONGEST.false c.if-volts-amps.true)

pub returns : goal.returns
returns c = sym (taken _ _ c.if-volts-gt-LONGEST.false c.if-amps-gt-LONGEST.false c.if-volts-amps.false)

-- `printing::print_count` meets its contract: the test tells the longer input from any other. Assumes nothing.
use mathlib.Core.Path.{ap, ◌∙◌}
use lib.ListN.{length}
use native.Mathlib.Omega.{arith}
use Rattle.reporting.proofs.Whole.{read_long, read_front}
use Rattle.printing.proofs.print_count.Goals as goal

pub returns-then-count-gt-LONGEST_INPUT : goal.returns-then-count-gt-LONGEST_INPUT
returns-then-count-gt-LONGEST_INPUT g c =
    c.print_report.ensures ∙ ap length (read_long c.args.buffer.now c.args.count c.requires c.if-count-gt-LONGEST_INPUT.true)

pub returns : goal.returns
returns g c =
    c.print_report-2.ensures ∙ ap length (read_front c.args.buffer.now c.args.count (omega (arith, c.if-count-gt-LONGEST_INPUT.false)))

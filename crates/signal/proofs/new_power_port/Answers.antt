-- `signal::new_power_port` meets its contract: a DC signal, and its readings where it is made. Assumes nothing.
use Rattle.laws.specs.Literals.{zero32}
use Rattle.generator.specs.declared.Wave.TheVariants.{DC}
use Rattle.signal.specs.Editions.{new_by}
use Rattle.signal.proofs.Ends.{port_refused, port_done}
use Rattle.signal.proofs.new_power_port.Goals as goal

pub returns-in-Ok : goal.returns-in-Ok
returns-in-Ok c =
    let args = c.args in
    port_done _ _ _ (new_by DC args.voltage zero32 args.edition args.samples.now) _ c.new-made.result c.new-made.ensures _ _ c.in-Ok.is c.as_port.ensures

pub returns-in-Err : goal.returns-in-Err
returns-in-Err c =
    let args = c.args in
    port_refused _ _ _ (new_by DC args.voltage zero32 args.edition args.samples.now) _ c.new-made.result c.new-made.ensures _ c.in-Err.is

use Rattle.crossing.proofs.ports.TjPortFromPort.from.Goals as goal

pub returns : goal.returns
returns c = rw (c.into.ensures, c.into-2.ensures, c.into-3.ensures, c.into-4.ensures, c.into-5.ensures, c.into-6.ensures, c.into-7.ensures, c.into-8.ensures, c.into-9.ensures, c.into-10.ensures, c.into-11.ensures, c.into-12.ensures, c.into-13.ensures, c.places_out.ensures, c.places_out-2.ensures)

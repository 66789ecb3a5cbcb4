-- Whether a report waits.
use Rattle.placed_machines.proofs.chromatic.ReadLemmas.{reporting}
use Rattle.placed_machines.proofs.chromatic.machines.ChromaticMachine.waits_to_report.Goals as goal

pub returns : goal.returns
returns g c = rw (← c.self.view_is) (reporting g.P.Program.meaning (record { machine = c.self.inside.machine; counts = c.self.inside.counts; window = c.self.inside.window; reports = c.self.inside.reports }) c.waits.result c.waits.ensures)

use Rattle.seq_run.specs.Runs.{AreNumbers}
use Rattle.seq_run.specs.States.{start_state}
use Rattle.seq_run.proofs.runs.start_values.Given as goal

abbrev pub invariant-loop-v : goal.invariant-loop-v
invariant-loop-v g l = AreNumbers l.v (start_state l.graph (g.P.Program.meaning l.program)).vertex l.values.items

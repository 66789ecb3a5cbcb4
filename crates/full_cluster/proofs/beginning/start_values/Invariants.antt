use Rattle.seq_run.specs.Runs.{AreNumbers}
use Rattle.full_scope.specs.FullStates.{full_start}
use Rattle.full_cluster.proofs.beginning.start_values.Given as goal

abbrev pub invariant-loop-v : goal.invariant-loop-v
invariant-loop-v g l = AreNumbers l.v (full_start l.graph (g.P.FullProgram.meaning l.program)).vertex l.values.items

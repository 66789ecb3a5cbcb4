use Rattle.node_threads.specs.Nodes.{HasServed}
use Rattle.node_threads.proofs.serving.serve.Given as goal

abbrev pub invariant-loop : goal.invariant-loop
invariant-loop g l = record {
  served : HasServed g.M.SavingMachine.represents l.fn.seat l.seat;
}

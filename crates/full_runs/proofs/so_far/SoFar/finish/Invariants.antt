use Rattle.std.proofs.Common.{◌≡◌, length}
use Rattle.full_cluster.specs.Owners.{owner_in}
use Rattle.full_runs.specs.Inner.SoFar.{AreSoFar}
use Rattle.full_runs.proofs.so_far.SoFar.finish.Given as goal

abbrev pub invariant-loop-made : goal.invariant-loop-made
invariant-loop-made g l =
    record {
      so_far : AreSoFar l.division.graph.now (g.P.FullProgram.meaning l.program) (owner_in l.division.owner.now) l.run.order.items l.run.values.items l.run.edges.items l.run.tasks;
      long : length l.run.order.items ≡ l._made;
    }

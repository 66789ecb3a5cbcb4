use Rattle.std.proofs.Common.{◌≡◌, ◌+◌}
use Rattle.full_cluster.specs.FullClusters.{IsClusterFor}
use Rattle.full_runs.proofs.driving.drive.Given as goal

abbrev pub invariant-loop : goal.invariant-loop
invariant-loop g l =
    record {
      cluster : IsClusterFor l.division l.terms (g.P.FullProgram.meaning l.program) l.cluster;
      tickets : l.cluster.next + l.cluster.left ≡ l.fn.cluster.next + l.fn.cluster.left;
    }

use Rattle.full_cluster.specs.FullClusters.{IsClusterFor}
use Rattle.prog_match.specs.Pairs.{update_of_pairs}
use Rattle.tests_parts.proofs.played.play.Given as goal

abbrev pub invariant-loop-event : goal.invariant-loop-event
invariant-loop-event l = IsClusterFor l.division l.terms update_of_pairs l.cluster

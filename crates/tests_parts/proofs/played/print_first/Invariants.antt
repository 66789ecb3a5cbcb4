use Rattle.full_cluster.specs.FullClusters.{IsClusterFor}
use Rattle.prog_match.specs.Pairs.{update_of_pairs}
use Rattle.tests_parts.proofs.played.print_first.Given as goal

abbrev pub invariant-loop-name : goal.invariant-loop-name
invariant-loop-name g l = IsClusterFor l.division l.terms update_of_pairs l.cluster

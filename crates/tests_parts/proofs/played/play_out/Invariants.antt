use Rattle.full_cluster.specs.FullClusters.{IsClusterFor}
use Rattle.prog_match.specs.Pairs.{update_of_pairs}
use Rattle.tests_parts.proofs.played.play_out.Given as goal

abbrev pub invariant-loop-round : goal.invariant-loop-round
invariant-loop-round l = IsClusterFor l.division l.terms update_of_pairs l.cluster

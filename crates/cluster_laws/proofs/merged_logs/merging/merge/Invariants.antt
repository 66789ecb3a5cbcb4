use Rattle.std.proofs.Common.{◌-◌, map, length}
use Rattle.std.specs.BinaryHeap.{heap_items}
use Rattle.cluster_laws.specs.merged_logs.Merges.{all_logged}
use Rattle.cluster_laws.proofs.merged_logs.FrontLemmas.{IsMerging}
use Rattle.cluster_laws.proofs.merged_logs.merging.merge.Given as goal

abbrev pub invariant-loop-front : goal.invariant-loop-front
invariant-loop-front l = IsMerging (map (λ log. log.now) l.logs) l.order.items (heap_items l.fronts)

abbrev pub decreases-loop-front : goal.decreases-loop-front
decreases-loop-front l = length (all_logged (map (λ log. log.now) l.logs)) - length l.order.items

use Rattle.std.proofs.Common.{◌≡◌, Bool, map, take, All, count_by}
use Rattle.std.specs.BinaryHeap.{IsHeap, heap_items}
use Rattle.gl_base.specs.declared.entries.Entry.{Entry}
use Rattle.cluster_laws.specs.merged_logs.Merges.{all_logged}
use Rattle.cluster_laws.specs.merged_logs.Inner.Fronts.{IsFrontOf, front_cmp}
use Rattle.cluster_laws.proofs.merged_logs.FrontLemmas.{left_in}
use Rattle.cluster_laws.proofs.merged_logs.fronts.first_fronts.Given as goal

abbrev pub invariant-loop-log : goal.invariant-loop-log
invariant-loop-log l =
    record {
      fronts : All (IsFrontOf (map (λ log. log.now) l.logs)) (heap_items l.fronts);
      left : (p : Entry → Bool) → left_in (map (λ log. log.now) l.logs) p (heap_items l.fronts) ≡ count_by p (all_logged (take l.log (map (λ log. log.now) l.logs)));
      heap : IsHeap front_cmp (heap_items l.fronts);
    }

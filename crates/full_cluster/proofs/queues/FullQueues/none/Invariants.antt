use Rattle.std.proofs.Common.{◌≡◌, [], length, vec_capacity}
use Rattle.std.specs.List.{All}
use Rattle.full_cluster.specs.declared.queues.FullQueue.{FullQueue}
use Rattle.full_cluster.proofs.queues.FullQueues.none.Given as goal

abbrev pub invariant-loop : goal.invariant-loop
invariant-loop l =
    record {
      count : length l.queues.items ≡ l.counter;
      room : vec_capacity l.queues ≡ l.machines;
      none : All (λ (queue : FullQueue). queue.messages.items ≡ []) l.queues.items;
    }

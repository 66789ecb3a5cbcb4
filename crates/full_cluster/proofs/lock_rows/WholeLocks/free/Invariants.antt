use Rattle.std.proofs.Common.{◌≡◌, None, [], length, vec_capacity}
use Rattle.std.specs.List.{All}
use Rattle.full_cluster.specs.declared.locks.WholeLock.{WholeLock}
use Rattle.full_cluster.proofs.lock_rows.WholeLocks.free.Given as goal

abbrev pub invariant-loop : goal.invariant-loop
invariant-loop l =
    record {
      count : length l.locks.items ≡ l.counter;
      room : vec_capacity l.locks ≡ l.count;
      free : All (λ (lock : WholeLock). (lock.holder ≡ None) × (lock.queue.items ≡ [])) l.locks.items;
    }

use Rattle.std.proofs.Common.{◌≡◌, [], length, vec_capacity}
use Rattle.std.specs.List.{All}
use Rattle.wire.specs.outboxes.Outboxes.{OutboxView}
use Rattle.wire.proofs.outboxes.outboxes.Outboxes.new.Given as goal

abbrev pub invariant-loop : goal.invariant-loop
invariant-loop l =
    record {
      count : length l.boxes.items ≡ l.counter;
      room : vec_capacity l.boxes ≡ l.machines;
      none : All (λ (box : OutboxView). box.messages ≡ []) l.boxes.items;
    }

use Rattle.std.proofs.Common.{◌≡◌, ℕ, ◌<◌, ◌≤◌, false, slice_index_or}
use Rattle.wire.specs.outboxes.Outboxes.{has_waiting, no_outbox}
use Rattle.wire.proofs.outboxes.outboxes.Outboxes.next_waiting.Given as goal

abbrev pub invariant-loop-place : goal.invariant-loop-place
invariant-loop-place l = (b : ℕ) → l.fn.from.0 ≤ b → b < l.place → has_waiting (slice_index_or l.self-inside.machines.items b no_outbox) ≡ false

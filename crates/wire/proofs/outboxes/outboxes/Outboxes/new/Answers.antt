-- Nothing waits for a peer where no outbox has a message.
use Rattle.wire.proofs.outboxes.OutboxLemmas.{nothing_waits}
use Rattle.wire.proofs.outboxes.outboxes.Outboxes.new.Goals as goal

pub returns-clause-none : goal.returns-clause-none
returns-clause-none c = nothing_waits (record { machines = c.loop.boxes.items; coordinator = c.new-2.result }) c.loop.invariant.none c.new-2.ensures

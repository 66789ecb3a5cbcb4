-- The call is of the outboxes alone.
use Rattle.std.proofs.Common.{sym, subst}
use Rattle.wire.specs.outboxes.Outboxes.{OutboxesView, outbox_to, without_first}
use Rattle.snapshot_machines.specs.saving.Machines.{IsSnapMachine}
use Rattle.snapshot_machines.proofs.saving.StayLemmas.{stays_out}
use Rattle.snapshot_machines.proofs.saving.machines.SnapMachine.outbox_take.Goals as goal

pub invariant_of-self : goal.invariant_of-self
invariant_of-self g c =
    let m = c.self.inside in
    subst (λ (out : OutboxesView). IsSnapMachine (record m.core { out = out }) m.snaps m.seen) (sym c.take.ensures.behind)
    (stays_out m.core m.snaps m.seen c.args.to (without_first (outbox_to m.core.out c.args.to)) c.self.invariant)

-- Whether a message waits.
use Rattle.std.proofs.Common.{ap, ◌∙◌}
use Rattle.gl_base.specs.declared.scopes.Peer.TheVariants.{Machine}
use Rattle.machine_core.specs.declared.machine_parts.cores.Core.{Core}
use Rattle.wire.specs.outboxes.Outboxes.{has_waiting, outbox_to}
use Rattle.placed_machines.proofs.chromatic.ReadLemmas.{message_waits}
use Rattle.placed_machines.proofs.chromatic.machines.ChromaticMachine.has_message.Goals as goal

pub returns : goal.returns
returns g c = rw (← c.self.view_is) (message_waits g.P.Program.meaning (record { machine = c.self.inside.machine; counts = c.self.inside.counts; window = c.self.inside.window; reports = c.self.inside.reports }) c.args.to c.waits.result (c.waits.ensures ∙ ap (λ (m : Core). has_waiting (outbox_to m.out (Machine c.args.to))) c.core.ensures.parts))

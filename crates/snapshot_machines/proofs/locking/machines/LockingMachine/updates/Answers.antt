-- The log.
use Rattle.std.proofs.Common.{sym, ap, ◌∙◌}
use Rattle.cluster_laws.specs.cluster_core.Parts.{Part}
use Rattle.machine_core.specs.declared.machine_parts.cores.Core.{Core}
use Rattle.snapshot_machines.proofs.locking.machines.LockingMachine.updates.Goals as goal

pub returns : goal.returns
returns g c = rw (← c.self.view_is) (λ st a m snap is. c.deref.ensures.value ∙ ap (λ (n : Core). n.numbers.log.items) c.core.ensures.parts ∙ sym (ap (λ (p : Part). p.log) is.part.rest))

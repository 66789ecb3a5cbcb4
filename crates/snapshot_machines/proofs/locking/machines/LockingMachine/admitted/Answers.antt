-- The serial.
use Rattle.std.proofs.Common.{sym, ap, ◌∙◌}
use Rattle.gl_base.specs.declared.scopes.ScopeId.{ScopeId}
use Rattle.cluster_laws.specs.cluster_core.Parts.{Part}
use Rattle.machine_core.specs.declared.machine_parts.cores.Core.{Core}
use Rattle.snapshot_machines.proofs.locking.machines.LockingMachine.admitted.Goals as goal

pub returns : goal.returns
returns g c = rw (← c.self.view_is) (λ st a m snap is. ap (λ (s : ScopeId). s.serial) c.next_id.ensures ∙ ap (λ (n : Core). n.pipe.serial) c.core.ensures.parts ∙ sym (ap (λ (p : Part). p.serial) is.part.rest))

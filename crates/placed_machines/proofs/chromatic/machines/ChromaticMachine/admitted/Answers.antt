-- The serial.
use Rattle.std.proofs.Common.{sym, ap, ◌∙◌}
use Rattle.cluster_laws.specs.cluster_core.Parts.{Part}
use Rattle.placed_machines.proofs.chromatic.machines.ChromaticMachine.admitted.Goals as goal

pub returns : goal.returns
returns g c = rw (← c.self.view_is) (λ st a m snap is. c.serial.ensures ∙ sym (ap (λ (p : Part). p.serial) is.part.rest))

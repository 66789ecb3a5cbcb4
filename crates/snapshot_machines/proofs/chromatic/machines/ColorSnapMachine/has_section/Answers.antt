use Rattle.snapshot_machines.proofs.chromatic.GuardLemmas.{may_not_send, may_send}
use Rattle.snapshot_machines.proofs.chromatic.machines.ColorSnapMachine.has_section.Goals as goal

pub returns-clause-yes : goal.returns-clause-yes
returns-clause-yes g c = rw (← c.self.view_is) (λ yes. may_send _ (c.has_section.ensures.yes yes))

pub returns-clause-no : goal.returns-clause-no
returns-clause-no g c = rw (← c.self.view_is) (λ no. may_not_send _ (c.has_section.ensures.no no))

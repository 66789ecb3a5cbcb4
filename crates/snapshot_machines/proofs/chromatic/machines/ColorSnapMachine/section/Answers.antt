use Rattle.snapshot_machines.proofs.chromatic.GuardLemmas.{may_not_send, may_send, ok_then}
use Rattle.snapshot_machines.proofs.chromatic.machines.ColorSnapMachine.section.Goals as goal

pub returns-clause-may : goal.returns-clause-may
returns-clause-may g c = rw (← c.self.view_is) (ok_then c.section.result c.section.ensures.may (may_send _))

pub returns-clause-not_now : goal.returns-clause-not_now
returns-clause-not_now g c = rw (← c.self.view_is) (λ is. may_not_send _ (c.section.ensures.not_now is))

pub returns-clause-no_memory : goal.returns-clause-no_memory
returns-clause-no_memory g c = rw (← c.self.view_is) (λ is. may_send _ (c.section.ensures.no_memory is))

-- The scope that the machine names, for each machine of the law.
use Rattle.coordinator.specs.machine_api.Promises.{CanUpdate, CanUpdateNone}
use Rattle.placed_machines.specs.chromatic.Machines.{IsChromaticMachineOf}
use Rattle.snapshot_machines.proofs.locking.AnswerLemmas.{if_none, if_some_both}
use Rattle.placed_machines.proofs.chromatic.WorkLemmas.{can_not_update, can_update}
use Rattle.placed_machines.proofs.chromatic.machines.ChromaticMachine.next_update_here.Goals as goal

pub returns-clause-some : goal.returns-clause-some
returns-clause-some g c = rw (← c.self.view_is) (if_some_both c.next_update.result _ _ (CanUpdate (IsChromaticMachineOf g.P.Program.meaning) (record { machine = c.self.inside.machine; counts = c.self.inside.counts; window = c.self.inside.window; reports = c.self.inside.reports })) c.next_update.ensures.some c.next_update.ensures.home (λ s may home. can_update g.P.Program.meaning (record { machine = c.self.inside.machine; counts = c.self.inside.counts; window = c.self.inside.window; reports = c.self.inside.reports }) s may home))

pub returns-clause-none : goal.returns-clause-none
returns-clause-none g c = rw (← c.self.view_is) (if_none c.next_update.result _ (CanUpdateNone (IsChromaticMachineOf g.P.Program.meaning) (record { machine = c.self.inside.machine; counts = c.self.inside.counts; window = c.self.inside.window; reports = c.self.inside.reports })) c.next_update.ensures.none (λ not s ticket. can_not_update g.P.Program.meaning (record { machine = c.self.inside.machine; counts = c.self.inside.counts; window = c.self.inside.window; reports = c.self.inside.reports }) s (not s) ticket))

-- The scope that the machine names, for each machine of the law.
use Rattle.gl_base.specs.declared.scopes.ScopeId.{ScopeId}
use Rattle.coordinator.specs.machine_api.Promises.{CanDo, CanMarkNone, Mark}
use Rattle.placed_machines.specs.chromatic.Machines.{IsChromaticMachineOf}
use Rattle.snapshot_machines.proofs.locking.AnswerLemmas.{if_none, if_some_both}
use Rattle.placed_machines.proofs.chromatic.MarkLemmas.{can_mark, can_not_mark}
use Rattle.placed_machines.proofs.chromatic.machines.ChromaticMachine.next_mark_here.Goals as goal

pub returns-clause-some : goal.returns-clause-some
returns-clause-some g c = rw (← c.self.view_is) (if_some_both c.next_mark.result _ _ (λ (s : ScopeId). CanDo (IsChromaticMachineOf g.P.Program.meaning) (record { machine = c.self.inside.machine; counts = c.self.inside.counts; window = c.self.inside.window; reports = c.self.inside.reports }) (Mark s)) c.next_mark.ensures.some c.next_mark.ensures.home (λ s may home. can_mark g.P.Program.meaning (record { machine = c.self.inside.machine; counts = c.self.inside.counts; window = c.self.inside.window; reports = c.self.inside.reports }) s may home))

pub returns-clause-none : goal.returns-clause-none
returns-clause-none g c = rw (← c.self.view_is) (if_none c.next_mark.result _ (CanMarkNone (IsChromaticMachineOf g.P.Program.meaning) (record { machine = c.self.inside.machine; counts = c.self.inside.counts; window = c.self.inside.window; reports = c.self.inside.reports })) c.next_mark.ensures.none (λ not s. can_not_mark g.P.Program.meaning (record { machine = c.self.inside.machine; counts = c.self.inside.counts; window = c.self.inside.window; reports = c.self.inside.reports }) s (not s)))

-- The vertex that was found, for each machine of the law.
use Rattle.std.proofs.Common.{subst, ◌≡◌}
use Rattle.gl_base.specs.declared.numbers.Vertex.{Vertex}
use Rattle.coordinator.specs.machine_api.AtOnce.{CanNotUpdateAtOnce}
use Rattle.coordinator.specs.machine_api.Eager.{CanBeginAtOnce}
use Rattle.snapshot_machines.proofs.locking.AnswerLemmas.{if_none, if_some}
use Rattle.placed_machines.specs.chromatic.Machines.{ChromaticMachineView, IsChromaticMachineOf}
use Rattle.placed_machines.proofs.chromatic.AtOnceLemmas.{can_not_at_once}
use Rattle.placed_machines.proofs.chromatic.EagerLemmas.{step_begins}
use Rattle.placed_machines.proofs.chromatic.eager.ChromaticMachineEagerMachine.next_at_once.Goals as goal

pub returns-clause-can : goal.returns-clause-can
returns-clause-can g c =
    let x : ChromaticMachineView g.row.P.Denot = record { machine = c.self.inside.machine; counts = c.self.inside.counts; window = c.self.inside.window; reports = c.self.inside.reports } in
    let core = c.next_at_once.ensures.order in
    rw (← c.self.view_is)
    (if_some c.next_at_once.result _ (λ v. CanBeginAtOnce (IsChromaticMachineOf g.P.Program.meaning) x v.0) c.next_at_once.ensures.found
    (λ v finds. subst (λ (w : Vertex). CanBeginAtOnce (IsChromaticMachineOf g.P.Program.meaning) x w.0) finds.1 (step_begins g.P.Program.meaning x core.orderly core.places core.outside finds.0 finds.2)))

pub returns-clause-none : goal.returns-clause-none
returns-clause-none g c =
    let x : ChromaticMachineView g.row.P.Denot = record { machine = c.self.inside.machine; counts = c.self.inside.counts; window = c.self.inside.window; reports = c.self.inside.reports } in
    let core = c.next_at_once.ensures.order in
    rw (← c.self.view_is)
    (if_none c.next_at_once.result _ (CanNotUpdateAtOnce (IsChromaticMachineOf g.P.Program.meaning) x) c.next_at_once.ensures.none
    (can_not_at_once g.P.Program.meaning x core.orderly core.places core.outside))

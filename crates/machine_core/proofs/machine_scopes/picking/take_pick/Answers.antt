use Rattle.std.proofs.Common.{Option, None, Some, IfSome}
use Rattle.task_sets.specs.task_sched.Tasks.{TasksView, IsNextPick}
use Rattle.task_sets.specs.declared.task_sched.task_sets.Pick.{Pick}
use Rattle.machine_core.specs.machine_scopes.Inner.Picking.{CanTake}
use Rattle.machine_core.proofs.machine_scopes.PickLemmas.{can_take}
use Rattle.machine_core.proofs.machine_scopes.picking.take_pick.Goals as goal

each : (t : TasksView) (o : Option Pick) → ((pick : Pick) → IsNextPick t (Some pick) → CanTake t pick) → IsNextPick t o → IfSome o (λ pick. CanTake t pick)
each t None can next = tt
each t (Some pick) can next = can pick next

pub returns-clause-can : goal.returns-clause-can
returns-clause-can c =
    let t = c.args.tasks.now in
    each t c.next.result (λ pick. can_take t c.next.result pick c.next.ensures.pick c.next.ensures.within c.next.ensures.asked) c.next.ensures.pick

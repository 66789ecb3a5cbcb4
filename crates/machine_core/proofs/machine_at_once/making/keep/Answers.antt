-- The task is admitted, and its update kept.
use Rattle.std.proofs.Common.{subst}
use Rattle.gl_base.specs.declared.entries.Entry.TheVariants.{Go}
use Rattle.gl_base.specs.declared.numbers.MachineNo.{MachineNo}
use Rattle.machine_core.specs.machine_at_once.Inner.Making.{HasUpdated, made_of, run_of}
use Rattle.machine_core.proofs.machine_at_once.Numbers.{can_finish, run_kept, tasks_of, updated_kept}
use Rattle.machine_core.proofs.machine_at_once.making.keep.Goals as goal

pub finish_work-requires-clause-can : goal.finish_work-requires-clause-can
finish_work-requires-clause-can c = can_finish c.args.numbers.now c.admit_task.new.self (run_of c.args.work c.args.woken) c.args.place c.requires c.admit_task.ensures

pub finish_work-requires-clause-tasks : goal.finish_work-requires-clause-tasks
finish_work-requires-clause-tasks c = tasks_of c.args.numbers.now c.admit_task.new.self (run_of c.args.work c.args.woken) c.args.place c.requires c.admit_task.ensures

pub returns-clause-updated : goal.returns-clause-updated
returns-clause-updated c =
    let n = c.args.numbers.now in
    let o = (run_of c.args.work c.args.woken) in
    subst (λ (a : MachineNo). HasUpdated n c.finish_work.new.self (made_of o) (Go a o.work.vertex c.args.ticket)) c.me.ensures
    (updated_kept n c.admit_task.new.self o c.args.place c.requires c.admit_task.ensures c.finish_work.new.self _ c.finish_work.ensures.updated)

pub returns-clause-run : goal.returns-clause-run
returns-clause-run c =
    run_kept c.args.numbers.now c.admit_task.new.self (run_of c.args.work c.args.woken) c.args.place c.requires c.admit_task.ensures c.finish_work.new.self
    c.finish_work.ensures.tasks_kept c.finish_work.ensures.many_tasks c.finish_work.ensures.run

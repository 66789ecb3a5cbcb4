-- A scope whose update may be made has a task, also after the call's order.
use Rattle.std.proofs.Common.{refl}
use Rattle.cluster_step.proofs.trace.Calling.{flagged_of, home_of, none_of, task_of}
use Rattle.cluster_step.proofs.trace.traces.Trace.next_update.Goals as goal

pub returns-clause-home : goal.returns-clause-home
returns-clause-home g c =
    home_of g.M.SavingMachine.represents _ c.args.self.now c.self.view_is c.args.at.0 c.machine.result.now c.machine.ensures.is c.next_update.result c.args.at refl c.machine.ensures.cluster c.next_update.ensures.some

pub returns-clause-task : goal.returns-clause-task
returns-clause-task g c = task_of g.M.SavingMachine.represents _ c.args.self.now c.self.view_is c.args.at.0 c.machine.result.now c.machine.ensures.is c.next_update.result c.next_update.ensures.some

pub returns-clause-flagged : goal.returns-clause-flagged
returns-clause-flagged g c = flagged_of g.M.SavingMachine.represents _ c.args.self.now c.self.view_is c.args.at.0 c.machine.result.now c.machine.ensures.is c.next_update.result c.next_update.ensures.some

pub returns-clause-none : goal.returns-clause-none
returns-clause-none g c = none_of g.M.SavingMachine.represents _ c.args.self.now c.self.view_is c.args.at.0 c.machine.result.now c.machine.ensures.is c.next_update.result c.args.at refl c.next_update.ensures.none

-- Machine by machine.
use Rattle.std.proofs.Common.{◌≡◌, ℕ, ◌<◌, arith, false, length, rules}
use Rattle.cluster_step.proofs.trace.Going.{setting_now}
use Rattle.cluster_step.specs.trace.Traces.{newest_setting}
use Rattle.engine_runs.proofs.finish.MachineLemmas.{task_in}
use Rattle.engine_runs.specs.finish.Gathered.{InEachTrace, IsAnyMachineOf, OfEach}
use Rattle.engine_runs.proofs.finish.tasks.first_task.Given as given
use Rattle.engine_runs.proofs.finish.tasks.first_task.Goals as goal
use borrow.Author.Count.{below_more}

pub returns-in-Some-clause-some : goal.returns-in-Some-clause-some
returns-in-Some-clause-some g c = λ st o events x now.
    let last = newest_setting st o events in
    let setting = setting_now st o events now.setting in
    let represents = c.machine.ensures st o events x now in
    task_in (IsAnyMachineOf g.P.Program.meaning) c.args.trace.now st o events x now c.loop-m.m c.in-Some.v.0 (c.in-Some.ensures.some last c.loop-m.m (x.machine c.loop-m.m) setting represents)
    (c.in-Some.ensures.own last c.loop-m.m (x.machine c.loop-m.m) setting represents)

pub loop-m-preserved : goal.loop-m-preserved
loop-m-preserved g c =
    let none : OfEach (IsAnyMachineOf g.P.Program.meaning) c.machine.result.now (λ st a m. (u : ℕ) → m.part.task u ≡ false) = search rules in
    below_more (λ a. InEachTrace (IsAnyMachineOf g.P.Program.meaning) c.args.trace.now (λ st o events x. (u : ℕ) → (x.machine a).part.task u ≡ false)) c.loop-m.m c.loop-m.invariant
    (λ st o events x now. none (newest_setting st o events) c.loop-m.m (x.machine c.loop-m.m) (setting_now st o events now.setting) (c.machine.ensures st o events x now))

below : (g : given.Over) (c : goal.After-loop-m g) (a : ℕ) → a < length c.args.trace.now.now.machines.items → a < c.loop-m.m
below g c a low = omega (arith, c.machines-m-end.ensures.count, c.loop-m-test.false)

pub returns-clause-none : goal.returns-clause-none
returns-clause-none g c = λ a low. c.loop-m.invariant a (below g c a low)

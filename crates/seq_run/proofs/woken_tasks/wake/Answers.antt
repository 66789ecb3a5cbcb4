use Rattle.std.proofs.Common.{◌≡◌, ap, ◌∙◌, subst, length, take, arith}
use Rattle.std.proofs.Math.Seq.{take-length}
use Rattle.seq_run.proofs.WokenTasks.{AreAddedBy, added_all}
use Rattle.seq_run.proofs.woken_tasks.wake.Goals as goal

pub returns-clause-tasks : goal.returns-clause-tasks
returns-clause-tasks c =
    let links = c.args.links.now in
    let end : c.loop-link.link-index ≡ length links = omega (arith, c.loop-link-test.false, c.loop-link.auto.link-index-end) in
    let whole : take c.loop-link.link-index links ≡ links = ap (λ k. take k links) end ∙ take-length links in
    added_all c.args.woken links c.args.tasks.now c.loop-link.tasks (subst (λ passed. AreAddedBy c.args.woken passed c.args.tasks.now c.loop-link.tasks) whole c.loop-link.invariant)

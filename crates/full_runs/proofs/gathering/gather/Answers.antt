use Rattle.full_runs.proofs.HandOver.{drawn_here, so_far_here}
use Rattle.full_runs.proofs.gathering.gather.Goals as goal

pub returns-clause-so_far : goal.returns-clause-so_far
returns-clause-so_far c = λ p has.
    so_far_here c.args.division.now c.args.machines p c.args.cluster.now has c.in_ok-order.order.items (c.in_ok-order.ensures has.setting p has.world has.is has.many)
    c.in_ok-values.values.items c.in_ok-edges.edges.items c.in_ok-tasks.tasks (c.in_ok-values.ensures has.setting p has.world has.divided has.is)
    (c.in_ok-edges.ensures has.setting p has.world has.divided has.is) c.in_ok-tasks.ensures.count (c.in_ok-tasks.ensures.each has.setting p has.world has.divided has.is)

pub returns-clause-drawn : goal.returns-clause-drawn
returns-clause-drawn c = λ p has.
    drawn_here c.args.division.now c.args.machines p c.args.cluster.now has c.in_ok-order.order.items (c.in_ok-order.ensures has.setting p has.world has.is has.many)

use Rattle.std.proofs.Common.{◌≡◌}
use Rattle.std.proofs.Math.ListN.{replicate}
use Rattle.task_sets.specs.declared.vertex_queue.queues.Standing.TheVariants.{Outside}
use Rattle.task_sets.proofs.vertex_queue.Standings.{none_stand, none_is_member}
use Rattle.task_sets.proofs.vertex_queue.queues.VertexQueue.none.Goals as goal

pub invariant_of-result : goal.invariant_of-result
invariant_of-result c =
    let outside : c.in_ok-from_elem.field-0.items ≡ replicate c.args.count Outside = c.in_ok-from_elem.ensures.items_if_clones_equal (λ y clone. clone) in
    rw (outside, c.in_ok-with_capacity.ensures.items)
    (none_stand c.args.count _ c.in_ok-with_capacity.ensures.capacity)

pub returns-clause-none : goal.returns-clause-none
returns-clause-none c =
    let outside : c.in_ok-from_elem.field-0.items ≡ replicate c.args.count Outside = c.in_ok-from_elem.ensures.items_if_clones_equal (λ y clone. clone) in
    rw outside (λ u. none_is_member c.args.count u)

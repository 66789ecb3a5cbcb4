use Rattle.std.proofs.Common.{◌≡◌, map}
use Rattle.std.specs.VecDeque.{deque_capacity, deque_len}
use Rattle.task_sets.specs.vertex_queue.Inner.Queues.{is_member, stands_in, KeepsQueue}
use Rattle.task_sets.proofs.vertex_queue.queues.drop_done.Given as goal

abbrev pub invariant-loop-first : goal.invariant-loop-first
invariant-loop-first l = record { members : map is_member l.standings ≡ map is_member l.initial.standings; queue : KeepsQueue (map is_member l.standings) (map stands_in l.standings) l.queue.items; room : deque_capacity l.queue ≡ deque_capacity l.initial.queue }

abbrev pub decreases-loop-first : goal.decreases-loop-first
decreases-loop-first l = deque_len l.queue

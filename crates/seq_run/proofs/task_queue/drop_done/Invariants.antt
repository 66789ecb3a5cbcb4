use Rattle.std.proofs.Common.{◌≡◌, map}
use Rattle.std.specs.VecDeque.{deque_capacity, deque_len}
use Rattle.seq_run.specs.Inner.TaskQueues.{is_task, is_queued, IsQueueOf}
use Rattle.seq_run.proofs.task_queue.drop_done.Given as goal

abbrev pub invariant-loop-first : goal.invariant-loop-first
invariant-loop-first l = record { tasks : map is_task l.standings ≡ map is_task l.initial.standings; queue : IsQueueOf (map is_task l.standings) (map is_queued l.standings) l.queue.items; room : deque_capacity l.queue ≡ deque_capacity l.initial.queue }

abbrev pub decreases-loop-first : goal.decreases-loop-first
decreases-loop-first l = deque_len l.queue

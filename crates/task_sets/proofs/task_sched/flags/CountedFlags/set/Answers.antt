-- There are no more flags than vertices.
use Rattle.std.proofs.Common.{arith}
use Rattle.task_sets.proofs.vertex_queue.Queueing.{bits-le}
use Rattle.task_sets.proofs.task_sched.flags.CountedFlags.set.Goals as goal

pub overflow_add-self : goal.overflow_add-self
overflow_add-self c =
    let most = bits-le c.self.inside.flags.items in
    record { fits = omega (arith, most, c.self.invariant.0, c.self.invariant.1) }

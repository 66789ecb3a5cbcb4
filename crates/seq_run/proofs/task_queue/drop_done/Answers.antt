use Rattle.std.proofs.Common.{◌<◌, ◌≡◌, ◌∙◌, false, refl, sym, length, slice_index_or, arith}
use Rattle.seq_run.specs.declared.task_queue.Standing.TheVariants.{Outside}
use Rattle.seq_run.specs.Inner.TaskQueues.{is_task}
use Rattle.seq_run.proofs.Standings.{first_stands, first_out, same_tasks}
use Rattle.seq_run.proofs.task_queue.drop_done.Goals as goal

pub slice_copy_out-is_task : goal.slice_copy_out-is_task
slice_copy_out-is_task c =
    let queue = c.loop-first.queue.items in
    let some : 0 < length queue = let long = c.loop-first.queue.ok in omega (arith, long, c.in-Some.ensures.variant.0 refl) in
    first_stands c.loop-first.standings queue c.in-Some.first.now some c.in-Some.ensures.lookup c.loop-first.invariant.queue

pub bounds-standings-place : goal.bounds-standings-place
bounds-standings-place c =
    let queue = c.loop-first.queue.items in
    let some : 0 < length queue = let long = c.loop-first.queue.ok in omega (arith, long, c.in-Some.ensures.variant.0 refl) in
    first_stands c.loop-first.standings queue c.in-Some.first.now some c.in-Some.ensures.lookup c.loop-first.invariant.queue

pub loop-first-preserved : goal.loop-first-preserved
loop-first-preserved c =
    let queue = c.loop-first.queue.items in
    let some : 0 < length queue = let long = c.loop-first.queue.ok in omega (arith, long, c.in-Some.ensures.variant.0 refl) in
    let done : is_task (slice_index_or c.loop-first.standings c.in-Some.first.now.0 Outside) ≡ false = sym c.is_task.ensures ∙ c.if-is_task.false in
    record {
      tasks = same_tasks c.loop-first.standings c.in-Some.first.now.0 done ∙ c.loop-first.invariant.tasks;
      queue = rw c.pop_front.ensures.rest (first_out c.loop-first.standings queue c.in-Some.first.now some c.in-Some.ensures.lookup done c.loop-first.invariant.queue);
      room = c.pop_front.ensures.capacity ∙ c.loop-first.invariant.room;
    }

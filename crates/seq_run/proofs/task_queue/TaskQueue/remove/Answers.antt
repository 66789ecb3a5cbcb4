use Rattle.std.proofs.Common.{◌≡◌, ◌<◌, ◌∙◌, ap, false, length, map, slice_set, arith}
use Rattle.std.proofs.Math.ListN.{length-set}
use Rattle.std.proofs.lemmas.List.{length-map, map-set}
use Rattle.seq_run.specs.Inner.TaskQueues.{is_task}
use Rattle.seq_run.proofs.Playing.{written_back}
use Rattle.seq_run.proofs.Standings.{done_there}
use Rattle.seq_run.proofs.task_queue.TaskQueue.remove.Goals as goal

pub drop_done-requires : goal.drop_done-requires
drop_done-requires c =
    let standings = c.self.inside.standings.items in
    let seen : length (map is_task standings) ≡ length c.args.self.now = ap length c.self.view_is in
    let within : c.args.vertex.0 < length standings = let tasks = length-map standings is_task in omega (arith, c.requires, seen, tasks) in
    rw c.deref_mut.ensures.value
    (done_there standings c.self.inside.queue.items c.args.vertex.0 c.index.result.now c.done.result within c.index.ensures c.done.ensures.task c.done.ensures.queued c.self.invariant.queue)

pub returns : goal.returns
returns c =
    let standings = c.self.inside.standings.items in
    let len = c.self.inside.standings.len in
    let v = c.args.vertex.0 in
    let new = c.drop_done.new.standings in
    let old = slice_set standings v c.done.result in
    let same : map is_task new ≡ map is_task old = c.drop_done.ensures.tasks ∙ ap (map is_task) c.deref_mut.ensures.value in
    let long_old : length old ≡ len = let long = c.self.inside.standings.ok in let set = length-set standings v c.done.result in omega (arith, long, set) in
    let long_new : length new ≡ len = let many = ap length same in let these = length-map new is_task in let those = length-map old is_task in omega (arith, many, these, those, long_old) in
    rw (written_back len new old long_new long_old)
    (same
    ∙ map-set is_task standings v c.done.result
    ∙ ap (λ task. slice_set (map is_task standings) v task) c.done.ensures.task
    ∙ ap (λ tasks. slice_set tasks v false) c.self.view_is)

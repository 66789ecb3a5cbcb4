-- How vertices stand to a queue of tasks, and what adding, removing and dropping leave of it.
use Rattle.std.proofs.Common.{◌≡◌, ℕ, zero, suc, ◌<◌, ◌≤◌, Bool, true, false, List, [], ◌∷◌, ◌++◌, length, map, slice_index_or, slice_set, drop, refl, sym, ap, ◌∙◌, arith}
use Rattle.std.proofs.Math.ListN.{length-set, replicate}
use Rattle.std.proofs.Math.Seq.{map-set_same}
use Rattle.std.proofs.lemmas.List.{get_or-map, length-map, length-replicate, map-set}
use Rattle.gl_base.specs.declared.numbers.Vertex.{Vertex}
use Rattle.seq_run.specs.declared.task_queue.Standing.{Standing}
use Rattle.seq_run.specs.declared.task_queue.Standing.TheVariants.{Outside, Waiting}
use Rattle.seq_run.specs.Inner.TaskQueues.{flag, is_task, is_queued, IsQueueOf, IsTaskQueue}
use Rattle.seq_run.proofs.Queueing.{added, added_again, removed, first_raised, first_added, first_within, first_dropped, none_queued, flags_down}

-- the flag of a vertex whose standing is read
pub flag_read : (f : Standing → Bool) (standings : List Standing) (u : ℕ) (x : Standing) → u < length standings → x ≡ slice_index_or standings u x → flag (map f standings) u ≡ f x
flag_read f standings u x within read = get_or-map f standings u x false within ∙ ap f (sym read)

-- a vertex that stands otherwise, and has the same flag
same_flags : (f : Standing → Bool) (standings : List Standing) (u : ℕ) (x y : Standing) → x ≡ slice_index_or standings u x → f y ≡ f x → map f (slice_set standings u y) ≡ map f standings
same_flags f standings u x y read same = map-set_same f standings u y x (same ∙ ap f read)

-- a vertex outside joins the queue
pub joined : (standings : List Standing) (queue : List Vertex) (capacity : ℕ) (v : Vertex) (x : Standing) → v.0 < length standings → x ≡ slice_index_or standings v.0 x → is_queued x ≡ false → IsTaskQueue (map is_task standings) (map is_queued standings) queue capacity → IsTaskQueue (map is_task (slice_set standings v.0 Waiting)) (map is_queued (slice_set standings v.0 Waiting)) (queue ++ v ∷ []) capacity
joined standings queue capacity v x within read out is =
    let inside : v.0 < length (map is_task standings) = let as_many = length-map standings is_task in omega arith in
    let absent = flag_read is_queued standings v.0 x within read ∙ out in
    let many = length-set (map is_task standings) v.0 true in
    let room = is.room in
    rw (map-set is_task standings v.0 Waiting, map-set is_queued standings v.0 Waiting)
    (record {
      queue = added (map is_task standings) (map is_queued standings) queue v inside absent is.queue;
      first = first_added (map is_task standings) queue v inside is.first;
      room = omega (arith, many, room);
    })

-- a vertex that is queued becomes a task
pub rejoined : (standings : List Standing) (queue : List Vertex) (capacity : ℕ) (v : Vertex) (x : Standing) → v.0 < length standings → x ≡ slice_index_or standings v.0 x → is_queued x ≡ true → IsTaskQueue (map is_task standings) (map is_queued standings) queue capacity → IsTaskQueue (map is_task (slice_set standings v.0 Waiting)) (map is_queued (slice_set standings v.0 Waiting)) queue capacity
rejoined standings queue capacity v x within read there is =
    let inside : v.0 < length (map is_task standings) = let as_many = length-map standings is_task in omega arith in
    let many = length-set (map is_task standings) v.0 true in
    let room = is.room in
    rw (map-set is_task standings v.0 Waiting, same_flags is_queued standings v.0 x Waiting read (sym there))
    (record {
      queue = added_again (map is_task standings) (map is_queued standings) queue v.0 inside (flag_read is_queued standings v.0 x within read ∙ there) is.queue;
      first = first_raised (map is_task standings) queue v.0 inside is.first;
      room = omega (arith, many, room);
    })

-- a vertex becomes no task, and stays in the queue where it is
pub done_there : (standings : List Standing) (queue : List Vertex) (v : ℕ) (x y : Standing) → v < length standings → x ≡ slice_index_or standings v x → is_task y ≡ false → is_queued y ≡ is_queued x → IsQueueOf (map is_task standings) (map is_queued standings) queue → IsQueueOf (map is_task (slice_set standings v y)) (map is_queued (slice_set standings v y)) queue
done_there standings queue v x y within read done same is =
    let inside : v < length (map is_task standings) = let as_many = length-map standings is_task in omega arith in
    rw (map-set is_task standings v y, done, same_flags is_queued standings v x y read same)
    (removed (map is_task standings) (map is_queued standings) queue v inside is)

-- the first vertex of the queue has a standing
pub first_stands : (standings : List Standing) (queue : List Vertex) (v : Vertex) → 0 < length queue → v ≡ slice_index_or queue 0 v → IsQueueOf (map is_task standings) (map is_queued standings) queue → v.0 < length standings
first_stands standings queue v some first is =
    let within = first_within (map is_task standings) (map is_queued standings) queue v some first is in
    let many = length-map standings is_queued in
    omega (arith, within, many)

-- no task becomes another one where a vertex that is none leaves the queue
pub same_tasks : (standings : List Standing) (v : ℕ) → is_task (slice_index_or standings v Outside) ≡ false → map is_task (slice_set standings v Outside) ≡ map is_task standings
same_tasks standings v done = map-set_same is_task standings v Outside Outside (sym done)

-- the first vertex leaves the queue, where it is no task any more
pub first_out : (standings : List Standing) (queue : List Vertex) (v : Vertex) → 0 < length queue → v ≡ slice_index_or queue 0 v → is_task (slice_index_or standings v.0 Outside) ≡ false → IsQueueOf (map is_task standings) (map is_queued standings) queue → IsQueueOf (map is_task (slice_set standings v.0 Outside)) (map is_queued (slice_set standings v.0 Outside)) (drop 1 queue)
first_out standings queue v some first done is =
    let within = first_stands standings queue v some first is in
    rw (same_tasks standings v.0 done, map-set is_queued standings v.0 Outside)
    (first_dropped (map is_task standings) (map is_queued standings) queue v some first (get_or-map is_task standings v.0 Outside false within ∙ done) is)

map-replicate : (f : Standing → Bool) (n : ℕ) (x : Standing) → map f (replicate n x) ≡ replicate n (f x)
map-replicate f zero x = refl
map-replicate f (suc n) x = ap (λ flags. f x ∷ flags) (map-replicate f n x)

-- so many vertices that stand outside an empty queue
pub none_stand : (n capacity : ℕ) → n ≤ capacity → IsTaskQueue (map is_task (replicate n Outside)) (map is_queued (replicate n Outside)) [] capacity
none_stand n capacity room =
    let many : length (replicate n false) ≡ n = length-replicate n false in
    rw (map-replicate is_task n Outside, map-replicate is_queued n Outside)
    (record {
      queue = none_queued n;
      first = λ v some. absurd (omega arith);
      room = omega (arith, many, room);
    })

pub none_is_task : (n u : ℕ) → flag (map is_task (replicate n Outside)) u ≡ false
none_is_task n u = rw (map-replicate is_task n Outside) (flags_down n u)

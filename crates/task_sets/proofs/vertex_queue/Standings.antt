-- How vertices stand to a queue of members, and what adding, removing and dropping leave of it.
use Rattle.std.proofs.Common.{◌≡◌, ℕ, zero, suc, ◌<◌, ◌≤◌, Bool, true, false, List, [], ◌∷◌, ◌++◌, length, map, slice_index_or, slice_set, drop, refl, sym, ap, ◌∙◌, arith}
use Rattle.std.proofs.Math.ListN.{length-set, replicate}
use Rattle.std.proofs.Math.Seq.{map-set_same}
use Rattle.std.proofs.lemmas.List.{get_or-map, length-map, length-replicate, map-set}
use Rattle.gl_base.specs.declared.numbers.Vertex.{Vertex}
use Rattle.task_sets.specs.declared.vertex_queue.queues.Standing.{Standing}
use Rattle.task_sets.specs.declared.vertex_queue.queues.Standing.TheVariants.{Outside, Waiting}
use Rattle.task_sets.specs.vertex_queue.Flags.{is_flagged}
use Rattle.task_sets.specs.vertex_queue.Inner.Queues.{is_member, stands_in, KeepsQueue, IsVertexQueue}
use Rattle.task_sets.proofs.vertex_queue.Queueing.{added, added_again, removed, first_raised, first_added, first_within, first_dropped, none_queued, flags_down}

-- the is_flagged of a vertex whose standing is read
pub flag_read : (f : Standing → Bool) (standings : List Standing) (u : ℕ) (x : Standing) → u < length standings → x ≡ slice_index_or standings u x → is_flagged (map f standings) u ≡ f x
flag_read f standings u x within read = get_or-map f standings u x false within ∙ ap f (sym read)

-- a vertex that stands otherwise, and has the same is_flagged
same_flags : (f : Standing → Bool) (standings : List Standing) (u : ℕ) (x y : Standing) → x ≡ slice_index_or standings u x → f y ≡ f x → map f (slice_set standings u y) ≡ map f standings
same_flags f standings u x y read same = map-set_same f standings u y x (same ∙ ap f read)

-- a vertex outside joins the queue
pub joined : (standings : List Standing) (queue : List Vertex) (capacity : ℕ) (v : Vertex) (x : Standing) → v.0 < length standings → x ≡ slice_index_or standings v.0 x → stands_in x ≡ false → IsVertexQueue (map is_member standings) (map stands_in standings) queue capacity → IsVertexQueue (map is_member (slice_set standings v.0 Waiting)) (map stands_in (slice_set standings v.0 Waiting)) (queue ++ v ∷ []) capacity
joined standings queue capacity v x within read out is =
    let inside : v.0 < length (map is_member standings) = let as_many = length-map standings is_member in omega arith in
    let absent = flag_read stands_in standings v.0 x within read ∙ out in
    let many = length-set (map is_member standings) v.0 true in
    let room = is.room in
    rw (map-set is_member standings v.0 Waiting, map-set stands_in standings v.0 Waiting)
    (record {
      queue = added (map is_member standings) (map stands_in standings) queue v inside absent is.queue;
      first = first_added (map is_member standings) queue v inside is.first;
      room = omega (arith, many, room);
    })

-- a vertex that is queued becomes a member
pub rejoined : (standings : List Standing) (queue : List Vertex) (capacity : ℕ) (v : Vertex) (x : Standing) → v.0 < length standings → x ≡ slice_index_or standings v.0 x → stands_in x ≡ true → IsVertexQueue (map is_member standings) (map stands_in standings) queue capacity → IsVertexQueue (map is_member (slice_set standings v.0 Waiting)) (map stands_in (slice_set standings v.0 Waiting)) queue capacity
rejoined standings queue capacity v x within read there is =
    let inside : v.0 < length (map is_member standings) = let as_many = length-map standings is_member in omega arith in
    let many = length-set (map is_member standings) v.0 true in
    let room = is.room in
    rw (map-set is_member standings v.0 Waiting, same_flags stands_in standings v.0 x Waiting read (sym there))
    (record {
      queue = added_again (map is_member standings) (map stands_in standings) queue v.0 inside (flag_read stands_in standings v.0 x within read ∙ there) is.queue;
      first = first_raised (map is_member standings) queue v.0 inside is.first;
      room = omega (arith, many, room);
    })

-- a vertex becomes no member, and stays in the queue where it is
pub done_there : (standings : List Standing) (queue : List Vertex) (v : ℕ) (x y : Standing) → v < length standings → x ≡ slice_index_or standings v x → is_member y ≡ false → stands_in y ≡ stands_in x → KeepsQueue (map is_member standings) (map stands_in standings) queue → KeepsQueue (map is_member (slice_set standings v y)) (map stands_in (slice_set standings v y)) queue
done_there standings queue v x y within read done same is =
    let inside : v < length (map is_member standings) = let as_many = length-map standings is_member in omega arith in
    rw (map-set is_member standings v y, done, same_flags stands_in standings v x y read same)
    (removed (map is_member standings) (map stands_in standings) queue v inside is)

-- the first vertex of the queue has a standing
pub first_stands : (standings : List Standing) (queue : List Vertex) (v : Vertex) → 0 < length queue → v ≡ slice_index_or queue 0 v → KeepsQueue (map is_member standings) (map stands_in standings) queue → v.0 < length standings
first_stands standings queue v some first is =
    let within = first_within (map is_member standings) (map stands_in standings) queue v some first is in
    let many = length-map standings stands_in in
    omega (arith, within, many)

-- no member becomes another one where a vertex that is none leaves the queue
pub same_members : (standings : List Standing) (v : ℕ) → is_member (slice_index_or standings v Outside) ≡ false → map is_member (slice_set standings v Outside) ≡ map is_member standings
same_members standings v done = map-set_same is_member standings v Outside Outside (sym done)

-- the first vertex leaves the queue, where it is no member any more
pub first_out : (standings : List Standing) (queue : List Vertex) (v : Vertex) → 0 < length queue → v ≡ slice_index_or queue 0 v → is_member (slice_index_or standings v.0 Outside) ≡ false → KeepsQueue (map is_member standings) (map stands_in standings) queue → KeepsQueue (map is_member (slice_set standings v.0 Outside)) (map stands_in (slice_set standings v.0 Outside)) (drop 1 queue)
first_out standings queue v some first done is =
    let within = first_stands standings queue v some first is in
    rw (same_members standings v.0 done, map-set stands_in standings v.0 Outside)
    (first_dropped (map is_member standings) (map stands_in standings) queue v some first (get_or-map is_member standings v.0 Outside false within ∙ done) is)

map-replicate : (f : Standing → Bool) (n : ℕ) (x : Standing) → map f (replicate n x) ≡ replicate n (f x)
map-replicate f zero x = refl
map-replicate f (suc n) x = ap (λ flags. f x ∷ flags) (map-replicate f n x)

-- so many vertices that stand outside an empty queue
pub none_stand : (n capacity : ℕ) → n ≤ capacity → IsVertexQueue (map is_member (replicate n Outside)) (map stands_in (replicate n Outside)) [] capacity
none_stand n capacity room =
    let many : length (replicate n false) ≡ n = length-replicate n false in
    rw (map-replicate is_member n Outside, map-replicate stands_in n Outside)
    (record {
      queue = none_queued n;
      first = λ v some. absurd (omega arith);
      room = omega (arith, many, room);
    })

pub none_is_member : (n u : ℕ) → is_flagged (map is_member (replicate n Outside)) u ≡ false
none_is_member n u = rw (map-replicate is_member n Outside) (flags_down n u)

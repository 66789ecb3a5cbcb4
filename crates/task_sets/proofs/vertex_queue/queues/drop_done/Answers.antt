use Rattle.std.proofs.Common.{◌<◌, ◌≡◌, ◌∙◌, false, refl, sym, length, slice_index_or, arith}
use Rattle.task_sets.specs.declared.vertex_queue.queues.Standing.TheVariants.{Outside}
use Rattle.task_sets.specs.vertex_queue.Inner.Queues.{is_member}
use Rattle.task_sets.proofs.vertex_queue.Standings.{first_stands, first_out, same_members}
use Rattle.task_sets.proofs.vertex_queue.queues.drop_done.Goals as goal

pub slice_copy_out-is_member : goal.slice_copy_out-is_member
slice_copy_out-is_member c =
    let queue = c.loop-first.queue.items in
    let some : 0 < length queue = let long = c.loop-first.queue.ok in omega (arith, long, c.in-Some.ensures.variant.0 refl) in
    first_stands c.loop-first.standings queue c.in-Some.first.now some c.in-Some.ensures.lookup c.loop-first.invariant.queue

pub bounds-standings-place : goal.bounds-standings-place
bounds-standings-place c =
    let queue = c.loop-first.queue.items in
    let some : 0 < length queue = let long = c.loop-first.queue.ok in omega (arith, long, c.in-Some.ensures.variant.0 refl) in
    first_stands c.loop-first.standings queue c.in-Some.first.now some c.in-Some.ensures.lookup c.loop-first.invariant.queue

pub loop-first-preserved : goal.loop-first-preserved
loop-first-preserved c =
    let queue = c.loop-first.queue.items in
    let some : 0 < length queue = let long = c.loop-first.queue.ok in omega (arith, long, c.in-Some.ensures.variant.0 refl) in
    let done : is_member (slice_index_or c.loop-first.standings c.in-Some.first.now.0 Outside) ≡ false = sym c.is_member.ensures ∙ c.if-is_member.false in
    record {
      members = same_members c.loop-first.standings c.in-Some.first.now.0 done ∙ c.loop-first.invariant.members;
      queue = rw c.pop_front.ensures.rest (first_out c.loop-first.standings queue c.in-Some.first.now some c.in-Some.ensures.lookup done c.loop-first.invariant.queue);
      room = c.pop_front.ensures.capacity ∙ c.loop-first.invariant.room;
    }

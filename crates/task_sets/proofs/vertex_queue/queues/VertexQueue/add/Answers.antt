use Rattle.std.proofs.Common.{◌≡◌, ◌<◌, ◌∙◌, sym, ap, true, false, length, map, slice_set, arith}
use Rattle.std.proofs.lemmas.List.{length-map, map-set}
use Rattle.task_sets.specs.declared.vertex_queue.queues.Standing.TheVariants.{Waiting}
use Rattle.task_sets.specs.vertex_queue.Inner.Queues.{is_member, stands_in}
use Rattle.task_sets.proofs.vertex_queue.Queueing.{room_for_one}
use Rattle.task_sets.proofs.vertex_queue.Standings.{flag_read, joined, rejoined}
use Rattle.task_sets.proofs.vertex_queue.queues.VertexQueue.add.Goals as goal

pub push_back_reserved-requires : goal.push_back_reserved-requires
push_back_reserved-requires c =
    let standings = c.self.inside.standings.items in
    let queued = map stands_in standings in
    let many : length queued ≡ length standings = length-map standings stands_in in
    let members : length (map is_member standings) ≡ length standings = length-map standings is_member in
    let few = c.self.invariant.queue.few in
    let room = c.self.invariant.room in
    let seen : length (map is_member standings) ≡ length c.args.self.now = ap length c.self.view_is in
    let within : c.args.vertex.0 < length standings = omega (arith, c.requires, seen, members) in
    let inside : c.args.vertex.0 < length queued = omega (arith, within, many) in
    let out : stands_in c.index.result.now ≡ false = sym c.stands_in-queued.ensures ∙ c.if-not-queued.true in
    let less = room_for_one queued c.args.vertex.0 inside (flag_read stands_in standings c.args.vertex.0 c.index.result.now within c.index.ensures ∙ out) in
    let long = c.self.inside.queue.ok in
    omega (arith, less, few, many, members, room, long)

pub invariant_of-self : goal.invariant_of-self
invariant_of-self c =
    let standings = c.self.inside.standings.items in
    let seen : length (map is_member standings) ≡ length c.args.self.now = ap length c.self.view_is in
    let within : c.args.vertex.0 < length standings = let members = length-map standings is_member in omega (arith, c.requires, seen, members) in
    rw (c.push_back_reserved.ensures.items, c.push_back_reserved.ensures.capacity)
    (joined standings c.self.inside.queue.items c.self.inside.queue.cap c.args.vertex c.index.result.now within c.index.ensures (sym c.stands_in-queued.ensures ∙ c.if-not-queued.true) c.self.invariant)

pub invariant_of-self-else-not-queued : goal.invariant_of-self-else-not-queued
invariant_of-self-else-not-queued c =
    let standings = c.self.inside.standings.items in
    let seen : length (map is_member standings) ≡ length c.args.self.now = ap length c.self.view_is in
    let within : c.args.vertex.0 < length standings = let members = length-map standings is_member in omega (arith, c.requires, seen, members) in
    rejoined standings c.self.inside.queue.items c.self.inside.queue.cap c.args.vertex c.index.result.now within c.index.ensures (sym c.stands_in-queued.ensures ∙ c.if-not-queued.false) c.self.invariant

pub returns-then-not-queued : goal.returns-then-not-queued
returns-then-not-queued c =
    map-set is_member c.self.inside.standings.items c.args.vertex.0 Waiting ∙ ap (λ members. slice_set members c.args.vertex.0 true) c.self.view_is

pub returns-else-not-queued : goal.returns-else-not-queued
returns-else-not-queued c =
    map-set is_member c.self.inside.standings.items c.args.vertex.0 Waiting ∙ ap (λ members. slice_set members c.args.vertex.0 true) c.self.view_is

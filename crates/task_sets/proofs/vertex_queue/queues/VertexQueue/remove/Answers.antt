use Rattle.std.proofs.Common.{◌≡◌, ◌<◌, ◌∙◌, ap, sym, false, length, map, slice_set, arith}
use Rattle.std.proofs.Math.ListN.{length-set}
use Rattle.std.proofs.lemmas.List.{length-map, map-set, set-get_or}
use Rattle.task_sets.specs.vertex_queue.Flags.{is_flagged}
use Rattle.task_sets.specs.vertex_queue.Inner.Queues.{is_member}
use Rattle.task_sets.proofs.vertex_queue.WrittenBack.{written_back}
use Rattle.task_sets.proofs.vertex_queue.Standings.{done_there, flag_read}
use Rattle.task_sets.proofs.vertex_queue.queues.VertexQueue.remove.Goals as goal

pub drop_done-requires : goal.drop_done-requires
drop_done-requires c =
    let standings = c.self.inside.standings.items in
    let seen : length (map is_member standings) ≡ length c.args.self.now = ap length c.self.view_is in
    let within : c.args.vertex.0 < length standings = let members = length-map standings is_member in omega (arith, c.requires, seen, members) in
    rw c.deref_mut.ensures.value
    (done_there standings c.self.inside.queue.items c.args.vertex.0 c.index-2.result.now c.done.result within c.index-2.ensures c.done.ensures.member c.done.ensures.queued c.self.invariant.queue)

pub returns-then-not-is_member : goal.returns-then-not-is_member
returns-then-not-is_member c =
    let standings = c.self.inside.standings.items in
    let seen : length (map is_member standings) ≡ length c.args.self.now = ap length c.self.view_is in
    let within : c.args.vertex.0 < length standings = let members = length-map standings is_member in omega (arith, c.requires, seen, members) in
    let none : is_flagged c.args.self.now c.args.vertex.0 ≡ false = ap (λ members. is_flagged members c.args.vertex.0) (sym c.self.view_is)
    ∙ flag_read is_member standings c.args.vertex.0 c.index.result.now within c.index.ensures ∙ sym c.is_member.ensures ∙ c.if-not-is_member.true in
    sym (ap (slice_set c.args.self.now c.args.vertex.0) (sym none) ∙ set-get_or c.args.self.now c.args.vertex.0 false)

pub returns : goal.returns
returns c =
    let standings = c.self.inside.standings.items in
    let len = c.self.inside.standings.len in
    let v = c.args.vertex.0 in
    let new = c.drop_done.new.standings in
    let old = slice_set standings v c.done.result in
    let same : map is_member new ≡ map is_member old = c.drop_done.ensures.members ∙ ap (map is_member) c.deref_mut.ensures.value in
    let long_old : length old ≡ len = let long = c.self.inside.standings.ok in let set = length-set standings v c.done.result in omega (arith, long, set) in
    let long_new : length new ≡ len = let many = ap length same in let these = length-map new is_member in let those = length-map old is_member in omega (arith, many, these, those, long_old) in
    rw (written_back len new old long_new long_old)
    (same
    ∙ map-set is_member standings v c.done.result
    ∙ ap (λ member. slice_set (map is_member standings) v member) c.done.ensures.member
    ∙ ap (λ members. slice_set members v false) c.self.view_is)

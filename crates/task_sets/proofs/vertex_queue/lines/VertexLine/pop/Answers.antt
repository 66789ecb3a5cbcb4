use Rattle.std.proofs.Common.{◌<◌, refl, length, arith}
use Rattle.task_sets.proofs.vertex_queue.Queueing.{first_within}
use Rattle.task_sets.proofs.vertex_queue.TurnLemmas.{line_popped}
use Rattle.task_sets.proofs.vertex_queue.lines.VertexLine.pop.Goals as goal

pub index_mut-requires : goal.index_mut-requires
index_mut-requires c =
    let among = c.self.inside.among.items in
    let line = c.self.inside.line.items in
    let some : 0 < length line = let long = c.self.inside.line.ok in omega (arith, long, c.in_ok-first.ensures.variant.0 refl) in
    let within = first_within among among line c.in_ok-first.first some c.in_ok-first.ensures.lookup c.self.invariant.queue in
    let long = c.self.inside.among.ok in
    omega (arith, within, long)

pub invariant_of-self-2 : goal.invariant_of-self-2
invariant_of-self-2 c =
    let m = c.self.inside in
    let some : 0 < length m.line.items = omega (arith, m.line.ok, c.in_ok-first.ensures.variant.0 refl) in
    rw (c.in_ok-first.ensures.rest, c.in_ok-first.ensures.capacity)
    (line_popped m.among.items m.line.items m.line.cap m.turns.items m.first_turn c.self.invariant c.in_ok-first.first some c.in_ok-first.ensures.lookup)

use Rattle.std.proofs.Common.{◌≡◌, ◌<◌, false, length, subst, sym, arith}
use Rattle.task_sets.specs.vertex_queue.Flags.{is_flagged}
use Rattle.task_sets.specs.vertex_queue.Lines.{LineView}
use Rattle.task_sets.proofs.vertex_queue.Queueing.{room_for_one}
use Rattle.task_sets.proofs.vertex_queue.TurnLemmas.{line_few, line_pushed}
use Rattle.task_sets.proofs.vertex_queue.lines.VertexLine.push.Goals as goal

pub overflow_cast-len : goal.overflow_cast-len
overflow_cast-len c =
    let m = c.self.inside in
    let few = line_few m.among.items m.line.items m.line.cap m.turns.items m.first_turn c.self.invariant in
    omega (arith, few, m.line.ok, c.len.ensures)

pub push_back_reserved-requires : goal.push_back_reserved-requires
push_back_reserved-requires c =
    let v = c.args.vertex.0 in
    let among = c.self.inside.among.items in
    let within : v < length among = subst (λ (l : LineView). v < length l.among) (sym c.self.view_is) c.requires.within in
    let away : is_flagged among v ≡ false = subst (λ (l : LineView). is_flagged l.among v ≡ false) (sym c.self.view_is) c.requires.away in
    let less = room_for_one among v within away in
    let few = c.self.invariant.queue.few in
    let room = c.self.invariant.room in
    let long = c.self.inside.line.ok in
    omega (arith, less, few, room, long)

pub invariant_of-self : goal.invariant_of-self
invariant_of-self c =
    let m = c.self.inside in
    let v = c.args.vertex in
    let within : v.0 < length m.among.items = subst (λ (l : LineView). v.0 < length l.among) (sym c.self.view_is) c.requires.within in
    let away : is_flagged m.among.items v.0 ≡ false = subst (λ (l : LineView). is_flagged l.among v.0 ≡ false) (sym c.self.view_is) c.requires.away in
    let long : c.len.result ≡ length m.line.items = omega (arith, m.line.ok, c.len.ensures) in
    rw (c.push_back_reserved.ensures.items, c.push_back_reserved.ensures.capacity, long)
    (line_pushed m.among.items m.line.items m.line.cap m.turns.items m.first_turn c.self.invariant v within away)

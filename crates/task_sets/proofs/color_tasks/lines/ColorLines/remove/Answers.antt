-- The flag of the vertex is written, and no other one.
use Rattle.std.proofs.Common.{◌<◌, false, arith, length, subst, sym}
use Rattle.task_sets.specs.color_tasks.Inner.Seats.{colour_rows}
use Rattle.task_sets.proofs.color_tasks.SeatLemmas.{seat_at, seat_within, rank_within, queue_is, line_left, queues_still}
use Rattle.task_sets.proofs.color_tasks.lines.ColorLines.remove.Goals as goal

pub index_mut-requires : goal.index_mut-requires
index_mut-requires c =
    let seats = c.self.inside.seats.items in
    let rows = colour_rows c.self.inside.rows.items in
    let queues = c.self.inside.queues.items in
    let s = c.index-seat.result.now in
    let at = seat_at seats rows queues c.args.self.now c.self.view_is c.self.invariant.0 c.self.invariant.1 c.args.vertex.0 s c.requires c.index-seat.ensures in
    let low = seat_within seats rows queues c.self.invariant.0 c.self.invariant.1 c.args.vertex.0 s at in
    let ok = c.self.inside.queues.ok in
    omega (arith, low, ok)

pub remove-requires : goal.remove-requires
remove-requires c =
    let seats = c.self.inside.seats.items in
    let rows = colour_rows c.self.inside.rows.items in
    let queues = c.self.inside.queues.items in
    let s = c.index-seat.result.now in
    let q = c.index_mut.result.now in
    let at = seat_at seats rows queues c.args.self.now c.self.view_is c.self.invariant.0 c.self.invariant.1 c.args.vertex.0 s c.requires c.index-seat.ensures in
    subst (λ p. s.rank < length p) (sym (queue_is seats rows queues c.args.self.now c.self.view_is c.self.invariant.0 c.self.invariant.1 c.args.vertex.0 s q at c.index_mut.ensures.value))
    (rank_within seats rows queues c.self.invariant.0 c.self.invariant.1 c.args.vertex.0 s at)

pub returns-clause-waits : goal.returns-clause-waits
returns-clause-waits c =
    let seats = c.self.inside.seats.items in
    let rows = colour_rows c.self.inside.rows.items in
    let queues = c.self.inside.queues.items in
    let s = c.index-seat.result.now in
    let q = c.index_mut.result.now in
    let at = seat_at seats rows queues c.args.self.now c.self.view_is c.self.invariant.0 c.self.invariant.1 c.args.vertex.0 s c.requires c.index-seat.ensures in
    line_left seats rows queues c.args.self.now c.self.view_is c.self.invariant.0 c.self.invariant.1 c.args.vertex.0 s q c.remove.new.self at c.index_mut.ensures.value c.remove.ensures

pub invariant_of-self : goal.invariant_of-self
invariant_of-self c =
    let seats = c.self.inside.seats.items in
    let rows = colour_rows c.self.inside.rows.items in
    let queues = c.self.inside.queues.items in
    let s = c.index-seat.result.now in
    let q = c.index_mut.result.now in
    let at = seat_at seats rows queues c.args.self.now c.self.view_is c.self.invariant.0 c.self.invariant.1 c.args.vertex.0 s c.requires c.index-seat.ensures in
    (c.self.invariant.0, queues_still seats rows queues c.args.self.now c.self.view_is c.self.invariant.0 c.self.invariant.1 c.args.vertex.0 s q c.remove.new.self false at c.index_mut.ensures.value c.remove.ensures)

use Rattle.std.proofs.Common.{◌/◌, ◌<◌, length, arith}
use Rattle.std.proofs.lemmas.Option.{slice_get-get_or}
use Rattle.local_graph.proofs.EndLemmas.{length-end_pairs, end_at_even, end_at_odd}
use Rattle.local_graph.proofs.ends.EndsOfKeyed.at.Goals as goal

pub bounds-self-place : goal.bounds-self-place
bounds-self-place c = let h = c.args.self.now in omega (arith, length-end_pairs h.directed h.none h.edges.now)

pub offset_bounds-self-place : goal.offset_bounds-self-place
offset_bounds-self-place c = let h = c.args.self.now in omega (arith, length-end_pairs h.directed h.none h.edges.now, h.few)

pub returns-then-place-eq0 : goal.returns-then-place-eq0
returns-then-place-eq0 c =
    let h = c.args.self.now in
    let inside : c.args.place / 2 < length h.edges.now = omega (arith, length-end_pairs h.directed h.none h.edges.now) in
    rw (c.min.ensures, c.half_out.ensures) (end_at_even h.directed h.none h.edges.now c.args.place _ c.if-place-eq0.true (slice_get-get_or h.edges.now (c.args.place / 2) _ inside))

pub returns-else-place-eq0 : goal.returns-else-place-eq0
returns-else-place-eq0 c =
    let h = c.args.self.now in
    let inside : c.args.place / 2 < length h.edges.now = omega (arith, length-end_pairs h.directed h.none h.edges.now) in
    rw (c.min-else-place-eq0.ensures, c.half_into.ensures) (end_at_odd h.directed h.none h.edges.now c.args.place _ c.if-place-eq0.false (slice_get-get_or h.edges.now (c.args.place / 2) _ inside))

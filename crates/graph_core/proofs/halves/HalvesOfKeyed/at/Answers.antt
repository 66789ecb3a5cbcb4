use Rattle.std.proofs.Common.{◌/◌, ◌<◌, length, arith}
use Rattle.std.proofs.lemmas.Option.{slice_get-get_or}
use Rattle.graph_core.proofs.HalfLemmas.{length-half_pairs, half_at_even, half_at_odd}
use Rattle.graph_core.proofs.halves.HalvesOfKeyed.at.Goals as goal

pub bounds-self-place : goal.bounds-self-place
bounds-self-place c = omega (arith, length-half_pairs c.args.self.now.directed 0 c.args.self.now.edges.now)

pub offset_bounds-self-place : goal.offset_bounds-self-place
offset_bounds-self-place c = omega (arith, length-half_pairs c.args.self.now.directed 0 c.args.self.now.edges.now)

pub overflow_cast-number : goal.overflow_cast-number
overflow_cast-number c = omega (arith, length-half_pairs c.args.self.now.directed 0 c.args.self.now.edges.now, c.args.self.now.few)

pub returns-then-place-eq0 : goal.returns-then-place-eq0
returns-then-place-eq0 c =
    let h = c.args.self.now in
    let inside : c.args.place / 2 < length h.edges.now = omega (arith, length-half_pairs h.directed 0 h.edges.now) in
    half_at_even h.directed h.edges.now c.args.place _ (omega arith) (slice_get-get_or h.edges.now (c.args.place / 2) _ inside)

pub returns-else-place-eq0 : goal.returns-else-place-eq0
returns-else-place-eq0 c =
    let h = c.args.self.now in
    let inside : c.args.place / 2 < length h.edges.now = omega (arith, length-half_pairs h.directed 0 h.edges.now) in
    half_at_odd h.directed h.edges.now c.args.place _ (λ q. omega arith) (slice_get-get_or h.edges.now (c.args.place / 2) _ inside)

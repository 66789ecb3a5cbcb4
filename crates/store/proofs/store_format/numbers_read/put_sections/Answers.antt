use Rattle.std.proofs.Common.{ℕ, ◌+◌, ◌*◌, ◌<◌, length, sym, subst, arith}
use Rattle.store.specs.store_format.Bodies.{sections_place}
use Rattle.store.proofs.store_format.NumberLemmas.{NumbersSoFar, numbers_first, next_there, numbers_next}
use Rattle.store.proofs.store_format.numbers_read.put_sections.Goals as goal

pub sections-init : goal.sections-init
sections-init c =
    let header = c.args.header.now in
    let body = c.args.body.now in
    let vertices = c.args.vertices.now in
    let edges = c.args.edges.now in
    subst (λ (count : ℕ). NumbersSoFar header body vertices edges vertices edges (sections_place body) 0 (8 + 16 * count)) (sym c.u32_at.ensures)
    (numbers_first header body vertices edges c.requires)

pub put_row-at-requires-clause-whole : goal.put_row-at-requires-clause-whole
put_row-at-requires-clause-whole c =
    let s = c.sections in
    let next = next_there c.args.header.now c.args.body.now c.args.vertices.now c.args.edges.now s.vertices s.edges (sections_place c.args.body.now) s._done s.at s.invariant c.sections-test.true in
    omega (arith, next.vertices_room)

pub put_row-at-requires-in-sections-clause-head : goal.put_row-at-requires-in-sections-clause-head
put_row-at-requires-in-sections-clause-head c =
    let s = c.sections in
    let next = next_there c.args.header.now c.args.body.now c.args.vertices.now c.args.edges.now s.vertices s.edges (sections_place c.args.body.now) s._done s.at s.invariant c.sections-test.true in
    omega (arith, next.vertices_room, c.put_row-at.ensures.end)

pub put_row-at-requires-in-sections-clause-whole : goal.put_row-at-requires-in-sections-clause-whole
put_row-at-requires-in-sections-clause-whole c =
    let s = c.sections in
    let next = next_there c.args.header.now c.args.body.now c.args.vertices.now c.args.edges.now s.vertices s.edges (sections_place c.args.body.now) s._done s.at s.invariant c.sections-test.true in
    rw (c.put_row-at.ensures.end) next.edges_room

pub sections-preserved : goal.sections-preserved
sections-preserved c =
    let s = c.sections in
    numbers_next c.args.header.now c.args.body.now c.args.vertices.now c.args.edges.now s.vertices s.edges (sections_place c.args.body.now) s._done s.at s.invariant
    c.put_row-at.new.numbers c.put_row-at-in-sections.new.numbers c.put_row-at.result c.put_row-at-in-sections.result c.sections-test.true c.put_row-at.ensures.end c.put_row-at-in-sections.ensures.end
    (λ key inside. let there : key < length s.vertices = omega (arith, s.auto.vertices) in c.put_row-at.ensures.numbers key there)
    (λ key inside. let there : key < length s.edges = omega (arith, s.auto.edges) in c.put_row-at-in-sections.ensures.numbers key there)

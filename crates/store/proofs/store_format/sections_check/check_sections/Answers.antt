use Rattle.std.proofs.Common.{length, ◌∙◌}
use Rattle.std.proofs.lemmas.Result.{err_from_is_err_and}
use Rattle.store.proofs.store_format.KeyLemmas.{vertices_here, edges_here, sections_next}
use Rattle.store.proofs.store_format.sections_check.check_sections.Goals as goal

pub returns-in_err-at-clause-fault : goal.returns-in_err-at-clause-fault
returns-in_err-at-clause-fault c =
    let exit = err_from_is_err_and c.from_residual.result c.from_residual.ensures.1 in
    let v = c.loop-i.vertices in
    let e = c.loop-i.edges in
    let so_far = c.loop-i.invariant in
    rw (exit.1, exit.2)
    (vertices_here c.args.header.now v.marks.items v.left e.marks.items e.left c.args.body.now c.args.start c.loop-i.i c.loop-i.at so_far (length v.marks.items) c.in_err-at.field-0.0 c.loop-i-test.true so_far.n_is
    (c.in_err-at.ensures.fault so_far.vertices_stood so_far.vertices_left))

pub returns-in_err-at-2-clause-fault : goal.returns-in_err-at-2-clause-fault
returns-in_err-at-2-clause-fault c =
    let exit = err_from_is_err_and c.from_residual-in_err-at-2.result c.from_residual-in_err-at-2.ensures.1 in
    let v = c.loop-i.vertices in
    let e = c.loop-i.edges in
    let so_far = c.loop-i.invariant in
    rw (exit.1, exit.2)
    (edges_here c.args.header.now v.marks.items v.left e.marks.items e.left c.args.body.now c.args.start c.loop-i.i c.loop-i.at so_far (length v.marks.items) (length e.marks.items) c.in_ok-at.at c.in_err-at-2.field-0.0 c.loop-i-test.true so_far.n_is so_far.m_is c.in_ok-at.ensures.end
    (c.in_ok-at.ensures.none so_far.vertices_stood so_far.vertices_left)
    (c.in_err-at-2.ensures.fault so_far.edges_stood so_far.edges_left))

pub loop-i-preserved : goal.loop-i-preserved
loop-i-preserved c =
    let v = c.loop-i.vertices in
    let e = c.loop-i.edges in
    let so_far = c.loop-i.invariant in
    sections_next c.args.header.now v.marks.items v.left e.marks.items e.left c.args.body.now c.args.start c.loop-i.i c.loop-i.at so_far
    _ _ _ _ (length v.marks.items) (length e.marks.items) c.in_ok-at.at c.in_ok-at-2.at c.loop-i-test.true so_far.n_is so_far.m_is c.in_ok-at.ensures.end c.in_ok-at-2.ensures.end
    (c.in_ok-at.ensures.none so_far.vertices_stood so_far.vertices_left)
    (c.in_ok-at-2.ensures.none so_far.edges_stood so_far.edges_left)
    (c.in_ok-at.ensures.left so_far.vertices_stood so_far.vertices_left)
    (c.in_ok-at-2.ensures.left so_far.edges_stood so_far.edges_left)
    c.in_ok-at.ensures.room c.in_ok-at-2.ensures.room
    (c.in_ok-at.ensures.limit ∙ so_far.n_is) (c.in_ok-at-2.ensures.limit ∙ so_far.m_is)

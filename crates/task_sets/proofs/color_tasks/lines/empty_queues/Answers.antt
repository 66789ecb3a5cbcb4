-- A queue for each row.
use Rattle.std.proofs.Common.{◌≡◌, ◌+◌, ◌<◌, ◌∙◌, ℕ, Bool, List, [], false, ap, arith, length, get_or, sym, subst}
use Rattle.std.proofs.lemmas.List.{length-map}
use Rattle.std.specs.Global.{Vec}
use Rattle.gl_base.specs.declared.numbers.Vertex.{Vertex}
use Rattle.task_sets.specs.color_tasks.Inner.Seats.{colour_row, colour_rows}
use Rattle.task_sets.proofs.color_tasks.SeatLemmas.{row_is, queues_more, none_more, queues_all}
use Rattle.task_sets.proofs.color_tasks.lines.empty_queues.Goals as goal

pub overflow_cast-len : goal.overflow_cast-len
overflow_cast-len c =
    let row = c.row-item.result in
    let same = ap length (row_is c.args.rows.now c.loop-row.row-index row c.loop-row-test.true c.row-item.is) in
    let few = c.requires.few c.loop-row.row-index in
    let ok = row.ok in
    let long = c.len.ensures in
    omega (arith, few, same, ok, long)

pub loop-row-preserved : goal.loop-row-preserved
loop-row-preserved c =
    let queues = c.loop-row.queues.items in
    let rows = c.args.rows.now in
    let at = c.loop-row.row-index in
    let row = c.row-item.result in
    let kept = c.loop-row.invariant in
    let same = ap length (row_is rows at row c.loop-row-test.true c.row-item.is) in
    let made = c.in_ok-none.ensures.count in
    let ok = row.ok in
    let long = c.len.ensures in
    let is = c.push_reserved.ensures.items in
    let last : length c.in_ok-none.field-0 ≡ length (colour_row (colour_rows rows) at) = omega (arith, same, made, ok, long) in
    record {
      count = omega (arith, c.push_reserved.ensures.len, kept.count);
      room = omega (arith, c.push_reserved.ensures.capacity, kept.room);
      long = subst (λ (qs : List (List Bool)). (d : ℕ) → d < at + 1 → length (get_or qs d []) ≡ length (colour_row (colour_rows rows) d)) (sym is) (queues_more queues c.in_ok-none.field-0 (colour_rows rows) at kept.count kept.long last);
      none = subst (λ (qs : List (List Bool)). (d r : ℕ) → get_or (get_or qs d []) r false ≡ false) (sym is) (none_more queues c.in_ok-none.field-0 kept.none c.in_ok-none.ensures.none);
    }

pub returns-clause-queues : goal.returns-clause-queues
returns-clause-queues c =
    let rows = c.args.rows.now in
    let whole : c.loop-row.row-index ≡ length rows = omega arith in
    queues_all c.loop-row.queues.items (colour_rows rows) c.loop-row.row-index c.loop-row.invariant.count (length-map rows (λ (r : Vec Vertex). r.items) ∙ sym whole) c.loop-row.invariant.long

-- The flags, and then the datum.
use Rattle.std.proofs.Common.{◌||◌, List, ap, ◌∙◌}
use Rattle.gl_base.specs.declared.numbers.Vertex.{Vertex}
use Rattle.partition.specs.machine_numbers.Views.{flag_there, is_in_update}
use Rattle.snapshot_machines.specs.marking.Inner.Marks.{place_at, sides_at, with_mark}
use Rattle.snapshot_machines.proofs.marking.EndLemmas.{ends_tasks, number_marked}
use Rattle.snapshot_machines.proofs.marking.marks.mark_number.Goals as goal

pub returns : goal.returns
returns c =
    let n = c.args.numbers.now in
    let v = c.args.v in
    let k = c.args.known in
    let t = c.end_mark.new.tasks in
    number_marked n c.pend_ends.new.numbers t c.set_datum.new.self v k c.with_mark-marked.result c.requires c.end_mark.ensures.each c.end_mark.ensures.admitted c.end_mark.ensures.plans c.end_mark.ensures.tasks c.end_mark.ensures.rest
    (λ u. c.pend_ends.ensures.each u ∙ ap (λ (vs : List Vertex). is_in_update vs u || flag_there t.pending (place_at n.local u)) (ends_tasks n t k n.local.me.0 (sides_at n.local v.0)))
    c.pend_ends.ensures.rest (c.with_mark-marked.ensures ∙ ap (with_mark k) c.datum.ensures) c.set_datum.ensures.datum c.set_datum.ensures.rest

use Rattle.std.proofs.Common.{◌≡◌, ◌∙◌, true, false, ◌∷◌, [], ◌++◌, length, map, sym, ap, subst, arith}
use Rattle.std.proofs.Math.ListN.{length-set}
use Rattle.gl_base.specs.declared.entries.Entry.TheVariants.{Go}
use Rattle.graph_core.specs.Halves.{halves_of}
use Rattle.seq_run.specs.Inner.ListedLinks.{link_half}
use Rattle.seq_run.specs.Orders.{tasks_after}
use Rattle.seq_run.specs.Runs.{tasks_left}
use Rattle.seq_run.proofs.LinkLemmas.{halves_lead}
use Rattle.seq_run.proofs.Playing.{its_links_fit, length_written, played_after, written_back}
use Rattle.seq_run.proofs.runs.SeqRun.update.Goals as goal

pub list_links-requires : goal.list_links-requires
list_links-requires g c =
    let in_run = c.self.inside in
    halves_lead in_run.graph.now c.self.invariant.graph c.args.vertex.0 c.halves.result.now c.halves.ensures

pub update_vertex-woken-requires-clause-links : goal.update_vertex-woken-requires-clause-links
update_vertex-woken-requires-clause-links g c =
    let in_run = c.self.inside in
    let meaning = g.P.Program.meaning in
    let links = c.list_links.new.row.items in
    let row : map link_half links ≡ halves_of in_run.graph.now c.args.vertex.0 = c.in_ok-list_links.ensures ∙ c.halves.ensures in
    let task : tasks_after in_run.graph.now (meaning in_run.program) in_run.order.items c.args.vertex.0 ≡ true = subst (λ run. tasks_left meaning run c.args.vertex.0 ≡ true) (sym c.self.view_is) c.requires in
    rw (c.as_slice-links.ensures.value, c.as_mut_slice-values.ensures.value, c.as_mut_slice-edges.ensures.value)
    (its_links_fit in_run.graph.now (meaning in_run.program) in_run.order.items in_run.values.items in_run.edges.items in_run.tasks c.self.invariant c.args.vertex task links row)

pub wake-requires : goal.wake-requires
wake-requires g c =
    let in_run = c.self.inside in
    let meaning = g.P.Program.meaning in
    let links = c.list_links.new.row.items in
    let row : map link_half links ≡ halves_of in_run.graph.now c.args.vertex.0 = c.in_ok-list_links.ensures ∙ c.halves.ensures in
    let task : tasks_after in_run.graph.now (meaning in_run.program) in_run.order.items c.args.vertex.0 ≡ true = subst (λ run. tasks_left meaning run c.args.vertex.0 ≡ true) (sym c.self.view_is) c.requires in
    let fit = its_links_fit in_run.graph.now (meaning in_run.program) in_run.order.items in_run.values.items in_run.edges.items in_run.tasks c.self.invariant c.args.vertex task links row in
    let flags : length c.remove.new.self ≡ length in_run.tasks = ap length c.remove.ensures ∙ length-set in_run.tasks c.args.vertex.0 false in
    let as_many = c.self.invariant.tasks.count in
    let values = c.self.invariant.values.count in
    rw c.as_slice-links.ensures.value (λ k d within. let near = fit.near k d within in omega (arith, near, flags, as_many, values))

pub invariant_of-self-2 : goal.invariant_of-self-2
invariant_of-self-2 g c =
    let in_run = c.self.inside in
    let meaning = g.P.Program.meaning in
    let v = c.args.vertex in
    let order = in_run.order.items in
    let values = in_run.values.items in
    let edges = in_run.edges.items in
    let links = c.list_links.new.row.items in
    let row : map link_half links ≡ halves_of in_run.graph.now v.0 = c.in_ok-list_links.ensures ∙ c.halves.ensures in
    let new_values = c.update_vertex-woken.new.values in
    let new_edges = c.update_vertex-woken.new.edges in
    let task : tasks_after in_run.graph.now (meaning in_run.program) order v.0 ≡ true = subst (λ run. tasks_left meaning run v.0 ≡ true) (sym c.self.view_is) c.requires in
    let number = rw (c.as_slice-links.ensures.value, c.as_mut_slice-values.ensures.value, c.as_mut_slice-edges.ensures.value) at c.update_vertex-woken.ensures.number in
    let marks = rw (c.as_slice-links.ensures.value, c.as_mut_slice-values.ensures.value, c.as_mut_slice-edges.ensures.value) at c.update_vertex-woken.ensures.marks in
    let answer = rw c.as_mut_slice-values.ensures.value at c.update_vertex-woken.ensures.woken in
    let whom = rw (c.as_slice-links.ensures.value, c.remove.ensures) at c.wake.ensures.tasks in
    let flags : length c.wake.new.tasks ≡ length in_run.tasks = c.wake.ensures.count ∙ ap length c.remove.ensures ∙ length-set in_run.tasks v.0 false in
    let ticket : c.len-ticket.result ≡ length order = let long = in_run.order.ok in omega (arith, c.len-ticket.ensures, long) in
    let grown : c.push.new.self.items ≡ order ++ Go (record { 0 = 0 }) v (length order) ∷ [] = c.in_ok-push.ensures.items ∙ ap (λ t. order ++ Go (record { 0 = 0 }) v t ∷ []) ticket in
    let long_values : length new_values ≡ in_run.values.len = let long = in_run.values.ok in let same = length_written new_values values v.0 _ number in omega (arith, long, same) in
    let long_edges : length new_edges ≡ in_run.edges.len = let long = in_run.edges.ok in let same = marks.as_many in omega (arith, long, same) in
    let there_values : length values ≡ in_run.values.len = let long = in_run.values.ok in omega (arith, long) in
    let there_edges : length edges ≡ in_run.edges.len = let long = in_run.edges.ok in omega (arith, long) in
    rw (written_back in_run.values.len new_values values long_values there_values, written_back in_run.edges.len new_edges edges long_edges there_edges)
    (played_after in_run.graph.now (meaning in_run.program) order values edges in_run.tasks c.self.invariant v task links row new_values number c.push.new.self.items grown new_edges marks c.update_vertex-woken.result answer c.wake.new.tasks flags whom)

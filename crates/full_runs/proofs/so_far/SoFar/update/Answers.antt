use Rattle.std.proofs.Common.{◌≡◌, ℕ, ◌<◌, ◌==◌, ◌&&◌, ◌||◌, not, Bool, List, [], ◌∷◌, ◌++◌, length, sym, ap, ◌∙◌, arith}
use Rattle.gl_base.specs.declared.entries.Entry.TheVariants.{Go}
use Rattle.graph_core.specs.DataGraph.{size}
use Rattle.graph_core.specs.Halves.{DataHalf, halves_of}
use Rattle.seq_run.specs.States.{is_woken}
use Rattle.seq_run.proofs.Playing.{written_back}
use Rattle.task_sets.specs.vertex_queue.Flags.{is_flagged}
use Rattle.full_scope.specs.FullStates.{full_wakes}
use Rattle.full_cluster.specs.Owners.{owner_in}
use Rattle.full_cluster.specs.Written.{state_in}
use Rattle.full_runs.proofs.SoFarLemmas.{one_more}
use Rattle.full_runs.proofs.TaskLemmas.{ends_low, flagged_low, woken_by_is}
use Rattle.full_runs.proofs.so_far.SoFar.update.Goals as goal

pub retask-requires-clause-ends : goal.retask-requires-clause-ends
retask-requires-clause-ends g c = ends_low c.args.division.now.graph.now c.args.division.now.built c.args.v.0 c.halves.result.now c.halves.ensures (length c.args.self.now.tasks) c.requires.task_count

pub returns-clause-so_far : goal.returns-clause-so_far
returns-clause-so_far g c = λ so_far.
    let owner = owner_in c.args.division.now.owner.now in
    let graph = c.args.division.now.graph.now in
    let p = g.P.FullProgram.meaning c.args.program.now in
    let v = c.args.v in
    let order = c.args.self.now.order.items in
    let values = c.args.self.now.values.items in
    let edges = c.args.self.now.edges.items in
    let tasks = c.args.self.now.tasks in
    let woken = c.in_ok-woken.woken in
    let new_values = rw (c.deref_mut.ensures.value, c.deref_mut-2.ensures.value) at c.in_ok-woken.ensures.numbers in
    let new_edges = rw (c.deref_mut.ensures.value, c.deref_mut-2.ensures.value) at c.in_ok-woken.ensures.edges in
    let low : v.0 < size graph = let inside = flagged_low tasks v.0 c.requires.task in omega (arith, inside, c.requires.task_count) in
    let ticket : c.len-ticket.result ≡ length order = let long = c.args.self.now.order.ok in omega (arith, c.len-ticket.ensures, long) in
    let grown : c.push.new.self.items ≡ order ++ Go c.owner_of-machine.result v (length order) ∷ [] = c.in_ok-push.ensures.items ∙ ap (λ t. order ++ Go c.owner_of-machine.result v t ∷ []) ticket in
    let there_values : length values ≡ c.args.self.now.values.len = let long = c.args.self.now.values.ok in omega (arith, long) in
    let there_edges : length edges ≡ c.args.self.now.edges.len = let long = c.args.self.now.edges.ok in omega (arith, long) in
    let long_values : length c.update_at.new.numbers ≡ c.args.self.now.values.len = omega (arith, new_values.count, c.requires.count, there_values) in
    let long_edges : length c.update_at.new.edges ≡ c.args.self.now.edges.len = omega (arith, new_edges.count, c.requires.edge_count, there_edges) in
    let wakes : (u : ℕ) → full_wakes graph p (state_in values edges) v.0 u ≡ is_woken woken (halves_of graph v.0) u = rw (c.deref_mut.ensures.value, c.deref_mut-2.ensures.value) at c.in_ok-woken.ensures.woken in
    let flags : (u : ℕ) → is_flagged c.retask.new.tasks u ≡ (full_wakes graph p (state_in values edges) v.0 u || (is_flagged tasks u && not (u == v.0))) = λ u.
    c.retask.ensures.tasks u
    ∙ ap (λ (b : Bool). b || (is_flagged tasks u && not (u == v.0))) (woken_by_is woken c.halves.result.now u ∙ ap (λ (halves : List DataHalf). is_woken woken halves u) c.halves.ensures ∙ sym (wakes u)) in
    rw (written_back c.args.self.now.values.len c.update_at.new.numbers values long_values there_values, written_back c.args.self.now.edges.len c.update_at.new.edges edges long_edges there_edges)
    (one_more graph p owner order values edges tasks so_far v low c.requires.task c.owner_of-machine.result c.owner_of-machine.ensures c.update_at.new.numbers c.update_at.new.edges new_values new_edges c.push.new.self.items grown c.retask.new.tasks c.retask.ensures.count flags)

use Rattle.std.proofs.Common.{◌≡◌, ◌∙◌, ◌+◌, ◌<◌, ◌==◌, ◌&&◌, ◌||◌, not, Bool, ℕ, List, drop, length, slice_index, slice_set, sym, ap, ap₂, subst}
use Rattle.full_cluster.specs.declared.kept.KeptNumbers.{KeptNumbers}
use Rattle.full_cluster.specs.Given.{HasLists, is_marked}
use Rattle.full_cluster.specs.Owners.{owner_in}
use Rattle.full_cluster.specs.Inner.Rows.{ComesFrom, nth_half, wakes_own}
use Rattle.full_laws.specs.FullEffects.{lent_full, updated_full}
use Rattle.full_laws.specs.FullParts.{FullPart}
use Rattle.full_cluster.proofs.GatheredLemmas.{written}
use Rattle.full_cluster.proofs.UpdateLemmas.{edges_low, ends_low}
use Rattle.full_cluster.proofs.WholeLists.{back, lent_back}
use Rattle.full_cluster.proofs.kept.KeptNumbers.write.Goals as goal

pub write_made-requires-clause-ends : goal.write_made-requires-clause-ends
write_made-requires-clause-ends c = λ i low.
    let d = c.args.division.now in
    ends_low d.graph.now d.built c.args.v.0 c.halves-halves.result.now c.halves-halves.ensures _ i (ap length c.deref_mut.ensures.value ∙ c.requires.count) low

pub write_made-requires-clause-edges : goal.write_made-requires-clause-edges
write_made-requires-clause-edges c = λ i low.
    let d = c.args.division.now in
    edges_low d.graph.now d.built c.args.v.0 c.halves-halves.result.now c.halves-halves.ensures _ i (ap length c.deref_mut-2.ensures.value ∙ c.requires.edge_count) low

pub finish-requires-clause-ends : goal.finish-requires-clause-ends
finish-requires-clause-ends c = λ i low.
    let d = c.args.division.now in
    ends_low d.graph.now d.built c.args.v.0 c.halves-halves.result.now c.halves-halves.ensures _ i (ap length c.deref_mut-3.ensures.value ∙ c.requires.task_count) low

pub returns-clause-updated : goal.returns-clause-updated
returns-clause-updated c = λ st p part s f entry given has lent scope made wakes.
    let d = c.args.division.now in
    let v = c.args.v.0 in
    let kept : KeptNumbers = c.args.self.now in
    let halves = c.halves-halves.result.now in
    let row = c.args.made.now.row.items in
    let centre = c.args.made.now.centre in
    let new = c.write_made.new.numbers in
    let new_edges = c.write_made.new.edges in
    let new_tasks = c.finish.new.tasks in
    let long : length new ≡ length kept.numbers.items = c.write_made.ensures.count ∙ ap length c.deref_mut.ensures.value in
    let long_edges : length new_edges ≡ length kept.edges.items = c.write_made.ensures.edge_count ∙ ap length c.deref_mut-2.ensures.value in
    let long_tasks : length new_tasks ≡ length kept.tasks.items = c.finish.ensures.count ∙ ap length c.deref_mut-3.ensures.value in
    let is_me : c.owner_of-me.result.0 ≡ st.owner v = c.owner_of-me.ensures ∙ (λ k. sym given.owners k v) in
    let up : FullPart = updated_full st p (st.owner v) s v (lent_full f part) entry part in
    let core : HasLists st (st.owner v) new new_edges new_tasks up =
    written st d given p v c.requires.vertex kept.numbers.items kept.edges.items kept.tasks.items part f has scope lent centre row made c.args.made.now.woken wakes halves c.halves-halves.ensures
    new new_edges long long_edges
    (subst (λ (ns : List ℕ). ComesFrom (λ i. (nth_half halves i).other.0) (slice_index row) (length halves) (slice_set ns v centre) new) c.deref_mut.ensures.value c.write_made.ensures.numbers)
    (subst (λ (es : List ℕ). ComesFrom (λ i. (nth_half halves i).edge.0) (λ i. slice_index row (length halves + i)) (length halves) es new_edges) c.deref_mut-2.ensures.value c.write_made.ensures.edges)
    new_tasks long_tasks
    (λ u low.
    c.finish.ensures.marked u (subst (λ (ts : List Bool). u < length ts) (sym c.deref_mut-3.ensures.value) low)
    ∙ ap₂ (λ a (ts : List Bool). wakes_own (owner_in d.owner.now) a c.args.made.now.woken halves u || (is_marked ts u && not (u == v))) is_me c.deref_mut-3.ensures.value)
    s entry in
    let all = lent_back new kept.numbers.items kept.numbers.len in
    let all_edges = lent_back new_edges kept.edges.items kept.edges.len in
    let all_tasks = lent_back new_tasks kept.tasks.items kept.tasks.len in
    subst (λ (ns : List ℕ). HasLists st (st.owner v) ns all_edges all_tasks up) (sym (back new (drop (length new) kept.numbers.items) kept.numbers.len (kept.numbers.ok.0 ∙ sym long)))
    (subst (λ (es : List ℕ). HasLists st (st.owner v) new es all_tasks up) (sym (back new_edges (drop (length new_edges) kept.edges.items) kept.edges.len (kept.edges.ok.0 ∙ sym long_edges)))
    (subst (λ (ts : List Bool). HasLists st (st.owner v) new new_edges ts up) (sym (back new_tasks (drop (length new_tasks) kept.tasks.items) kept.tasks.len (kept.tasks.ok.0 ∙ sym long_tasks))) core))

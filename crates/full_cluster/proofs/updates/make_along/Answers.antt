use Rattle.std.proofs.Common.{◌≡◌, ◌∙◌, ℕ, List, slice_index, subst, sym}
use Rattle.full_scope.specs.FullLinks.{AreWritten, seen_in}
use Rattle.full_scope.specs.FullStates.{after_full}
use Rattle.full_scope.specs.FullUpdates.{FullUpdate, Surroundings}
use Rattle.full_cluster.specs.Written.{state_in}
use Rattle.full_cluster.specs.Inner.Making.{IsMade}
use Rattle.full_cluster.proofs.UpdateLemmas.{made_left, woken_left}
use Rattle.full_cluster.proofs.WholeLists.{back}
use Rattle.full_cluster.proofs.updates.make_along.Goals as goal

pub returns-clause-made : goal.returns-clause-made
returns-clause-made g c = λ numbers edges along at.
    let p : FullUpdate = g.P.FullProgram.meaning c.args.program.now in
    let around = c.args.around.now in
    let v = c.args.v.0 in
    let links = around.links.now in
    let seen : ℕ → ℕ → List ℕ → Surroundings = λ id own row. seen_in id own links row in
    let new = c.update_lent-woken.new.numbers in
    let row = c.args.row.items in
    let ids = slice_index around.graph.now.ids v in
    let own = slice_index numbers v in
    let written : AreWritten (p.near (seen ids own row)) (p.mark (seen ids own row)) links row new =
    subst (λ (r : List ℕ). AreWritten (p.near (seen ids own r)) (p.mark (seen ids own r)) links r new) c.deref_mut.ensures.value
    (subst (λ (n : ℕ). AreWritten (p.near (seen ids n c.deref_mut.result.now)) (p.mark (seen ids n c.deref_mut.result.now)) links c.deref_mut.result.now new) at
    (subst (λ (id : ℕ). AreWritten (p.near (seen id c.args.centre c.deref_mut.result.now)) (p.mark (seen id c.args.centre c.deref_mut.result.now)) links c.deref_mut.result.now new) c.id-id.ensures c.update_lent-woken.ensures.numbers)) in
    let its : c.update_lent-woken.new.centre ≡ p.number (seen ids own row) = c.update_lent-woken.ensures.number ∙ (λ k. p.number (seen (c.id-id.ensures k) (at k) (c.deref_mut.ensures.value k))) in
    subst (λ (r : List ℕ). IsMade around.graph.now (after_full around.graph.now p (state_in numbers edges) v) v c.update_lent-woken.new.centre r)
    (sym (back new _ c.args.row.len (c.args.row.ok.0 ∙ sym written.as_many)))
    (made_left around.graph.now c.requires.graph v around.halves.now c.requires.halves c.requires.undirected p links c.requires.links numbers edges row along c.requires.vertex new written c.update_lent-woken.new.centre its)

pub returns-clause-woken : goal.returns-clause-woken
returns-clause-woken g c = λ numbers edges along at.
    let p : FullUpdate = g.P.FullProgram.meaning c.args.program.now in
    let around = c.args.around.now in
    let links = around.links.now in
    woken_left around.graph.now c.requires.graph c.args.v.0 around.halves.now c.requires.halves c.requires.undirected p links c.requires.links numbers edges c.args.row.items along c.requires.vertex
    c.update_lent-woken.result (c.update_lent-woken.ensures.woken ∙ (λ k. p.woken (seen_in (c.id-id.ensures k) (at k) links (c.deref_mut.ensures.value k))))

use Rattle.std.proofs.Common.{◌≡◌, ◌∙◌, ◌<◌, ℕ, List, length, slice_index, sym, ap, ap₂, subst}
use Rattle.std.proofs.lemmas.Result.{IfOk-weaker}
use Rattle.graph_core.specs.Halves.{halves_of}
use Rattle.seq_run.specs.States.{GraphState, is_woken}
use Rattle.full_scope.specs.FullStates.{after_full, full_wakes}
use Rattle.full_scope.specs.FullUpdates.{FullUpdate}
use Rattle.full_cluster.specs.declared.kept.KeptNumbers.{KeptNumbers}
use Rattle.full_cluster.specs.Given.{HasGathered, HasLists, vertex_after}
use Rattle.full_cluster.specs.Owners.{owner_in}
use Rattle.full_cluster.specs.Written.{state_in}
use Rattle.full_cluster.specs.Inner.Making.{IsMade}
use Rattle.full_cluster.proofs.GatheredLemmas.{gathered_there, made_lent, others_kept, woken_lent}
use Rattle.full_cluster.proofs.WholeLists.{back}
use Rattle.full_cluster.proofs.kept.KeptNumbers.make.Goals as goal

-- what was written of others, by the machine's lists
abbrev IsOwnStill : (ℕ → ℕ) → ℕ → List ℕ → List ℕ → Type 0
IsOwnStill owner me old new = (x : ℕ) → x < length old → owner x ≡ me → slice_index new x ≡ slice_index old x

own_of : (owner : ℕ → ℕ) (me also : ℕ) (before old new : List ℕ) → me ≡ also → before ≡ old → IsOwnStill owner me before new → IsOwnStill owner also old new
own_of owner me also before old new same is own = subst (λ (a : ℕ). IsOwnStill owner a old new) same (subst (λ (ns : List ℕ). IsOwnStill owner me ns new) is own)

pub returns-clause-lent : goal.returns-clause-lent
returns-clause-lent g c = λ st part f given owned has list gathered.
    let d = c.args.division.now in
    let v = c.args.v.0 in
    let kept : KeptNumbers = c.args.self.now in
    let new = c.write_others.new.numbers in
    let is_me : c.args.me.0 ≡ st.owner v = sym owned in
    let begun = c.deref_mut.ensures.value in
    let long : length new ≡ length kept.numbers.items = c.write_others.ensures.count ∙ ap length begun in
    let own = own_of (owner_in d.owner.now) c.args.me.0 (st.owner v) c.deref_mut.result.now kept.numbers.items new is_me begun c.write_others.ensures.own in
    subst (HasGathered f) (sym (back new _ kept.numbers.len (kept.numbers.ok.0 ∙ sym long)))
    (gathered_there st (st.owner v) (owner_in d.owner.now) given.owners kept.numbers.items new kept.edges.items kept.tasks.items part has long own v f c.args.seen.now list gathered
    (λ x low away.
    c.write_others.ensures.others x (subst (λ (ns : List ℕ). x < length ns) (sym begun) low) (λ same. away (same ∙ is_me))
    ∙ ap (λ (ns : List ℕ). vertex_after c.args.seen.now x (slice_index ns x)) begun))

pub returns-clause-made : goal.returns-clause-made
returns-clause-made g c = λ st part f given owned has list gathered.
    let d = c.args.division.now in
    let v = c.args.v.0 in
    let p : FullUpdate = g.P.FullProgram.meaning c.args.program.now in
    let kept : KeptNumbers = c.args.self.now in
    let new = c.write_others.new.numbers in
    let is_me : c.args.me.0 ≡ st.owner v = sym owned in
    let begun = c.deref_mut.ensures.value in
    let long : length new ≡ length kept.numbers.items = c.write_others.ensures.count ∙ ap length begun in
    let own = own_of (owner_in d.owner.now) c.args.me.0 (st.owner v) c.deref_mut.result.now kept.numbers.items new is_me begun c.write_others.ensures.own in
    let lists : HasLists st (st.owner v) new kept.edges.items kept.tasks.items part = others_kept st (st.owner v) (owner_in d.owner.now) given.owners kept.numbers.items new kept.edges.items kept.tasks.items part has long own in
    let lent : HasGathered f new = gathered_there st (st.owner v) (owner_in d.owner.now) given.owners kept.numbers.items new kept.edges.items kept.tasks.items part has long own v f c.args.seen.now list gathered
    (λ x low away.
    c.write_others.ensures.others x (subst (λ (ns : List ℕ). x < length ns) (sym begun) low) (λ same. away (same ∙ is_me))
    ∙ ap (λ (ns : List ℕ). vertex_after c.args.seen.now x (slice_index ns x)) begun) in
    let whole : c.deref.result.now ≡ new = c.deref.ensures.value ∙ back new _ kept.numbers.len (kept.numbers.ok.0 ∙ sym long) in
    let state : state_in c.deref.result.now c.deref-2.result.now ≡ state_in new kept.edges.items = ap₂ state_in whole c.deref-2.ensures.value in
    IfOk-weaker c.make_update.result _ _
    (λ made is. made_lent st d given p v c.requires.vertex new kept.edges.items kept.tasks.items part f lists gathered.scope lent made.centre made.row.items
    (subst (λ (s : GraphState). IsMade d.graph.now (after_full d.graph.now p s v) v made.centre made.row.items) state is))
    c.make_update.ensures.made

pub returns-clause-woken : goal.returns-clause-woken
returns-clause-woken g c = λ st part f given owned has list gathered.
    let d = c.args.division.now in
    let v = c.args.v.0 in
    let p : FullUpdate = g.P.FullProgram.meaning c.args.program.now in
    let kept : KeptNumbers = c.args.self.now in
    let new = c.write_others.new.numbers in
    let is_me : c.args.me.0 ≡ st.owner v = sym owned in
    let begun = c.deref_mut.ensures.value in
    let long : length new ≡ length kept.numbers.items = c.write_others.ensures.count ∙ ap length begun in
    let own = own_of (owner_in d.owner.now) c.args.me.0 (st.owner v) c.deref_mut.result.now kept.numbers.items new is_me begun c.write_others.ensures.own in
    let lists : HasLists st (st.owner v) new kept.edges.items kept.tasks.items part = others_kept st (st.owner v) (owner_in d.owner.now) given.owners kept.numbers.items new kept.edges.items kept.tasks.items part has long own in
    let lent : HasGathered f new = gathered_there st (st.owner v) (owner_in d.owner.now) given.owners kept.numbers.items new kept.edges.items kept.tasks.items part has long own v f c.args.seen.now list gathered
    (λ x low away.
    c.write_others.ensures.others x (subst (λ (ns : List ℕ). x < length ns) (sym begun) low) (λ same. away (same ∙ is_me))
    ∙ ap (λ (ns : List ℕ). vertex_after c.args.seen.now x (slice_index ns x)) begun) in
    let whole : c.deref.result.now ≡ new = c.deref.ensures.value ∙ back new _ kept.numbers.len (kept.numbers.ok.0 ∙ sym long) in
    let state : state_in c.deref.result.now c.deref-2.result.now ≡ state_in new kept.edges.items = ap₂ state_in whole c.deref-2.ensures.value in
    IfOk-weaker c.make_update.result _ _
    (λ made is u. woken_lent st d given p v c.requires.vertex new kept.edges.items kept.tasks.items part f lists gathered.scope lent made.woken
    (λ y. subst (λ (s : GraphState). full_wakes d.graph.now p s v y ≡ is_woken made.woken (halves_of d.graph.now v) y) state (is y)) u)
    c.make_update.ensures.woken

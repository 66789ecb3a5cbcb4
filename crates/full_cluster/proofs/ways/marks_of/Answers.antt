use Rattle.std.proofs.Common.{◌∙◌, ◌==◌, ◌<◌, List, ℕ, length, sym, ap, subst, arith}
use Rattle.std.specs.List.{All, list_any}
use Rattle.std.proofs.lemmas.List.Elements.{All-push}
use Rattle.std.proofs.lemmas.Result.{IfOk-weaker}
use Rattle.gl_base.specs.declared.numbers.Vertex.{Vertex}
use Rattle.graph_core.proofs.GrowthLemmas.{neighbours_below}
use Rattle.full_cluster.specs.Owners.{owner_in}
use Rattle.full_cluster.proofs.WayLemmas.{has_own_is}
use Rattle.full_cluster.proofs.ways.marks_of.Goals as goal

pub owner_marks-requires-clause-ends : goal.owner_marks-requires-clause-ends
owner_marks-requires-clause-ends c =
    let owners = c.requires.owners in
    let low = c.requires.vertex in
    let near : List Vertex = c.list_neighbours.new.list.items in
    let here : c.args.v.0 < length c.args.owner.now = omega (arith, owners, low) in
    subst (All (λ (u : Vertex). u.0 < length c.args.owner.now)) (sym (c.deref.ensures.value ∙ c.in_ok-push.ensures.items))
    (All-push (λ (u : Vertex). u.0 < length c.args.owner.now) near c.args.v (neighbours_below c.args.graph.now c.args.v.0 (length c.args.owner.now) near (sym owners) c.in_ok-list_neighbours.ensures.neighbours) here)

pub returns-clause-marked : goal.returns-clause-marked
returns-clause-marked c =
    let g = c.args.graph.now in
    let owner : ℕ → ℕ = owner_in c.args.owner.now in
    let near : List Vertex = c.list_neighbours.new.list.items in
    IfOk-weaker c.owner_marks.result _ _
    (λ marks is a low.
    is a low
    ∙ ap (list_any (λ (u : Vertex). owner u.0 == a)) (c.deref.ensures.value ∙ c.in_ok-push.ensures.items)
    ∙ sym (has_own_is g owner c.args.v a near c.requires.vertex c.in_ok-list_neighbours.ensures.neighbours))
    c.owner_marks.ensures.marked

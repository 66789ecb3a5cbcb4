use Rattle.std.proofs.Common.{◌∙◌, map, sym}
use Rattle.std.proofs.lemmas.Result.{IfOk-weaker}
use Rattle.gl_base.specs.declared.numbers.Vertex.{Vertex}
use Rattle.graph_core.specs.DataGraph.{size}
use Rattle.full_cluster.specs.Owners.{owner_in}
use Rattle.full_cluster.specs.Inner.Ways.{is_own_of, passing}
use Rattle.full_cluster.proofs.PassingLemmas.{all_below}
use Rattle.full_cluster.proofs.WayRules.{order_is}
use Rattle.full_cluster.proofs.divisions.Division.lock_order.Goals as goal

pub returns-clause-order : goal.returns-clause-order
returns-clause-order c = λ st given.
    let v = c.args.v.0 in
    let a = c.args.machine.0 in
    IfOk-weaker c.own_part.result _ _
    (λ part is. order_is st v a (map (λ (x : Vertex). x.0) part.items) (is ∙ (λ k. passing (is_own_of (sym given.graph k) (sym given.owners k) v a) 0 (size (sym given.graph k)))))
    c.own_part.ensures

pub returns-clause-within : goal.returns-clause-within
returns-clause-within c =
    let g = c.args.self.now.graph.now in
    IfOk-weaker c.own_part.result _ _ (λ part is. all_below (λ (x : Vertex). x.0) (is_own_of g (owner_in c.args.self.now.owner.now) c.args.v.0 c.args.machine.0) (size g) part.items is) c.own_part.ensures

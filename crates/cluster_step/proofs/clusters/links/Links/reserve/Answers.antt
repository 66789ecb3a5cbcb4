-- The link alone is written.
use Rattle.std.proofs.Common.{◌<◌, refl, sym, ap, ◌∙◌, subst}
use Rattle.std.specs.Vec.{with_item}
use Rattle.std.specs.Prelude.{OnOk}
use Rattle.cluster_step.specs.clusters.Links.{LinkView}
use Rattle.cluster_step.proofs.clusters.LinkLemmas.{link_was, link_here, links_rest}
use Rattle.cluster_step.proofs.clusters.links.Links.reserve.Goals as goal

pub returns-clause-room : goal.returns-clause-room
returns-clause-room c =
    subst (λ (l : LinkView). OnOk c.reserve.result (0 < l.room)) (sym (link_here c.self.inside.rows.items (λ row. row.items) c.args.self.now c.self.view_is c.args.from.0 c.args.to.0 c.requires
    c.index_mut.result.now (with_item c.index_mut.result.now c.args.to.0 c.reserve.new.self) c.reserve.new.self c.index_mut.ensures.value refl))
    c.reserve.ensures.room

pub returns-clause-same : goal.returns-clause-same
returns-clause-same c =
    ap (λ (l : LinkView). l.messages) (link_here c.self.inside.rows.items (λ row. row.items) c.args.self.now c.self.view_is c.args.from.0 c.args.to.0 c.requires
    c.index_mut.result.now (with_item c.index_mut.result.now c.args.to.0 c.reserve.new.self) c.reserve.new.self c.index_mut.ensures.value refl)
    ∙ c.reserve.ensures.same
    ∙ ap (λ (l : LinkView). l.messages) (link_was c.self.inside.rows.items (λ row. row.items) c.args.self.now c.self.view_is c.args.from.0 c.args.to.0 c.requires
    c.index_mut.result.now c.index_mut-2.result.now c.index_mut.ensures.value c.index_mut-2.ensures.value)

pub returns-clause-rest : goal.returns-clause-rest
returns-clause-rest c =
    links_rest c.self.inside.rows.items (λ row. row.items) c.args.self.now c.self.view_is c.args.from.0 c.args.to.0 c.requires
    c.index_mut.result.now (with_item c.index_mut.result.now c.args.to.0 c.reserve.new.self) c.reserve.new.self c.index_mut.ensures.value refl

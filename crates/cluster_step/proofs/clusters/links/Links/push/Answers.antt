-- The link alone is written.
use Rattle.std.proofs.Common.{◌++◌, ◌∷◌, [], refl, ap, ◌∙◌}
use Rattle.std.specs.Vec.{with_item}
use Rattle.cluster_step.specs.clusters.Links.{LinkView, message_view}
use Rattle.cluster_step.proofs.clusters.LinkLemmas.{link_was, link_here, links_rest}
use Rattle.cluster_step.proofs.clusters.links.Links.push.Goals as goal

pub returns-clause-last : goal.returns-clause-last
returns-clause-last c =
    ap (λ (l : LinkView). l.messages) (link_here c.self.inside.rows.items (λ row. row.items) c.args.self.now c.self.view_is c.args.from.0 c.args.to.0 c.requires.link
    c.index_mut.result.now (with_item c.index_mut.result.now c.args.to.0 c.push.new.self) c.push.new.self c.index_mut.ensures.value refl)
    ∙ c.push.ensures
    ∙ ap (λ (l : LinkView). l.messages ++ message_view c.args.message ∷ []) (link_was c.self.inside.rows.items (λ row. row.items) c.args.self.now c.self.view_is c.args.from.0 c.args.to.0 c.requires.link
    c.index_mut.result.now c.index_mut-2.result.now c.index_mut.ensures.value c.index_mut-2.ensures.value)

pub returns-clause-rest : goal.returns-clause-rest
returns-clause-rest c =
    links_rest c.self.inside.rows.items (λ row. row.items) c.args.self.now c.self.view_is c.args.from.0 c.args.to.0 c.requires.link
    c.index_mut.result.now (with_item c.index_mut.result.now c.args.to.0 c.push.new.self) c.push.new.self c.index_mut.ensures.value refl

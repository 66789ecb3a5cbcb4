-- The link has a first message where it isn't empty.
use Rattle.std.proofs.Common.{ap, ◌∙◌, ◌==◌, length}
use Rattle.cluster_step.specs.clusters.Links.{LinkView}
use Rattle.cluster_step.proofs.clusters.LinkLemmas.{first_told, link_was}
use Rattle.cluster_step.proofs.clusters.links.Links.has_message.Goals as goal

pub returns : goal.returns
returns c =
    first_told c.args.self.now c.args.from.0 c.args.to.0 c.is_empty.result
    (c.is_empty.ensures
    ∙ ap (λ (l : LinkView). length l.messages == 0) (link_was c.self.inside.rows.items (λ row. row.items) c.args.self.now c.self.view_is c.args.from.0 c.args.to.0 c.requires
    c.index.result.now c.index-2.result.now c.index.ensures c.index-2.ensures))

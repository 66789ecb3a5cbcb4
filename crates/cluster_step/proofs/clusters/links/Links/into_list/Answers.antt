-- Each link stands in its place of the list.
use Rattle.cluster_step.proofs.clusters.ListLemmas.{list_at, list_long}
use Rattle.cluster_step.proofs.clusters.links.Links.into_list.Goals as goal

pub returns-clause-many : goal.returns-clause-many
returns-clause-many c = λ n have. list_long c.self.inside.rows.items (λ row. row.items) c.args.self c.self.view_is c.in_ok-flat.field-0.items c.in_ok-flat.ensures n have

pub returns-clause-each : goal.returns-clause-each
returns-clause-each c = λ n i j have low_i low_j. list_at c.self.inside.rows.items (λ row. row.items) c.args.self c.self.view_is c.in_ok-flat.field-0.items c.in_ok-flat.ensures n have i j low_i low_j

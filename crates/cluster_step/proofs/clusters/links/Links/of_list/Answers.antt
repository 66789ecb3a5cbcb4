-- Each link stands in its place.
use Rattle.std.proofs.Common.{map, refl, sym}
use Rattle.cluster_step.proofs.clusters.ListLemmas.{list_at, rows_have}
use Rattle.cluster_step.proofs.clusters.links.Links.of_list.Goals as goal

pub returns-clause-have : goal.returns-clause-have
returns-clause-have c = rows_have c.in_ok-rows.rows.items (λ row. row.items) c.args.machines c.in_ok-rows.ensures.many c.in_ok-rows.ensures.long

pub returns-clause-each : goal.returns-clause-each
returns-clause-each c =
    λ i j low_i low_j.
    list_at c.in_ok-rows.rows.items (λ row. row.items) (map (λ row. row.items) c.in_ok-rows.rows.items) refl c.args.list.items (sym c.in_ok-rows.ensures.whole) c.args.machines
    (rows_have c.in_ok-rows.rows.items (λ row. row.items) c.args.machines c.in_ok-rows.ensures.many c.in_ok-rows.ensures.long) i j low_i low_j

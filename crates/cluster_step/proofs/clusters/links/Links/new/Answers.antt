-- The rows are as long as there are rows, and nothing is on any link.
use Rattle.std.proofs.Common.{◌≡◌, List, [], length, map, ◌∙◌, arith}
use Rattle.std.proofs.lemmas.List.{length-map}
use Rattle.std.proofs.lemmas.List.Elements.{All-map}
use Rattle.std.specs.List.{All}
use Rattle.cluster_step.specs.clusters.Links.{LinkView}
use Rattle.cluster_step.proofs.clusters.LinkLemmas.{none_on, columns_at}
use Rattle.cluster_step.proofs.clusters.links.Links.new.Goals as goal

pub returns-clause-columns : goal.returns-clause-columns
returns-clause-columns c =
    let whole : c.loop.counter ≡ c.args.machines = omega arith in
    columns_at (map (λ row. row.items) c.loop.rows.items) c.args.machines (length-map c.loop.rows.items (λ row. row.items) ∙ c.loop.invariant.count ∙ whole)
    (All-map (λ (row : List LinkView). length row ≡ c.args.machines) (λ row. row.items) c.loop.rows.items c.loop.invariant.columns)

pub returns-clause-none : goal.returns-clause-none
returns-clause-none c =
    none_on (map (λ row. row.items) c.loop.rows.items)
    (All-map (λ (row : List LinkView). All (λ (link : LinkView). link.messages ≡ []) row) (λ row. row.items) c.loop.rows.items c.loop.invariant.none)

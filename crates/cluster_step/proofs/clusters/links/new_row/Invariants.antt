use Rattle.std.proofs.Common.{◌≡◌, [], length, vec_capacity}
use Rattle.std.specs.List.{All}
use Rattle.cluster_step.specs.clusters.Links.{LinkView}
use Rattle.cluster_step.proofs.clusters.links.new_row.Given as goal

abbrev pub invariant-loop : goal.invariant-loop
invariant-loop l =
    record {
      count : length l.row.items ≡ l.counter;
      room : vec_capacity l.row ≡ l.machines;
      none : All (λ (link : LinkView). link.messages ≡ []) l.row.items;
    }

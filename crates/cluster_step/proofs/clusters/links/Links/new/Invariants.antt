use Rattle.std.proofs.Common.{◌≡◌, [], length, vec_capacity}
use Rattle.std.specs.List.{All}
use Rattle.std.specs.Global.{Vec}
use Rattle.cluster_step.specs.clusters.Links.{LinkView}
use Rattle.cluster_step.proofs.clusters.links.Links.new.Given as goal

abbrev pub invariant-loop : goal.invariant-loop
invariant-loop l =
    record {
      count : length l.rows.items ≡ l.counter;
      room : vec_capacity l.rows ≡ l.machines;
      columns : All (λ (row : Vec LinkView). length row.items ≡ l.machines) l.rows.items;
      none : All (λ (row : Vec LinkView). All (λ (link : LinkView). link.messages ≡ []) row.items) l.rows.items;
    }

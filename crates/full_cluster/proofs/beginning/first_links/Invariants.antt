use Rattle.std.proofs.Common.{◌≡◌, [], length, vec_capacity}
use Rattle.std.specs.List.{All}
use Rattle.cluster_laws.specs.cluster_core.Settings.{Setting}
use Rattle.full_cluster.specs.declared.queues.FullQueues.{FullQueues}
use Rattle.full_cluster.specs.FullClusters.{IsLinkOf}
use Rattle.full_cluster.proofs.beginning.first_links.Given as goal

abbrev pub invariant-loop : goal.invariant-loop
invariant-loop l =
    record {
      count : length l.all.items ≡ l.counter;
      room : vec_capacity l.all ≡ l.machines;
      none : (st : Setting) → st.machines ≡ l.machines → All (λ (links : FullQueues). IsLinkOf st links (λ q. [])) l.all.items;
    }

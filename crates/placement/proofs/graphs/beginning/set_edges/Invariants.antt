use Rattle.std.proofs.Common.{◌≡◌, ◌<◌, ℕ, length, get_or}
use Rattle.placement.specs.graphs.Placed.{edge_number_at}
use Rattle.placement.proofs.graphs.beginning.set_edges.Given as goal

abbrev pub invariant-loop-e : goal.invariant-loop-e
invariant-loop-e l =
    record {
      set : (i : ℕ) → i < l.e → edge_number_at l.local i ≡ get_or l.edges i 0;
      many : length l.local.numbers ≡ length l.initial.local.numbers;
      rest : l.local ≡ record l.initial.local { numbers = l.local.numbers };
    }

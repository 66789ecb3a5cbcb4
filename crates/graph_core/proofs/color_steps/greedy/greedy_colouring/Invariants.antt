use Rattle.std.proofs.Common.{◌≡◌, ◌≤◌, length, vec_capacity}
use Rattle.graph_core.specs.DataGraph.{size}
use Rattle.graph_core.proofs.color_steps.TakenLemmas.{AreTurns}
use Rattle.graph_core.proofs.color_steps.greedy.greedy_colouring.Given as goal

abbrev pub invariant-loop-v : goal.invariant-loop-v
invariant-loop-v l =
    record {
      count : length l.colours.items ≡ l.v;
      room : size l.graph ≤ vec_capacity l.colours;
      turns : AreTurns l.graph l.colours.items l.stamps.items;
    }

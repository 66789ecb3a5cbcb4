use Rattle.std.proofs.Common.{take, length}
use Rattle.graph_core.specs.DataGraph.{size}
use Rattle.seq_run.specs.States.{GraphState}
use Rattle.full_cluster.specs.Given.{IsWithin}
use Rattle.full_cluster.specs.Owners.{owner_in}
use Rattle.full_cluster.specs.Inner.Giving.{IsGivenAlong}
use Rattle.full_cluster.specs.Inner.Making.{IsMade}
use Rattle.full_cluster.proofs.updates.MadeUpdate.give.Given as goal

abbrev pub invariant-loop-i : goal.invariant-loop-i
invariant-loop-i l =
    record {
      given : (s : GraphState) → IsMade l.division.graph.now s l.fn.v.0 l.self.centre l.self.row.items → IsGivenAlong (owner_in l.division.owner.now) l.to.0 l.self.woken s (take l.i l.halves) l.gift;
      within : IsWithin (size l.division.graph.now) (length l.division.graph.now.edges) l.gift;
    }

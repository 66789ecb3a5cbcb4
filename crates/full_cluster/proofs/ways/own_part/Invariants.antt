use Rattle.std.proofs.Common.{◌≡◌, ◌-◌, ◌≤◌, drop, map}
use Rattle.gl_base.specs.declared.numbers.Vertex.{Vertex}
use Rattle.graph_core.specs.DataGraph.{size}
use Rattle.full_cluster.specs.Owners.{owner_in}
use Rattle.full_cluster.specs.Inner.Ways.{is_joined, is_own_of, passing}
use Rattle.full_cluster.proofs.ways.own_part.Given as goal

abbrev pub invariant-loop-u : goal.invariant-loop-u
invariant-loop-u l =
    record {
      low : l.from ≤ size l.graph;
      near : map (λ (u : Vertex). u.0) (drop l.u-index l.u-items) ≡ passing (is_joined l.graph l.v.0) l.from (size l.graph - l.from);
      part : map (λ (x : Vertex). x.0) l.part.items ≡ passing (is_own_of l.graph (owner_in l.owner) l.v.0 l.machine.0) 0 l.from;
    }

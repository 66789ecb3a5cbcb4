use Rattle.std.proofs.Common.{◌≡◌, ◌∙◌, ◌<◌, ap, map, subst, sym}
use Rattle.graph_core.specs.DataGraph.{DataGraph, IsDataGraph, size}
use Rattle.graph_core.specs.Halves.{halves_of}
use Rattle.graph_core.specs.HalfRows.{data_half}
use Rattle.graph_core.proofs.NeighbourLemmas.{neighbours_are}
use Rattle.graph_core.proofs.graph.Graph.list_neighbours.Goals as goal

pub returns-clause-neighbours : goal.returns-clause-neighbours
returns-clause-neighbours c =
    let v = c.args.v.0 in
    let graph = subst IsDataGraph c.self.view_is c.self.invariant.graph in
    let inside = subst (λ (g : DataGraph). v < size g) (sym c.self.view_is) c.requires in
    let halves = subst (λ (g : DataGraph). map data_half c.row.result.now ≡ halves_of g v) c.self.view_is (ap (map data_half) c.row.ensures ∙ c.self.invariant.half_rows.1 v inside) in
    neighbours_are c.args.self.now v c.row.result.now c.list_neighbours.new.list.items graph halves c.in_ok-list_neighbours.ensures.others

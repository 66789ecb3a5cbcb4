-- What a graph keeps beside its identifiers and edges.
use Rattle.std.specs.Prelude.{List}
use Rattle.graph_core.specs.declared.halves.Half.{Half}
use Rattle.graph_core.specs.declared.id_table.IdTable.{IdTable}
use Rattle.graph_core.specs.DataGraph.{DataGraph, IsDataGraph}
use Rattle.graph_core.specs.HalfRows.{AreHalfRows}
use Rattle.graph_core.specs.IdTable.{IsTableOf}

-- the table finds the graph's identifiers, and the rows are its half-edges
pub record AreGraphParts (g : DataGraph) (table : IdTable) (halves : List (List Half)) : Type 0 where
  pub graph : IsDataGraph g
  pub found : IsTableOf g.ids table
  pub half_rows : AreHalfRows g halves

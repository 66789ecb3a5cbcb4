-- The data graph that two texts tell.
use Rattle.std.specs.Prelude.{◌≡◌, ℕ, Bool, List, Ok}
use Rattle.std.specs.List.Sorted.{IsPermutation}
use Rattle.graph_core.specs.declared.graph_lists.EdgeIn.{EdgeIn}
use Rattle.graph_core.specs.DataGraph.{DataGraph}
use Rattle.graph_core.specs.GraphLists.{IsGraphOf}
use Rattle.graph_text.specs.Ids.{AreIds}
use Rattle.graph_text.specs.Vertices.{vertices_of}
use Rattle.graph_text.specs.Edges.{edges_of}

-- the vertex text has these identifiers, here in ascending order
pub record ListsIds (vertices ids : List ℕ) : Type 0 where
  pub listed : List ℕ
  pub lines : vertices_of vertices ≡ Ok listed
  pub same : IsPermutation listed ids
  pub are : AreIds ids

-- the vertex text has the graph's identifiers, and over them the edge text has its edges
pub record DescribeGraph (directed weighted : Bool) (vertices edges : List ℕ) (g : DataGraph) : Type 0 where
  pub vertex_lines : ListsIds vertices g.ids
  pub listed : List EdgeIn
  pub edge_lines : edges_of g.ids directed weighted edges ≡ Ok listed
  pub graph : IsGraphOf g.ids listed directed g

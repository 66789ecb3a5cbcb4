-- What reading the two texts of a job's graph answers.
use Rattle.std.specs.Prelude.{◌≡◌, ℕ, Bool, List, ⊤, Option, None, Some, Result, Ok, Err}
use Rattle.gl_outside.specs.Faults.{Rose}
use Rattle.gl_outside.specs.FilesState.{FilesState}
use Rattle.graph_core.specs.DataGraph.{DataGraph, IsDataGraph}
use Rattle.graph_core.specs.GraphLists.{IsGraphOf}
use Rattle.graph_core.specs.declared.graph_lists.EdgeIn.{EdgeIn}
use Rattle.graph_text.specs.Edges.{edges_of}
use Rattle.graph_text.specs.GraphTexts.{ListsIds}
use Rattle.graph_text.specs.Ids.{AreIds}
use Rattle.graph_text.specs.Vertices.{vertices_of}
use Rattle.graph_text.specs.declared.lists.Reading.{Reading}
use Rattle.graph_text.specs.declared.lists.Reading.TheVariants as reading
use Rattle.graph_text.specs.declared.lists.VertexList.{VertexList}
use Rattle.job_io.specs.job_config.Fields.{JobFields}
use Rattle.job_io.specs.whole_files.FilesUsed.{OfRead}
use Rattle.job_io.specs.job_files.JobTexts.{DescribeJobGraph, HasStart, LacksStart, OfTexts, RefusesTexts}

-- what reading the vertex file answers
abbrev pub TakesVertices : Option (List (List ℕ)) → Option (List ℕ) → ℕ → ℕ → Result VertexList Reading → Type 0
TakesVertices names text before now (Ok list) = AreIds list.ids.items × OfRead names text (λ bytes. ListsIds bytes list.ids.items)
TakesVertices names text before now (Err (reading.Text fault)) = OfRead names text (λ bytes. vertices_of bytes ≡ Err fault)
TakesVertices names text before now (Err reading.ReadFault) = Rose before now
TakesVertices names text before now (Err reading.NoMemory) = ⊤

-- the edge text over these identifiers has the edges of the graph
pub record ListsEdges (directed weighted : Bool) (ids : List ℕ) (g : DataGraph) (edges : List ℕ) : Type 0 where
  pub listed : List EdgeIn
  pub lines : edges_of ids directed weighted edges ≡ Ok listed
  pub graph : IsGraphOf ids listed directed g

-- what reading the edge file answers, over the vertices with these identifiers
abbrev pub TakesEdges : Bool → Bool → List ℕ → Option (List (List ℕ)) → Option (List ℕ) → ℕ → ℕ → Result DataGraph Reading → Type 0
TakesEdges directed weighted ids names text before now (Ok g) =
    IsDataGraph g × (g.directed ≡ directed) × OfRead names text (λ bytes. ListsEdges directed weighted ids g bytes)
TakesEdges directed weighted ids names text before now (Err (reading.Text fault)) = OfRead names text (λ bytes. edges_of ids directed weighted bytes ≡ Err fault)
TakesEdges directed weighted ids names text before now (Err reading.ReadFault) = Rose before now
TakesEdges directed weighted ids names text before now (Err reading.NoMemory) = ⊤

-- what reading both files of the job answers
abbrev pub TakesGraph : FilesState → ℕ → JobFields → Result DataGraph Reading → Type 0
TakesGraph files now job (Ok g) =
    IsDataGraph g × (g.directed ≡ job.directed) × OfTexts files job (λ vertices edges. DescribeJobGraph job vertices edges g)
TakesGraph files now job (Err (reading.Text fault)) = RefusesTexts files fault job
TakesGraph files now job (Err reading.ReadFault) = Rose files.sources.faults now
TakesGraph files now job (Err reading.NoMemory) = ⊤

-- what looking for the source answers: one that no vertex has, or none where the algorithm has the source that it needs
abbrev pub LooksForSource : JobFields → DataGraph → Option ℕ → Type 0
LooksForSource job g None = HasStart job.algorithm job.source g
LooksForSource job g (Some source) = LacksStart job g source

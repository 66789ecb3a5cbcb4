-- What the readers answer, where the source tells its bytes and where it does not.
use Rattle.std.specs.Prelude.{◌≡◌, ℕ, Bool, List, Option, Result, Ok, Err, IfSome}
use Rattle.std.specs.List.Sorted.{IsPermutation}
use Rattle.gl_outside.specs.Faults.{Rose}
use Rattle.graph_core.specs.declared.graph_lists.EdgeIn.{EdgeIn}
use Rattle.graph_core.specs.DataGraph.{DataGraph, IsDataGraph}
use Rattle.graph_core.specs.GraphLists.{IsGraphOf}
use Rattle.graph_text.specs.declared.lines.said.Unread.{Unread}
use Rattle.graph_text.specs.declared.lines.said.Unread.TheVariants.{ReadFault as SourceFailed, NoMemory as OutOfMemory}
use Rattle.graph_text.specs.declared.lists.VertexList.{VertexList}
use Rattle.graph_text.specs.declared.lists.Reading.{Reading}
use Rattle.graph_text.specs.declared.lists.Reading.TheVariants.{Text, ReadFault, NoMemory}
use Rattle.graph_text.specs.Ids.{AreIds}
use Rattle.graph_text.specs.Vertices.{vertices_of}
use Rattle.graph_text.specs.Edges.{edges_of}

-- what the reader of vertices answers to a text, where the count of faults went from `before` to `now`
abbrev pub ReadsVertices : Result VertexList Reading → Option (List ℕ) → ℕ → ℕ → Type 0
ReadsVertices (Ok list) text before now =
    AreIds list.ids.items × IfSome text (λ bytes. (ids : List ℕ) × (vertices_of bytes ≡ Ok ids) × IsPermutation ids list.ids.items)
ReadsVertices (Err (Text fault)) text before now = IfSome text (λ bytes. vertices_of bytes ≡ Err fault)
ReadsVertices (Err ReadFault) text before now = Rose before now
ReadsVertices (Err NoMemory) text before now = Unit {0}

-- what the reader of edges answers to a text, over these identifiers, where the count of faults went from `before` to `now`
abbrev pub ReadsGraph : List ℕ → Bool → Bool → Result DataGraph Reading → Option (List ℕ) → ℕ → ℕ → Type 0
ReadsGraph ids directed weighted (Ok g) text before now =
    IsDataGraph g × (g.directed ≡ directed) × IfSome text (λ bytes. (listed : List EdgeIn) × (edges_of ids directed weighted bytes ≡ Ok listed) × IsGraphOf ids listed directed g)
ReadsGraph ids directed weighted (Err (Text fault)) text before now = IfSome text (λ bytes. edges_of ids directed weighted bytes ≡ Err fault)
ReadsGraph ids directed weighted (Err ReadFault) text before now = Rose before now
ReadsGraph ids directed weighted (Err NoMemory) text before now = Unit {0}

-- why a text was not read, where no fault of its own is the cause
abbrev pub as_reading : Unread → Reading
as_reading SourceFailed = ReadFault
as_reading OutOfMemory = NoMemory

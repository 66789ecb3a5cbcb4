-- What build keeps is the data graph of its lists.
use Rattle.std.proofs.Common.{◌≡◌, ℕ, ◌<◌, ◌≤◌, Bool, List, [], length, map, get_or, refl, All, arith}
use Rattle.std.specs.List.Sorted.{IsPermutation}
use Rattle.std.proofs.lemmas.List.{length-map}
use Rattle.std.proofs.lemmas.List.Sorted.{length_permutation, All-permutation}
use Rattle.gl_base.specs.declared.limits.TheConstants.{MAX_ID, MAX_VERTICES, MAX_EDGES}
use Rattle.gl_base.specs.Lists.{Ascends}
use Rattle.graph_core.specs.DataGraph.{IsDataGraph}
use Rattle.graph_core.specs.declared.graph_lists.EdgeIn.{EdgeIn}
use Rattle.graph_core.specs.declared.edges.Edge.{Edge}
use Rattle.graph_core.specs.declared.halves.Half.{Half}
use Rattle.graph_core.specs.declared.id_table.IdTable.{IdTable}
use Rattle.graph_core.specs.GraphLists.{IsGraphOf, lower_first, with_ids}
use Rattle.graph_core.specs.Graphs.{data_graph}
use Rattle.graph_core.specs.Inner.GraphParts.{AreGraphParts}
use Rattle.graph_core.specs.Halves.{halves_from}
use Rattle.graph_core.specs.HalfRows.{data_half}
use Rattle.graph_core.specs.IdTable.{IsTableOf}
use Rattle.graph_core.specs.Edges.{data_edge}
use Rattle.graph_core.specs.Inner.NumberedEdges.{AreKept}

-- what the phases of build have shown
pub record Built (ids sorted : List ℕ) (listed : List EdgeIn) (directed : Bool) (edges : List Edge) : Type 0 where
  pub few : length ids ≤ MAX_VERTICES
  pub few_edges : length listed ≤ MAX_EDGES
  pub small : All (λ id. id ≤ MAX_ID) ids
  pub same : IsPermutation ids sorted
  pub up : Ascends sorted
  pub kept : AreKept sorted directed listed (map data_edge edges)

pub edges_len : (ids sorted : List ℕ) (listed : List EdgeIn) (directed : Bool) (edges : List Edge) → Built ids sorted listed directed edges → length edges ≡ length listed
edges_len ids sorted listed directed edges b =
    omega (arith, length_permutation _ _ b.kept.same, length-map listed (lower_first directed), length-map (map data_edge edges) (with_ids sorted), length-map edges data_edge)

pub built_graph : (ids sorted : List ℕ) (listed : List EdgeIn) (directed : Bool) (edges : List Edge) → Built ids sorted listed directed edges → IsDataGraph (data_graph directed sorted edges)
built_graph ids sorted listed directed edges b =
    record {
      few = omega (arith, b.few, length_permutation ids sorted b.same);
      few_edges = omega (arith, b.few_edges, edges_len ids sorted listed directed edges b, length-map edges data_edge);
      ascending = b.up;
      ids = All-permutation (λ id. id ≤ MAX_ID) ids sorted b.same b.small;
      edges = b.kept.edges_in;
      edges_ascending = b.kept.ascending;
    }

pub built_is : (ids sorted : List ℕ) (listed : List EdgeIn) (directed : Bool) (edges : List Edge) → Built ids sorted listed directed edges → IsGraphOf ids listed directed (data_graph directed sorted edges)
built_is ids sorted listed directed edges b =
    record { graph = built_graph ids sorted listed directed edges b; same_ids = b.same; same_edges = b.kept.same; direction = refl }

pub built_kept : (ids sorted : List ℕ) (listed : List EdgeIn) (directed : Bool) (edges : List Edge) (table : IdTable) (halves : List (List Half)) → Built ids sorted listed directed edges → IsTableOf sorted table → length halves ≡ length sorted → ((v : ℕ) → v < length sorted → map data_half (get_or halves v []) ≡ halves_from directed v 0 (map data_edge edges)) → AreGraphParts (data_graph directed sorted edges) table halves
built_kept ids sorted listed directed edges table halves b found halves_len halves_each =
    record {
      graph = built_graph ids sorted listed directed edges b;
      found = found;
      half_rows = (halves_len, halves_each);
    }

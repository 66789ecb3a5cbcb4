-- The atoms of a graph, where each vertex is in one of them.
use Rattle.std.specs.Prelude.{◌≡◌, ℕ, ◌<◌, ◌==◌, ◌&&◌, ◌||◌, Bool, not, List, length, map, slice_index, slice_index_or}
use Rattle.std.specs.List.{filter, list_any, range_with_len}
use Rattle.gl_base.specs.declared.atoms.VertexLine.{VertexLine}
use Rattle.gl_base.specs.declared.atoms.GhostLine.{GhostLine}
use Rattle.gl_base.specs.declared.atoms.EdgeLine.{EdgeLine}
use Rattle.gl_base.specs.declared.atoms.Lines.{Lines}
use Rattle.graph_core.specs.DataGraph.{DataEdge, DataGraph, size}
use Rattle.graph_core.specs.Neighbours.{neighbours_of}
use Rattle.graph_atoms.specs.atom_file.Atoms.{Atom, atom_of}

-- edge e of a graph
abbrev pub edge_of : DataGraph → ℕ → DataEdge
edge_of g e = slice_index_or g.edges e (record { from = 0; to = 0; weight = 0 })

-- a vertex as a line, a vertex as the ghost of another atom, and an edge as a line
abbrev pub own_line : DataGraph → ℕ → VertexLine
own_line g v = record { vertex = record { 0 = v }; id = slice_index g.ids v }

abbrev pub ghost_line : DataGraph → List ℕ → ℕ → GhostLine
ghost_line g of v =
    record {
      vertex = record { 0 = v };
      id = slice_index g.ids v;
      atom = record { 0 = slice_index of v };
    }

abbrev pub line_of_edge : DataGraph → ℕ → EdgeLine
line_of_edge g e =
    record {
      edge = record { 0 = e };
      from = record { 0 = (edge_of g e).from };
      to = record { 0 = (edge_of g e).to };
      weight = (edge_of g e).weight;
    }

-- the first n vertices, ghosts and edges of a graph as lines
abbrev pub vertex_lines : DataGraph → ℕ → List VertexLine
vertex_lines g n = map (own_line g) (range_with_len 0 n)

abbrev pub ghost_lines : DataGraph → List ℕ → ℕ → List GhostLine
ghost_lines g of n = map (ghost_line g of) (range_with_len 0 n)

abbrev pub edge_lines : DataGraph → ℕ → List EdgeLine
edge_lines g n = map (line_of_edge g) (range_with_len 0 n)

-- vertex v is in atom a
abbrev pub is_in : List ℕ → ℕ → ℕ → Bool
is_in of a v = slice_index of v == a

-- vertex v is in another atom than a, and has a neighbour in a
abbrev pub is_ghost : DataGraph → List ℕ → ℕ → ℕ → Bool
is_ghost g of a v = not (is_in of a v) && list_any (is_in of a) (neighbours_of g v)

-- an end of the edge is in atom a
abbrev pub touches : List ℕ → ℕ → EdgeLine → Bool
touches of a e = is_in of a e.from.0 || is_in of a e.to.0

-- atom a: its vertices, the ghosts beside them, and the edges at them
abbrev pub graph_atom : DataGraph → List ℕ → ℕ → Atom
graph_atom g of a =
    record {
      number = a;
      vertices = filter (λ v. is_in of a v.vertex.0) (vertex_lines g (size g));
      ghosts = filter (λ v. is_ghost g of a v.vertex.0) (ghost_lines g of (size g));
      edges = filter (touches of a) (edge_lines g (length g.edges));
    }

-- the lines of each atom, in turn
pub record AreAtoms (g : DataGraph) (of : List ℕ) (atoms : ℕ) (lines : List Lines) : Type 0 where
  pub count : length lines ≡ atoms
  pub each : (a : ℕ) (d : Lines) → a < atoms → atom_of a (slice_index_or lines a d) ≡ graph_atom g of a

-- the lines of the vertices and ghosts of each atom, in turn
pub record AreAtomVertices (g : DataGraph) (of : List ℕ) (atoms : ℕ) (lines : List Lines) : Type 0 where
  pub count : length lines ≡ atoms
  pub vertices : (a : ℕ) (d : Lines) → a < atoms → (slice_index_or lines a d).vertices.items ≡ (graph_atom g of a).vertices
  pub ghosts : (a : ℕ) (d : Lines) → a < atoms → (slice_index_or lines a d).ghosts.items ≡ (graph_atom g of a).ghosts

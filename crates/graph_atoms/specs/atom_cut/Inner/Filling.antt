-- Lists of lines that fill, vertex by vertex and edge by edge.
use Rattle.std.specs.Prelude.{◌≡◌, ℕ, ◌^◌, ◌<◌, ◌==◌, Bool, false, if◌then◌else◌, List, [], ◌∷◌, ◌++◌, length, slice_index_or}
use Rattle.std.specs.List.{filter}
use Rattle.gl_base.specs.declared.atoms.Lines.{Lines}
use Rattle.gl_base.specs.declared.atoms.VertexLine.{VertexLine}
use Rattle.gl_base.specs.declared.atoms.GhostLine.{GhostLine}
use Rattle.gl_base.specs.declared.atoms.EdgeLine.{EdgeLine}
use Rattle.graph_core.specs.DataGraph.{DataGraph}
use Rattle.graph_atoms.specs.atom_cut.Atoms.{vertex_lines, ghost_lines, edge_lines, is_in, is_ghost, touches}

-- an atom has its lines among the first so many vertices, ghosts and edges
pub record Holds (g : DataGraph) (of : List ℕ) (n k m a : ℕ) (lines : Lines) : Type 0 where
  pub vertices : lines.vertices.items ≡ filter (λ v. is_in of a v.vertex.0) (vertex_lines g n)
  pub ghosts : lines.ghosts.items ≡ filter (λ v. is_ghost g of a v.vertex.0) (ghost_lines g of k)
  pub edges : lines.edges.items ≡ filter (touches of a) (edge_lines g m)

-- so does each atom
abbrev pub AllHold : DataGraph → List ℕ → ℕ → ℕ → ℕ → List Lines → Type 0
AllHold g of n k m lines = (a : ℕ) (d : Lines) → a < length lines → Holds g of n k m a (slice_index_or lines a d)

-- the lines with these behind them
pub record Gains (vs : List VertexLine) (gs : List GhostLine) (es : List EdgeLine) (old new : Lines) : Type 0 where
  pub vertices : new.vertices.items ≡ old.vertices.items ++ vs
  pub ghosts : new.ghosts.items ≡ old.ghosts.items ++ gs
  pub edges : new.edges.items ≡ old.edges.items ++ es

-- each atom gains these
abbrev pub AllGain : (ℕ → List VertexLine) → (ℕ → Lines → List GhostLine) → (ℕ → List EdgeLine) → List Lines → List Lines → Type 0
AllGain vertices ghosts edges old new =
    (a : ℕ) (d : Lines) → a < length old → Gains (vertices a) (ghosts a (slice_index_or old a d)) (edges a) (slice_index_or old a d) (slice_index_or new a d)

-- the element, where the test gives true
abbrev pub when : {X : Type 0} → Bool → X → List X
when b x = if b then x ∷ [] else []

-- the last ghost is this vertex
abbrev pub ends_in : ℕ → List GhostLine → Bool
ends_in v [] = false
ends_in v (g ∷ []) = g.vertex.0 == v
ends_in v (g ∷ h ∷ rest) = ends_in v (h ∷ rest)

-- the lists of an atom can be counted in four bytes
pub record AreFew (lines : Lines) : Type 0 where
  pub vertices : length lines.vertices.items < 2 ^ 32
  pub ghosts : length lines.ghosts.items < 2 ^ 32
  pub edges : length lines.edges.items < 2 ^ 32

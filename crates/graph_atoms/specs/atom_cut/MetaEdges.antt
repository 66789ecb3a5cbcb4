-- The meta-edges of a cut: the pairs of atoms with an edge between them.
use Rattle.std.specs.Prelude.{ℕ, ◌+◌, ◌-◌, ◌==◌, ◌&&◌, ◌||◌, Bool, if◌then◌else◌, List, [], ◌∷◌, length, slice_index, count_by}
use Rattle.std.specs.List.{flat_map, range_with_len}
use Rattle.gl_base.specs.declared.atoms.EdgeLine.{EdgeLine}
use Rattle.graph_core.specs.DataGraph.{DataGraph}
use Rattle.graph_atoms.specs.declared.atom_cut.metas.MetaEdge.{MetaEdge}
use Rattle.graph_atoms.specs.atom_cut.Atoms.{edge_lines}

-- one of two numbers is a and the other is b
abbrev pub are_both : ℕ → ℕ → ℕ → ℕ → Bool
are_both a b x y = (x == a && y == b) || (x == b && y == a)

-- one end of the edge is in atom a and the other in atom b
abbrev pub is_between : List ℕ → ℕ → ℕ → EdgeLine → Bool
is_between of a b e = are_both a b (slice_index of e.from.0) (slice_index of e.to.0)

-- how many of the first n edges are between two atoms
abbrev pub edges_between : DataGraph → List ℕ → ℕ → ℕ → ℕ → ℕ
edges_between g of n a b = count_by (is_between of a b) (edge_lines g n)

-- two atoms and how many edges are between them, where there is one
abbrev pub meta_edge : (ℕ → ℕ → ℕ) → ℕ → ℕ → List MetaEdge
meta_edge count a b =
    if count a b == 0 then []
    else record { a = record { 0 = a }; b = record { 0 = b }; count = count a b } ∷ []

-- those of atom a with the n atoms behind it
abbrev pub metas_behind : (ℕ → ℕ → ℕ) → ℕ → ℕ → List MetaEdge
metas_behind count a n = flat_map (meta_edge count a) (range_with_len (a + 1) n)

-- all meta-edges among so many atoms, ascending
abbrev pub metas_among : (ℕ → ℕ → ℕ) → ℕ → List MetaEdge
metas_among count atoms = flat_map (λ a. metas_behind count a (atoms - (a + 1))) (range_with_len 0 atoms)

abbrev pub meta_edges : DataGraph → List ℕ → ℕ → List MetaEdge
meta_edges g of atoms = metas_among (edges_between g of (length g.edges)) atoms

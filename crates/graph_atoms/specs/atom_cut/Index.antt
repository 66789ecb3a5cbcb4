-- The index of a cut, and its bytes.
use Rattle.std.specs.Prelude.{ℕ, Bool, List, ◌∷◌, ◌++◌, if◌then◌else◌, length, codes}
use Rattle.std.specs.List.{flat_map, range_with_len}
use Rattle.byteorder.specs.Endian.{big_bytes}
use Rattle.sha2.specs.Sha256.{sha256}
use Rattle.graph_core.specs.DataGraph.{DataGraph}
use Rattle.graph_core.specs.Digest.{digest_bytes}
use Rattle.graph_atoms.specs.atom_file.Atoms.{Atom}
use Rattle.graph_atoms.specs.declared.atom_cut.metas.MetaEdge.{MetaEdge}
use Rattle.graph_atoms.specs.atom_cut.Atoms.{graph_atom}
use Rattle.graph_atoms.specs.atom_cut.MetaEdges.{meta_edges}

-- `GLABINDX`, version 1, the digest, 1 where edges have a direction and else 0, zero, how many atoms
abbrev pub head_bytes : List ℕ → Bool → ℕ → List ℕ
head_bytes digest directed atoms =
    codes "GLABINDX" ++ big_bytes 4 1 ++ digest ++ ((if directed then 1 else 0) ∷ 0 ∷ big_bytes 2 atoms)

-- how many vertices, ghosts and edges an atom has
abbrev pub count_bytes : Atom → List ℕ
count_bytes a = big_bytes 4 (length a.vertices) ++ big_bytes 4 (length a.ghosts) ++ big_bytes 4 (length a.edges)

-- two atoms, and how many edges are between them
abbrev pub meta_bytes : MetaEdge → List ℕ
meta_bytes e = big_bytes 2 e.a.0 ++ big_bytes 2 e.b.0 ++ big_bytes 4 e.count

-- how many meta-edges there are, and they
abbrev pub metas_bytes : List MetaEdge → List ℕ
metas_bytes metas = big_bytes 4 (length metas) ++ flat_map meta_bytes metas

-- the header with the SHA-256 of the graph, the counts of each atom, and the meta-edges
abbrev pub index_bytes : DataGraph → List ℕ → ℕ → List ℕ
index_bytes g of atoms =
    head_bytes (sha256 (digest_bytes g)) g.directed atoms
    ++ flat_map (λ a. count_bytes (graph_atom g of a)) (range_with_len 0 atoms) ++ metas_bytes (meta_edges g of atoms)

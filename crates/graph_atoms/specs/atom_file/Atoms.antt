-- What an atom file holds, and its bytes.
use Rattle.std.specs.Prelude.{ℕ, ◌+◌, ◌^◌, ◌<◌, List, ◌∷◌, ◌++◌, length, map, All, codes}
use Rattle.std.specs.List.{flat_map}
use Rattle.std.specs.List.Sorted.{IsStrictlyIncreasing}
use Rattle.byteorder.specs.Endian.{big_bytes}
use Rattle.gl_base.specs.declared.atoms.VertexLine.{VertexLine}
use Rattle.gl_base.specs.declared.atoms.GhostLine.{GhostLine}
use Rattle.gl_base.specs.declared.atoms.EdgeLine.{EdgeLine}
use Rattle.gl_base.specs.declared.atoms.Lines.{Lines}

-- an atom: its number, its vertices, the other ends of its edges, and its edges
pub record Atom : Type 0 where
  pub number : ℕ
  pub vertices : List VertexLine
  pub ghosts : List GhostLine
  pub edges : List EdgeLine

-- the atom with this number that the lists hold
abbrev pub atom_of : ℕ → Lines → Atom
atom_of number lines =
    record {
      number = number;
      vertices = lines.vertices.items;
      ghosts = lines.ghosts.items;
      edges = lines.edges.items;
    }

-- tag 1, number, identifier
abbrev pub vertex_record : VertexLine → List ℕ
vertex_record v = 1 ∷ (big_bytes 4 v.vertex.0 ++ big_bytes 8 v.id)

-- tag 2, number, identifier, the atom that holds the vertex
abbrev pub ghost_record : GhostLine → List ℕ
ghost_record g = 2 ∷ (big_bytes 4 g.vertex.0 ++ (big_bytes 8 g.id ++ big_bytes 2 g.atom.0))

-- tag 3, number, both ends, weight
abbrev pub edge_record : EdgeLine → List ℕ
edge_record e =
    3 ∷ (big_bytes 4 e.edge.0 ++ (big_bytes 4 e.from.0 ++ (big_bytes 4 e.to.0 ++ big_bytes 4 e.weight)))

-- how many records the file has
abbrev pub record_count : Atom → ℕ
record_count a = length a.vertices + length a.ghosts + length a.edges

-- `GLABATOM`, version 1, the atom's number, zero, how many records follow
abbrev pub header_of : ℕ → ℕ → List ℕ
header_of number count =
    codes "GLABATOM" ++ big_bytes 4 1 ++ big_bytes 2 number ++ big_bytes 2 0 ++ big_bytes 4 count

abbrev pub header_bytes : Atom → List ℕ
header_bytes a = header_of a.number (record_count a)

-- the file of an atom: the header and the records
abbrev pub atom_bytes : Atom → List ℕ
atom_bytes a =
    header_bytes a ++ flat_map vertex_record a.vertices ++ flat_map ghost_record a.ghosts ++ flat_map edge_record a.edges

-- there are fewer than 2 ^ 32 records, and among those of a kind the numbers rise
pub record IsAtom (a : Atom) : Type 0 where
  pub few : record_count a < 2 ^ 32
  pub vertices : IsStrictlyIncreasing (map (λ v. v.vertex.0) a.vertices)
  pub ghosts : IsStrictlyIncreasing (map (λ g. g.vertex.0) a.ghosts)
  pub edges : IsStrictlyIncreasing (map (λ e. e.edge.0) a.edges)

-- Each number has the range of its type, as the numbers of a program have.
pub record VertexLineFits (v : VertexLine) : Type 0 where
  pub vertex : v.vertex.0 < 2 ^ 32
  pub id : v.id < 2 ^ 64

pub record GhostLineFits (g : GhostLine) : Type 0 where
  pub vertex : g.vertex.0 < 2 ^ 32
  pub id : g.id < 2 ^ 64
  pub atom : g.atom.0 < 2 ^ 16

pub record EdgeLineFits (e : EdgeLine) : Type 0 where
  pub edge : e.edge.0 < 2 ^ 32
  pub from : e.from.0 < 2 ^ 32
  pub to : e.to.0 < 2 ^ 32
  pub weight : e.weight < 2 ^ 32

pub record AtomFits (a : Atom) : Type 0 where
  pub number : a.number < 2 ^ 16
  pub vertices : All VertexLineFits a.vertices
  pub ghosts : All GhostLineFits a.ghosts
  pub edges : All EdgeLineFits a.edges

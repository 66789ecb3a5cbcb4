-- The numbers of a snapshot.
use Rattle.std.specs.Prelude.{◌≡◌, ℕ, zero, suc, ◌+◌, ◌<◌, ◌==◌, if◌then◌else◌, List, [], ◌∷◌, ◌++◌, length, slice_index}
use Rattle.store.specs.declared.store_format.header.Header.{Header}
use Rattle.store.specs.store_format.Fields.{field}
use Rattle.store.specs.store_format.Sections.{row_end}
use Rattle.store.specs.store_format.Bodies.{sections_place}

-- so many keys from this place on, each with its number
abbrev pub saved_at : ℕ → List ℕ → ℕ → List (ℕ × ℕ)
saved_at zero body at = []
saved_at (suc count) body at = (field body at 4, field body (at + 4) 8) ∷ saved_at count body (at + 12)

-- those of the row at this place
abbrev pub saved_in_row : List ℕ → ℕ → List (ℕ × ℕ)
saved_in_row body at = saved_at (field body at 4) body (at + 4)

-- the vertices of so many sections from this place on, each with its number
abbrev pub saved_vertices_from : ℕ → List ℕ → ℕ → List (ℕ × ℕ)
saved_vertices_from zero body at = []
saved_vertices_from (suc more) body at = saved_in_row body at ++ saved_vertices_from more body (row_end body (row_end body at))

-- and the edges
abbrev pub saved_edges_from : ℕ → List ℕ → ℕ → List (ℕ × ℕ)
saved_edges_from zero body at = []
saved_edges_from (suc more) body at = saved_in_row body (row_end body at) ++ saved_edges_from more body (row_end body (row_end body at))

-- the number that is saved last for this key, or else this one
abbrev pub saved_or : ℕ → List (ℕ × ℕ) → ℕ → ℕ
saved_or number [] key = number
saved_or number (pair ∷ saved) key = saved_or (if pair.0 == key then pair.1 else number) saved key

-- the number that a body has for this vertex
abbrev pub vertex_number : Header → List ℕ → ℕ → ℕ
vertex_number header body vertex = saved_or 0 (saved_vertices_from header.machines body (sections_place body)) vertex

-- and for this edge
abbrev pub edge_number : Header → List ℕ → ℕ → ℕ
edge_number header body edge = saved_or 0 (saved_edges_from header.machines body (sections_place body)) edge

-- these are the numbers of a body: one for each vertex, and one for each edge
pub record AreNumbersOf (header : Header) (body vertices edges : List ℕ) : Type 0 where
  pub n_is : length vertices ≡ header.n
  pub m_is : length edges ≡ header.m
  pub vertex : (v : ℕ) → v < header.n → slice_index vertices v ≡ vertex_number header body v
  pub edge : (e : ℕ) → e < header.m → slice_index edges e ≡ edge_number header body e

-- What a machine holds of the graph, as lists, and what is asked of them.
pub use Rattle.gl_base.specs.vertex_places.Placing.{place_of_vertex, AreTheirPlaces}
use Rattle.std.specs.Prelude.{ℕ, ◌==◌, ◌<◌, Bool, Option, Some, None, is_some, List, [], ◌∷◌, length, map, if◌then◌else◌, slice_get, slice_index, slice_index_or, slice_set}
use Rattle.gl_base.specs.declared.atoms.GhostLine.{GhostLine}
use Rattle.gl_base.specs.declared.numbers.MachineNo.{MachineNo}
use Rattle.gl_base.specs.declared.numbers.Vertex.{Vertex}
use Rattle.gl_base.specs.declared.scopes.Datum.{Datum}
use Rattle.update_api.specs.declared.links.Link.{Link}
use Rattle.local_graph.specs.declared.sides.Side.{Side}

-- Its own vertices and its ghosts, ascending, and the place of each, the ghosts behind the own ones. By place, of its own
-- vertices: identifier, datum, the links of the row while that is not out, the same whether it is out or not, and the machines
-- of the scope; of all: the sides, and the own vertices in the scope. By the number of an edge: its number.
pub record LocalView : Type 0 where
  pub me : MachineNo
  pub owned : List Vertex
  pub ghosts : List GhostLine
  pub places : List (Option ℕ)
  pub ids : List ℕ
  pub kept : List Datum
  pub rows : List (Option (List Link))
  pub links : List (List Link)
  pub sides : List (List Side)
  pub parts : List (List MachineNo)
  pub part : List (List Vertex)
  pub numbers : List ℕ

-- ---- what stands at a place

abbrev pub at_place : {X : Type 0} → List X → Option ℕ → X → X
at_place xs None d = d
at_place xs (Some k) d = slice_index_or xs k d

abbrev pub got_at : {X : Type 0} → List X → Option ℕ → Option X
got_at xs None = None
got_at xs (Some k) = slice_get xs k

-- the list with x at a place, where that is one
abbrev pub set_where : {X : Type 0} → List X → Option ℕ → X → List X
set_where xs None x = xs
set_where xs (Some k) x = slice_set xs k x

-- ---- of vertex v

-- its place, where it is an own vertex or a ghost
abbrev pub place_at : LocalView → ℕ → Option ℕ
place_at l v = place_of_vertex l.places v

-- the machine has it: as its own or as a ghost
abbrev pub is_placed : LocalView → ℕ → Bool
is_placed l v = is_some (place_at l v)

-- its datum, where it is an own vertex
abbrev pub own_datum : LocalView → ℕ → Option Datum
own_datum l v = got_at l.kept (place_at l v)

abbrev pub is_own : LocalView → ℕ → Bool
is_own l v = is_some (own_datum l v)

-- the identifier of an own vertex
abbrev pub id_at : LocalView → ℕ → ℕ
id_at l v = at_place l.ids (place_at l v) 0

-- the links of its row, where that is not out
abbrev pub links_at : LocalView → ℕ → Option (List Link)
links_at l v = at_place l.rows (place_at l v) None

-- the links of its row, whether that is out or not
abbrev pub row_at : LocalView → ℕ → List Link
row_at l v = at_place l.links (place_at l v) []

-- the edges at it that the machine holds
abbrev pub sides_at : LocalView → ℕ → List Side
sides_at l v = at_place l.sides (place_at l v) []

-- the machines of its scope, where it is an own vertex
abbrev pub parts_at : LocalView → ℕ → List MachineNo
parts_at l v = at_place l.parts (place_at l v) []

-- the own vertices in its scope
abbrev pub part_at : LocalView → ℕ → List Vertex
part_at l v = at_place l.part (place_at l v) []

-- ---- of edge e

abbrev pub edge_number_at : LocalView → ℕ → ℕ
edge_number_at l e = slice_index l.numbers e

-- there is such an edge
abbrev pub HasEdge : LocalView → ℕ → Type 0
HasEdge l e = e < length l.numbers

-- the numbers of the edges of some sides
abbrev pub numbers_along : (ℕ → ℕ) → List Side → List ℕ
numbers_along number sides = map (λ s. number s.edge.0) sides

-- the number of edge e after these numbers were written to the edges of these sides; the first counts
abbrev pub written : List Side → List ℕ → (ℕ → ℕ) → ℕ → ℕ
written [] xs old e = old e
written (s ∷ sides) [] old e = old e
written (s ∷ sides) (x ∷ xs) old e = if e == s.edge.0 then x else written sides xs old e

-- the numbers of machines
abbrev pub machine_numbers : List MachineNo → List ℕ
machine_numbers machines = map (λ a. a.0) machines

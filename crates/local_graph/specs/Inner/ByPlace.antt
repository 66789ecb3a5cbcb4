-- Lists that are made by place.
use Rattle.std.specs.Prelude.{◌≡◌, ℕ, ◌<◌, ◌==◌, List, [], ◌++◌, map, slice_index_or}
use Rattle.std.specs.List.{All, list_any, range_with_len}
use Rattle.gl_base.specs.declared.atoms.GhostLine.{GhostLine}
use Rattle.gl_base.specs.declared.atoms.VertexLine.{VertexLine}
use Rattle.gl_base.specs.declared.numbers.MachineNo.{MachineNo}
use Rattle.gl_base.specs.declared.numbers.Vertex.{Vertex}
use Rattle.graph_core.specs.declared.halves.Half.{Half}
use Rattle.local_graph.specs.declared.making.ByPlace.{ByPlace}
use Rattle.local_graph.specs.declared.outlines.Outline.{Outline}
use Rattle.local_graph.specs.declared.sides.Side.{Side}
use Rattle.local_graph.specs.Locals.{LocalView}
use Rattle.local_graph.specs.Played.{IsMadeOf, numbers_of}
use Rattle.local_graph.specs.Inner.AtPlaces.{links_known, machines_of, scope_numbers, sides_known}

-- the own vertices in an order, and behind them the ghosts
abbrev pub known_vertices : List VertexLine → List GhostLine → List Vertex
known_vertices order ghosts = map (λ v. v.vertex) order ++ map (λ g. g.vertex) ghosts

-- the rows have these half-edges at each vertex below a number
abbrev pub AreRowsOf : (ℕ → List Half) → ℕ → List (List Half) → Type 0
AreRowsOf at vertices halves = (v : ℕ) → v < vertices → slice_index_or halves v [] ≡ at v

-- whoever has a neighbour is its neighbour
abbrev pub LeadBack : (ℕ → List Half) → Type 0
LeadBack at = (v x : ℕ) → list_any (λ h. h.other.0 == x) (at v) ≡ list_any (λ h. h.other.0 == v) (at x)

-- the half-edges at each vertex are of edges below a number
abbrev pub HaveEdgesBelow : ℕ → ℕ → List (List Half) → Type 0
HaveEdgesBelow vertices edges halves = (v : ℕ) → v < vertices → All (λ h. h.edge.0 < edges) (slice_index_or halves v [])

-- By place, of the first n places: the links and the machines of the scope. Of the first m: the sides, and the own vertices of the scope.
pub record AreMadeTo (side : Half → Side) (many : ℕ) (me : MachineNo) (machines : ℕ) (halves : List (List Half)) (known owned : List Vertex) (n m : ℕ) (b : ByPlace) : Type 0 where
  pub links : b.links ≡ map (links_known halves known) (range_with_len 0 n)
  pub parts : b.parts ≡ map (λ k. machines_of me machines (sides_known side many halves known k)) (range_with_len 0 n)
  pub sides : b.sides ≡ map (sides_known side many halves known) (range_with_len 0 m)
  pub part : map numbers_of b.part ≡ map (λ k. scope_numbers owned (slice_index_or known k (record { 0 = 0 })).0 (sides_known side many halves known k)) (range_with_len 0 m)

-- what is made from these rows is made from the half-edges that they have
abbrev pub IsPlayedBy : MachineNo → List VertexLine → List GhostLine → List (List Half) → Outline → LocalView → Type 0
IsPlayedBy me own ghosts halves outline l =
    (at : ℕ → List Half) → AreRowsOf at outline.vertices halves → LeadBack at → IsMadeOf me own ghosts at outline.machines outline.edges l

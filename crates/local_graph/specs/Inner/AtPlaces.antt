-- What stands at a place, made from the half-edges at the vertex there.
use Rattle.std.specs.Prelude.{◌≡◌, ℕ, ◌==◌, ◌||◌, Bool, false, nat_eq, nat_lt, Option, Some, None, List, [], map, slice_index_or}
use Rattle.std.specs.List.{filter, list_any, range_with_len}
use Rattle.gl_base.specs.Lists.{Ascends}
use Rattle.gl_base.specs.declared.numbers.MachineNo.{MachineNo}
use Rattle.gl_base.specs.declared.numbers.Vertex.{Vertex}
use Rattle.graph_core.specs.declared.halves.Half.{Half}
use Rattle.update_api.specs.declared.links.Link.{Link}
use Rattle.local_graph.specs.declared.sides.Side.{Side}
use Rattle.local_graph.specs.Lines.{links_from}
use Rattle.local_graph.specs.Locals.{place_of_vertex}
pub use Rattle.local_graph.specs.Played.{IsSideTo}
use Rattle.local_graph.specs.Played.{meets, numbers_of, sides_kept}

-- the half-edges at the vertex with place k among these
abbrev pub halves_known : List (List Half) → List Vertex → ℕ → List Half
halves_known halves known k = slice_index_or halves (slice_index_or known k (record { 0 = 0 })).0 []

-- the links of its row
abbrev pub links_known : List (List Half) → List Vertex → ℕ → List Link
links_known halves known k = links_from 0 (halves_known halves known k)

-- its sides, where the first so many places are those of the own vertices
abbrev pub sides_known : (Half → Side) → ℕ → List (List Half) → List Vertex → ℕ → List Side
sides_known side many halves known k = sides_kept (nat_lt k many) many (map side (halves_known halves known k))

-- the machines of the scope of a vertex with these sides
abbrev pub machines_of : MachineNo → ℕ → List Side → List MachineNo
machines_of me machines sides = map (λ a. record { 0 = a }) (filter (meets me sides) (range_with_len 0 machines))

-- x is in the scope of v, whose sides are these
abbrev pub stands_near : ℕ → List Side → ℕ → Bool
stands_near v sides x = x == v || list_any (λ s. s.other.0 == x) sides

-- those of the own vertices that are in the scope of v
abbrev pub scope_numbers : List Vertex → ℕ → List Side → List ℕ
scope_numbers owned v sides = filter (stands_near v sides) (numbers_of owned)

-- the number is in the list
abbrev pub number_among : ℕ → List ℕ → Bool
number_among x numbers = list_any (nat_eq x) numbers

-- one of the first so many places
abbrev pub is_first_place : ℕ → Option ℕ → Bool
is_first_place many None = false
is_first_place many (Some k) = nat_lt k many

-- the vertices ascend, and are those that have the first so many places
pub record ArePlain (owned : List Vertex) (many : ℕ) (places : List (Option ℕ)) : Type 0 where
  pub ascend : Ascends (numbers_of owned)
  pub first : (x : ℕ) → number_among x (numbers_of owned) ≡ is_first_place many (place_of_vertex places x)

-- What a machine holds once the lines of its part were played.
pub use Rattle.graph_core.specs.Growth.{numbers_of}
pub use Rattle.std.specs.List.Sorted.{IsPermutation}
use Rattle.std.specs.Prelude.{◌≡◌, ℕ, ◌-◌, ◌==◌, ◌||◌, min, Bool, true, nat_lt, Option, Some, None, if◌then◌else◌, List, ◌++◌, length, map, replicate, slice_get}
use Rattle.std.specs.List.{filter, list_any, range_with_len}
use Rattle.gl_base.specs.declared.atoms.GhostLine.{GhostLine}
use Rattle.gl_base.specs.declared.atoms.Lines.{Lines}
use Rattle.gl_base.specs.declared.numbers.MachineNo.{MachineNo}
use Rattle.gl_base.specs.declared.atoms.VertexLine.{VertexLine}
use Rattle.gl_base.specs.declared.scopes.Datum.{Datum}
use Rattle.graph_core.specs.declared.halves.Half.{Half}
use Rattle.local_graph.specs.declared.outlines.Outline.{Outline}
use Rattle.local_graph.specs.declared.sides.Side.{Side}
use Rattle.graph_core.specs.DataGraph.{DataGraph}
use Rattle.graph_core.specs.Halves.{halves_of}
use Rattle.local_graph.specs.Lines.{half_of, halves_of_lines, links_from}
use Rattle.local_graph.specs.Locals.{LocalView, AreTheirPlaces, place_of_vertex, is_placed, is_own, links_at, sides_at, parts_at, part_at, machine_numbers}

-- the machine that has the atom of a ghost, where each machine has the atom of its own number
abbrev pub machine_of : MachineNo → Option GhostLine → MachineNo
machine_of me None = me
machine_of me (Some g) = record { 0 = g.atom.0 }

-- who owns what stands at a place, where the own vertices have the first so many places
abbrev pub place_owner : MachineNo → ℕ → List GhostLine → ℕ → MachineNo
place_owner me many ghosts place = if nat_lt place many then me else machine_of me (slice_get ghosts (place - many))

-- the place where it is below `none`, and else `none`
abbrev pub place_or : ℕ → Option ℕ → ℕ
place_or none None = none
place_or none (Some k) = min k none

-- the side has the place of its other end
abbrev pub IsSideTo : List (Option ℕ) → Side → Type 0
IsSideTo places s = s.place ≡ place_or 4294967295 (place_of_vertex places s.other.0)

-- a half-edge as a side
abbrev pub side_of : MachineNo → ℕ → List GhostLine → List (Option ℕ) → Half → Side
side_of me many ghosts places h =
    let place = place_or 4294967295 (place_of_vertex places h.other.0) in
    record { edge = h.edge; other = h.other; place = place; owner = place_owner me many ghosts place }

-- machine a owns the vertex with these sides or one that a side leads to
abbrev pub meets : MachineNo → List Side → ℕ → Bool
meets me sides a = a == me.0 || list_any (λ s. s.owner.0 == a) sides

-- x is v, or one of its sides leads to v
abbrev pub leads_to : LocalView → ℕ → ℕ → Bool
leads_to l v x = x == v || list_any (λ s. s.other.0 == v) (sides_at l x)

-- no number was set
abbrev pub no_datum : Datum
no_datum = record { value = 0; version = 0; mark = 0 }

-- those sides of a vertex that a machine keeps, where its own vertices have the first so many places: each one of an own vertex, and of
-- a ghost those that lead to an own vertex
abbrev pub sides_kept : Bool → ℕ → List Side → List Side
sides_kept is_own many sides = filter (λ s. is_own || nat_lt s.place many) sides

-- the half-edges at a vertex of a graph, as machines have them
abbrev pub graph_halves : DataGraph → ℕ → List Half
graph_halves g v = map half_of (halves_of g v)

-- The lists are made from the lines of the own vertices and of the ghosts, and the half-edges at each vertex, with so many machines and
-- edges.
pub record IsMadeOf (me : MachineNo) (own : List VertexLine) (beside : List GhostLine) (halves : ℕ → List Half) (machines edges : ℕ) (l : LocalView) : Type 0 where
  pub machine : l.me ≡ me
  pub owned : l.owned ≡ map (λ v. v.vertex) own
  pub ghosts : l.ghosts ≡ beside
  -- the places are those of the own vertices in some order, and of the ghosts behind them
  pub order : List VertexLine
  pub same : IsPermutation own order
  pub places : AreTheirPlaces l.places (map (λ v. v.vertex) order ++ map (λ g. g.vertex) beside)
  pub ids : l.ids ≡ map (λ v. v.id) order
  pub kept : l.kept ≡ replicate (length order) no_datum
  -- the edges at each vertex are those that stand there, in their order; those at a ghost are those that lead to an own vertex
  pub sides : (v : ℕ) → is_placed l v ≡ true →
      sides_at l v ≡ sides_kept (is_own l v) (length order) (map (side_of me (length order) beside l.places) (halves v))
  pub rows : (v : ℕ) → is_own l v ≡ true → links_at l v ≡ Some (links_from 0 (halves v))
  -- the machines of a scope, and the own vertices of a scope, ascending
  pub parts : (v : ℕ) → is_own l v ≡ true → machine_numbers (parts_at l v) ≡ filter (meets me (sides_at l v)) (range_with_len 0 machines)
  pub part : (v : ℕ) → is_placed l v ≡ true → numbers_of (part_at l v) ≡ filter (leads_to l v) (numbers_of l.owned)
  pub numbers : l.numbers ≡ replicate edges 0

-- the lists are made from these lines
abbrev pub IsPlayedFrom : MachineNo → Lines → Outline → LocalView → Type 0
IsPlayedFrom me lines outline l =
    IsMadeOf me lines.vertices.items lines.ghosts.items (halves_of_lines outline.directed lines.edges.items) outline.machines outline.edges l

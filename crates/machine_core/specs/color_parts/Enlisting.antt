-- Vertices that come to stand in line.
pub use Rattle.machine_core.specs.color_parts.Parts.{place_at, sides_at}
use Rattle.std.specs.Prelude.{◌≡◌, ◌⊎◌, ℕ, ◌<◌, ◌&&◌, not, Bool, true, Some, List, length, map, slice_index_or}
use Rattle.gl_base.specs.declared.numbers.Vertex.{Vertex}
use Rattle.local_graph.specs.declared.sides.Side.{Side}
use Rattle.partition.specs.declared.machine_numbers.keeping.Numbers.{Numbers}
use Rattle.machine_core.specs.declared.color_parts.enlisting.Which.{Which}
use Rattle.machine_core.specs.declared.color_parts.enlisting.Which.TheVariants.{All, Pending, Tasks}
use Rattle.task_sets.specs.task_sched.Tasks.{is_flagged}
use Rattle.machine_core.specs.color_parts.Parts.{LinesView, TasksView, is_in_line}

-- the vertices at the other ends
abbrev pub ends_of : List Side → List Vertex
ends_of sides = map (λ s. s.other) sides

-- the vertex at this place is of this kind
abbrev pub is_such : Which → TasksView → ℕ → Bool
is_such Tasks t u = is_flagged t.task u
is_such Pending t u = is_flagged t.pending u
is_such All t u = true

-- it is of this kind, and not admitted
abbrev pub is_free_such : Which → TasksView → ℕ → Bool
is_free_such which t u = is_such which t u && not (is_flagged t.admitted u)

-- one of the vertices stands at this place, of the first so many
pub record StandsAmong (n : Numbers) (vertices : List Vertex) (many place : ℕ) : Type 0 where
  pub index : ℕ
  pub below : index < many
  pub here : (d : Vertex) → place_at n.local (slice_index_or vertices index d).0 ≡ Some place

-- Who stood in line does so still, who stands there now did so or is one of the first so many of these vertices, of this kind and not admitted; and
-- these stand there where they are of this kind and not admitted.
pub record HasEnlisted (which : Which) (n : Numbers) (old new : LinesView) (vertices : List Vertex) (many : ℕ) : Type 0 where
  pub kept : (u : ℕ) → is_in_line old u ≡ true → is_in_line new u ≡ true
  pub free : (u : ℕ) → is_in_line new u ≡ true → (is_in_line old u ≡ true) ⊎ (StandsAmong n vertices many u × (is_free_such which n.tasks u ≡ true))
  pub each : (i k : ℕ) (d : Vertex) → i < many → place_at n.local (slice_index_or vertices i d).0 ≡ Some k → k < length n.tasks.task → is_free_such which n.tasks k ≡ true → is_in_line new k ≡ true

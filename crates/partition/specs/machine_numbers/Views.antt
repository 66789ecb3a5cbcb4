-- The numbers and tasks of a machine, as functions of vertices and edges.
pub use Rattle.local_graph.specs.Locals.{LocalView, at_place, place_at, own_datum, is_own, id_at, links_at, row_at, sides_at, edge_number_at, HasEdge, numbers_along, written}
pub use Rattle.local_graph.specs.Played.{no_datum, IsPlayedFrom}
pub use Rattle.scope_locks.specs.ghost_cache.Caches.{ghost_datum}
pub use Rattle.task_sets.specs.task_sched.Tasks.{TasksView, is_flagged}
pub use Rattle.cluster_laws.specs.cluster_core.Messages.{News}
use Rattle.std.specs.Prelude.{◌≡◌, ℕ, ◌==◌, Bool, false, Option, Some, None, List, [], ◌∷◌, length, map, nat_lt, if◌then◌else◌}
use Rattle.std.specs.List.{list_any}
use Rattle.gl_base.specs.declared.numbers.EdgeNo.{EdgeNo}
use Rattle.gl_base.specs.declared.numbers.Vertex.{Vertex}
use Rattle.gl_base.specs.declared.scopes.Datum.{Datum}
use Rattle.local_graph.specs.declared.sides.Side.{Side}
use Rattle.wire.specs.declared.wire_msgs.messages.Done.{Done}
use Rattle.partition.specs.declared.machine_numbers.keeping.Numbers.{Numbers}

-- ---- of vertex v

abbrev pub datum_or : Option Datum → Datum
datum_or None = no_datum
datum_or (Some d) = d

-- that of an own vertex, and else that of a ghost
abbrev pub own_or_ghost : Option Datum → Option Datum → Datum
own_or_ghost None ghost_there = datum_or ghost_there
own_or_ghost (Some d) ghost_there = d

-- its datum here
abbrev pub datum_here : Numbers → ℕ → Datum
datum_here n v = own_or_ghost (own_datum n.local v) (ghost_datum n.ghosts v)

abbrev pub value_here : Numbers → ℕ → ℕ
value_here n v = (datum_here n v).value

-- whether what stands at a place has its flag
abbrev pub flag_there : List Bool → Option ℕ → Bool
flag_there flags place = at_place flags place false

-- whether it is a task here: the flags stand in the machine's own order
abbrev pub task_here : Numbers → ℕ → Bool
task_here n v = flag_there n.tasks.task (place_at n.local v)

-- the flags are those of the machine's own vertices, each at its place
pub record AreTasksOf (l : LocalView) (t : TasksView) : Type 0 where
  pub apart : (x y k : ℕ) → place_at l x ≡ Some k → place_at l y ≡ Some k → x ≡ y
  pub own : (x k : ℕ) → place_at l x ≡ Some k → is_own l x ≡ nat_lt k (length t.task)

-- ---- of edge e

abbrev pub edge_here : Numbers → ℕ → ℕ
edge_here n e = edge_number_at n.local e

-- ---- what a message tells

-- the number that is told of edge e; the first counts
abbrev pub number_told : List (EdgeNo × ℕ) → ℕ → Option ℕ
number_told [] e = None
number_told (one ∷ edges) e = if e == one.0.0 then Some one.1 else number_told edges e

-- the vertex is named
abbrev pub is_in_update : List Vertex → ℕ → Bool
is_in_update vertices u = list_any (λ v. v.0 == u) vertices

abbrev pub news_of : Done → News
news_of done =
    record {
      centre = done.centre.0;
      datum = done.datum;
      edges = number_told done.edges.items;
      wakes = is_in_update done.wakes.items;
      pends = is_in_update done.pends.items;
      number = done.number;
    }

-- ---- along the edges at a vertex

-- the numbers at their other ends
abbrev pub near_along : (ℕ → ℕ) → List Side → List ℕ
near_along value sides = map (λ s. value s.other.0) sides

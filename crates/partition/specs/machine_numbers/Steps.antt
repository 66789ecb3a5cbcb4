-- What the calls ask and leave.
pub use Rattle.cluster_laws.specs.cluster_core.Effects.{datum_after, edge_after, newer_datum, renewed, told_datum}
pub use Rattle.cluster_laws.specs.cluster_core.Ranges.{set_at}
use Rattle.std.specs.Prelude.{◌+◌, slice_set, ◌≡◌, ℕ, ◌<◌, ◌≤◌, ◌==◌, ◌&&◌, ◌||◌, Bool, true, false, not, Some, None, List, [], ◌∷◌, ◌++◌, length, if◌then◌else◌, vec_len, vec_capacity}
use Rattle.std.specs.List.{All}
use Rattle.gl_base.specs.declared.entries.Entry.{Entry}
use Rattle.gl_base.specs.declared.numbers.EdgeNo.{EdgeNo}
use Rattle.gl_base.specs.declared.numbers.MachineNo.{MachineNo}
use Rattle.gl_base.specs.declared.numbers.Vertex.{Vertex}
use Rattle.gl_base.specs.declared.scopes.ScopeId.{ScopeId}
use Rattle.update_api.specs.Directions.{leads_out}
use Rattle.update_api.specs.declared.links.Link.{Link}
use Rattle.update_api.specs.declared.woken.Woken.{Woken}
use Rattle.update_api.specs.declared.woken.Woken.TheVariants.{Nobody, Ahead, Around}
use Rattle.local_graph.specs.declared.sides.Side.{Side}
use Rattle.local_graph.specs.declared.works.Outcome.{Outcome}
use Rattle.local_graph.specs.declared.works.Work.{Work}
use Rattle.wire.specs.declared.wire_msgs.messages.Done.{Done}
use Rattle.partition.specs.declared.machine_numbers.keeping.Numbers.{Numbers}
use Rattle.partition.specs.declared.machine_numbers.keeping.ScratchBuffers.{ScratchBuffers}
use Rattle.local_graph.specs.Locals.{set_where}
use Rattle.partition.specs.machine_numbers.Views.{own_datum, datum_or, LocalView, TasksView, News, place_at, is_own, id_at, links_at, row_at, sides_at, numbers_along, near_along, written, datum_here, value_here, task_here, edge_here, flag_there}

-- ---- whom an update wakes

-- the vertex at the other end of the link
abbrev pub wakes_along : Woken → Link → Bool
wakes_along Nobody link = false
wakes_along Ahead link = leads_out link.direction
wakes_along Around link = true

-- u, at the other end of this side, which machine `to` owns
abbrev pub wakes_there : ℕ → Woken → Side → Link → Bool
wakes_there to woken s link = s.owner.0 == to && wakes_along woken link

-- u, which machine `to` owns, along one of these sides
abbrev pub wakes_of : ℕ → Woken → List Side → List Link → ℕ → Bool
wakes_of to woken [] links u = false
wakes_of to woken (s ∷ sides) [] u = false
wakes_of to woken (s ∷ sides) (link ∷ links) u = (wakes_there to woken s link && s.other.0 == u) || wakes_of to woken sides links u

-- the flags when those are set that an update wakes along these sides and machine `to` owns, one after another
abbrev pub woken_flags : ℕ → Woken → List Side → List Link → List Bool → List Bool
woken_flags to woken [] links flags = flags
woken_flags to woken (s ∷ sides) [] flags = flags
woken_flags to woken (s ∷ sides) (link ∷ links) flags = woken_flags to woken sides links (if wakes_there to woken s link then slice_set flags s.place true else flags)

-- ---- works

-- there is room for the row and the numbers of a work with so many edges
pub record HasRoom (spare : ScratchBuffers) (many : ℕ) : Type 0 where
  pub links : many ≤ vec_capacity spare.links
  pub edges : many ≤ vec_capacity spare.edges
  pub near : many ≤ vec_capacity spare.near

-- the vertex is out for its update with its row and the numbers as they stand, and nothing else has changed
pub record HasTakenOut (old new : Numbers) (scope : ScopeId) (v : Vertex) (work : Work) : Type 0 where
  pub scope_is : work.scope ≡ scope
  pub vertex : work.vertex ≡ v
  pub id : work.id ≡ id_at old.local v.0
  pub value : work.value ≡ value_here old v.0
  pub links : links_at old.local v.0 ≡ Some work.row.links.items
  pub row : work.row.links.items ≡ row_at old.local v.0
  pub many : length work.row.links.items ≡ length (sides_at old.local v.0)
  pub numbers : work.row.numbers.items ≡ numbers_along (edge_here old) (sides_at old.local v.0)
  pub near : work.near.items ≡ near_along (value_here old) (sides_at old.local v.0)
  pub out : (x : ℕ) → links_at new.local x ≡ (if x == v.0 then None else links_at old.local x)
  pub rest : new ≡ record old { local = record old.local { rows = new.local.rows } }

-- ---- a Done

-- what it tells is learned
pub record HasLearned (old new : Numbers) (news : News) : Type 0 where
  pub datum : (v : ℕ) → datum_here new v ≡ datum_after news v (datum_here old v)
  pub edge : (e : ℕ) → edge_here new e ≡ edge_after (news.edges e) (edge_here old e)
  pub task : (u : ℕ) → task_here new u ≡ (news.wakes u || task_here old u)
  pub log : new.log.items ≡ old.log.items

-- ---- an update

-- the end of an edge is where its side says, and who owns it here has it as its own
pub record IsSideHere (l : LocalView) (s : Side) : Type 0 where
  pub place : place_at l s.other.0 ≡ Some s.place
  pub own : (s.owner.0 == l.me.0) ≡ true → is_own l s.other.0 ≡ true

-- the outcome is of the row of v and of its edges; v is admitted for an update; and a place in the log is left
pub record CanFinish (n : Numbers) (o : Outcome) : Type 0 where
  pub own : is_own n.local o.work.vertex.0 ≡ true
  pub row : o.work.row.links.items ≡ row_at n.local o.work.vertex.0
  pub links : length o.work.row.links.items ≡ length (sides_at n.local o.work.vertex.0)
  pub edges : length o.edges.items ≡ length (sides_at n.local o.work.vertex.0)
  pub sides : All (IsSideHere n.local) (sides_at n.local o.work.vertex.0)
  pub admitted : flag_there n.tasks.admitted (place_at n.local o.work.vertex.0) ≡ true
  pub task : task_here n o.work.vertex.0 ≡ true
  pub not_pending : flag_there n.tasks.pending (place_at n.local o.work.vertex.0) ≡ false
  pub outside : n.tasks.outside < 18446744073709551615
  pub version : (datum_here n o.work.vertex.0).version < 4294967295
  pub room : vec_len n.log < vec_capacity n.log

-- the vertex at this place is not admitted any more, and one update more is outside the last acknowledged snapshot
pub record HasRun (old new : TasksView) (place : ℕ) : Type 0 where
  pub plans : new.plans + 1 ≡ old.plans
  pub rest : new ≡ record old {
    task = new.task;
    admitted = slice_set old.admitted place false;
    planned = slice_set old.planned place false;
    plans = new.plans;
    outside = old.outside + 1;
  }

-- what of the machine's lists an update writes: the vertex's datum and row, and the flags of tasks
pub record HasWritten (old new : Numbers) (o : Outcome) : Type 0 where
  pub kept : new.local.kept ≡ set_where old.local.kept (place_at old.local o.work.vertex.0) (renewed (datum_or (own_datum old.local o.work.vertex.0)) o.value)
  pub rows : new.local.rows ≡ set_where old.local.rows (place_at old.local o.work.vertex.0) (Some o.work.row.links.items)
  pub task : new.tasks.task ≡ woken_flags old.local.me.0 o.woken (sides_at old.local o.work.vertex.0) o.work.row.links.items (set_where old.tasks.task (place_at old.local o.work.vertex.0) false)

-- an update that was made: the vertex, the links and the numbers of its edges, and what the program made of them
pub record MadeUpdate : Type 0 where
  pub vertex : Vertex
  pub links : List Link
  pub numbers : List ℕ
  pub value : ℕ
  pub edges : List ℕ
  pub woken : Woken

abbrev pub made_of : Outcome → MadeUpdate
made_of o =
    record {
      vertex = o.work.vertex;
      links = o.work.row.links.items;
      numbers = o.work.row.numbers.items;
      value = o.value;
      edges = o.edges.items;
      woken = o.woken;
    }

-- the outcome of an update that was made in its work's own lists
abbrev pub run_of : Work → Woken → Outcome
run_of work woken = record { work = work; value = work.value; edges = work.row.numbers; woken = woken }

-- the update is kept
pub record HasUpdated (old new : Numbers) (o : MadeUpdate) (entry : Entry) : Type 0 where
  pub datum : (x : ℕ) → datum_here new x ≡ set_at (datum_here old) o.vertex.0 (renewed (datum_here old o.vertex.0) o.value) x
  pub edge : (e : ℕ) → edge_here new e ≡ written (sides_at old.local o.vertex.0) o.edges (edge_here old) e
  pub task : (u : ℕ) → task_here new u ≡ (wakes_of old.local.me.0 o.woken (sides_at old.local o.vertex.0) o.links u || (task_here old u && not (u == o.vertex.0)))
  pub log : new.log.items ≡ old.log.items ++ entry ∷ []

-- ---- what is told to another machine

-- the edges to vertices of machine `to` whose numbers changed, with the new ones
abbrev pub told_edges : ℕ → List Side → List ℕ → List ℕ → List (EdgeNo × ℕ)
told_edges to [] xs ys = []
told_edges to (s ∷ sides) [] ys = []
told_edges to (s ∷ sides) (x ∷ xs) [] = []
told_edges to (s ∷ sides) (x ∷ xs) (y ∷ ys) = if s.owner.0 == to && not (x == y) then (s.edge, y) ∷ told_edges to sides xs ys else told_edges to sides xs ys

-- the vertices of machine `to` that are woken
abbrev pub told_wakes : ℕ → Woken → List Side → List Link → List Vertex
told_wakes to woken [] links = []
told_wakes to woken (s ∷ sides) [] = []
told_wakes to woken (s ∷ sides) (link ∷ links) = if wakes_there to woken s link then s.other ∷ told_wakes to woken sides links else told_wakes to woken sides links

-- nothing is told yet of the update of this scope, and there is room for so many edges and vertices
pub record IsBlank (done : Done) (scope : ScopeId) (centre : Vertex) (many : ℕ) : Type 0 where
  pub scope_is : done.scope ≡ scope
  pub centre_is : done.centre ≡ centre
  pub datum : done.datum ≡ None
  pub edges : done.edges.items ≡ []
  pub wakes : done.wakes.items ≡ []
  pub pends : done.pends.items ≡ []
  pub number : done.number ≡ 0
  pub edge_room : many ≤ vec_capacity done.edges
  pub wake_room : many ≤ vec_capacity done.wakes

-- it tells machine `to` of the outcome
pub record TellsOf (n : Numbers) (to : MachineNo) (o : Outcome) (done : Done) : Type 0 where
  pub scope : done.scope ≡ o.work.scope
  pub centre : done.centre ≡ o.work.vertex
  pub datum : done.datum ≡ told_datum (datum_here n o.work.vertex.0) o.value
  pub edges : done.edges.items ≡ told_edges to.0 (sides_at n.local o.work.vertex.0) o.work.row.numbers.items o.edges.items
  pub wakes : done.wakes.items ≡ told_wakes to.0 o.woken (sides_at n.local o.work.vertex.0) o.work.row.links.items
  pub pends : done.pends.items ≡ []
  pub number : done.number ≡ 0

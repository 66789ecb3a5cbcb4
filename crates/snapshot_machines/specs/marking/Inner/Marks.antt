-- What a snapshot update saves and tells, along the edges at its vertex.
pub use Rattle.cluster_laws.specs.cluster_core.Effects.{ends, mark_news, marked_datum, pends_for, save}
pub use Rattle.cluster_laws.specs.cluster_core.Ranges.{set_at}
pub use Rattle.machine_core.specs.machine_parts.Parts.{admitted_here, datum_here, edge_here, flight_at, is_own, is_ready, links_at, part_at, pending_here, place_at, sides_at}
pub use Rattle.partition.specs.machine_numbers.Views.{AreTasksOf}
pub use Rattle.machine_core.specs.machine_turns.Turns.{IsRowIn}
pub use Rattle.machine_core.specs.machine_updates.Committing.{after_told}
pub use Rattle.machine_core.specs.machine_updates.Reserving.{CanTell, IsReserved}
pub use Rattle.coordinator.specs.snap_update.Holding.{with_edges}
pub use Rattle.coordinator.specs.snap_update.Snaps.{with_vertex}
pub use Rattle.wire.specs.wire_msgs.Views.{DoneView, done_view}
use Rattle.std.specs.Prelude.{◌≡◌, ℕ, suc, ◌<◌, ◌==◌, ◌&&◌, ◌||◌, not, nat_lt, Bool, true, false, Some, List, [], ◌∷◌, slice_set, if◌then◌else◌}
use Rattle.std.specs.List.{All}
use Rattle.gl_base.specs.declared.numbers.EdgeNo.{EdgeNo}
use Rattle.gl_base.specs.declared.numbers.MachineNo.{MachineNo}
use Rattle.gl_base.specs.declared.numbers.Vertex.{Vertex}
use Rattle.gl_base.specs.declared.scopes.Datum.{Datum}
use Rattle.gl_base.specs.declared.scopes.ScopeId.{ScopeId}
use Rattle.local_graph.specs.declared.sides.Side.{Side}
use Rattle.task_sets.specs.task_sched.Tasks.{TasksView}
use Rattle.partition.specs.declared.machine_numbers.keeping.Numbers.{Numbers}
use Rattle.partition.specs.machine_numbers.Steps.{IsSideHere}
use Rattle.partition.specs.machine_numbers.Views.{is_in_update}
use Rattle.machine_core.specs.declared.machine_parts.cores.Core.{Core}
use Rattle.machine_core.specs.machine_parts.Settings.{Setting, IsPartOf}
use Rattle.snapshot_machines.specs.marking.Keeping.{Part, SnapView, part_of, with_snaps}
pub use Rattle.snapshot_machines.specs.marking.Marking.{HasUnplanned}
use Rattle.snapshot_machines.specs.marking.Marking.{IsSetting}
use Rattle.snapshot_machines.specs.marking.Seeding.{AreMarkedBelow}
use Rattle.snapshot_machines.specs.marking.Sending.{AreMarksUpTo}

-- ---- the law's effect without its end

-- machine a makes the snapshot update of v, but for what becomes pending where nothing is
abbrev pub marked_alone : Setting → ℕ → ScopeId → ℕ → Part → Part
marked_alone st a s v part =
    ends st a s v (mark_news st part v)
    (record part {
      datum = set_at part.datum v (marked_datum part v);
      pending = λ u. pends_for st part v a u || (part.pending u && not (u == v));
      saved = save st part v;
    })

-- ---- the scope

-- the scope of v is ready for its snapshot update
pub record CanBeMarked (m : Core) (s : ScopeId) (v : Vertex) : Type 0 where
  pub flight : flight_at m.pipe s ≡ Some v
  pub ready : is_ready m.pipe s ≡ true
  pub pending : pending_here m.numbers v.0 ≡ true

-- ---- along the edges

-- the vertex has no mark of snapshot k yet
abbrev pub is_unmarked : Numbers → ℕ → ℕ → Bool
is_unmarked n k u = nat_lt (datum_here n u).mark k

-- the edges to ends without the mark, each with its number
abbrev pub edges_left : Numbers → ℕ → List Side → List (EdgeNo × ℕ)
edges_left n k [] = []
edges_left n k (s ∷ sides) = if is_unmarked n k s.other.0 then (s.edge, edge_here n s.edge.0) ∷ edges_left n k sides else edges_left n k sides

-- the end of the side has no mark, and is machine q's
abbrev pub is_end_left : Numbers → ℕ → ℕ → Side → Bool
is_end_left n k q s = s.owner.0 == q && is_unmarked n k s.other.0

-- the ends without the mark that are machine q's
abbrev pub ends_left : Numbers → ℕ → ℕ → List Side → List Vertex
ends_left n k q [] = []
ends_left n k q (s ∷ sides) = if is_end_left n k q s then s.other ∷ ends_left n k q sides else ends_left n k q sides

-- ---- what is told

-- the datum with the mark of snapshot k
abbrev pub with_mark : ℕ → Datum → Datum
with_mark k d = record { value = d.value; version = suc d.version; mark = k }

-- k where vertices become pending, and else 0
abbrev pub number_pended : List Vertex → ℕ → ℕ
number_pended [] k = 0
number_pended (v ∷ vs) k = k

-- what machine `to` is told of the snapshot update of v
abbrev pub mark_told : Numbers → ℕ → ScopeId → Vertex → MachineNo → DoneView
mark_told n k s v to =
    let pends = ends_left n k to.0 (sides_at n.local v.0) in
    record {
      scope = s;
      centre = v;
      datum = Some (with_mark k (datum_here n v.0));
      edges = [];
      wakes = [];
      pends = pends;
      number = number_pended pends k;
    }

-- ---- numbers

-- what they say of v, whose snapshot update is made
pub record CanMarkNumber (n : Numbers) (v : Vertex) : Type 0 where
  pub own : is_own n.local v.0 ≡ true
  pub tasks : AreTasksOf n.local n.tasks
  pub sides : All (IsSideHere n.local) (sides_at n.local v.0)
  pub admitted : admitted_here n v.0 ≡ true
  pub pending : pending_here n v.0 ≡ true
  pub version : (datum_here n v.0).version < 4294967295

-- of the tasks flags alone have changed, and how many are planned
abbrev pub HasOtherFlags : TasksView → TasksView → Type 0
HasOtherFlags old new = new ≡ record old { pending = new.pending; asked = new.asked; admitted = new.admitted; planned = new.planned; plans = new.plans }

-- v has the mark of snapshot k and is not admitted any more, and its own ends without the mark are pending
pub record HasMarkedNumber (old new : Numbers) (v : Vertex) (k : ℕ) : Type 0 where
  pub datum : (u : ℕ) → datum_here new u ≡ set_at (datum_here old) v.0 (with_mark k (datum_here old v.0)) u
  pub pending : (u : ℕ) → pending_here new u ≡ (is_in_update (ends_left old k old.local.me.0 (sides_at old.local v.0)) u || (pending_here old u && not (u == v.0)))
  pub admitted : (place : ℕ) → place_at old.local v.0 ≡ Some place → new.tasks.admitted ≡ slice_set old.tasks.admitted place false
  pub plans : (place : ℕ) → place_at old.local v.0 ≡ Some place → HasUnplanned old.tasks new.tasks place
  pub own : (x : ℕ) → is_own new.local x ≡ is_own old.local x
  pub tasks : AreTasksOf new.local new.tasks
  pub flags : HasOtherFlags old.tasks new.tasks
  pub local : new.local ≡ record old.local { kept = new.local.kept }
  pub rest : new ≡ record old { local = new.local; tasks = new.tasks }

-- ---- the machine

-- What becomes of its parts as the snapshot update of v is made, but for what becomes pending behind it.
pub record HasMarkedHere (old : Core) (kept : SnapView) (new : Core) (kept_now : SnapView) (s : ScopeId) (v : Vertex) : Type 0 where
  pub after : (st : Setting) → IsSetting st → IsPartOf st old →
      with_snaps kept_now (part_of new) ≡ marked_alone st old.numbers.local.me.0 s v.0 (with_snaps kept (part_of old))
  pub below : (place : ℕ) → AreMarkedBelow old.numbers kept.known place → AreMarkedBelow new.numbers kept.known place
  pub most : AreMarksUpTo old.numbers kept.known → AreMarksUpTo new.numbers kept.known

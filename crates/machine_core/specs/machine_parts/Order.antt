-- A machine in order: what its parts say of one another goes together. No setting of a cluster is needed to say so.
pub use Rattle.machine_core.specs.lock_release.Released.{is_one_of}
use Rattle.std.specs.Prelude.{◌≡◌, ℕ, pred, ◌<◌, ◌≤◌, ◌==◌, Bool, true, false, Option, Some, is_some, List, length, nat_lt, slice_get}
use Rattle.std.specs.List.{All, list_any}
use Rattle.gl_base.specs.declared.numbers.MachineNo.{MachineNo}
use Rattle.gl_base.specs.declared.numbers.Vertex.{Vertex}
use Rattle.gl_base.specs.declared.scopes.Claim.{Claim}
use Rattle.gl_base.specs.declared.scopes.ScopeId.{ScopeId}
use Rattle.partition.specs.declared.machine_numbers.keeping.Numbers.{Numbers}
use Rattle.partition.specs.machine_numbers.Views.{AreTasksOf, ghost_datum}
use Rattle.partition.specs.machine_numbers.Steps.{IsSideHere}
use Rattle.scope_locks.specs.scope_pipe.Pipes.{Flies}
use Rattle.scope_locks.specs.vertex_locks.Locks.{LockView}
use Rattle.machine_core.specs.declared.machine_parts.cores.Core.{Core}
use Rattle.machine_core.specs.machine_parts.Parts.{LocalView, PipeView, EnteredView, place_at, is_own, links_at, sides_at, parts_at, part_at, datum_here, admitted_here, flight_at, is_ready, entered_at, is_owned, holder_at, queue_at, lock_asked}

-- ---- the graph here

-- The vertices of a scope that stand in `part` are own ones and ascend, and an own vertex stands in its own; the machines of an own
-- vertex's scope ascend, there is one, and all are machines of the cluster.
pub record IsGraphInOrder (local : LocalView) (machines : ℕ) : Type 0 where
  pub me : local.me.0 < machines
  pub own : (v i : ℕ) (x : Vertex) → slice_get (part_at local v) i ≡ Some x → is_own local x.0 ≡ true
  pub ascend : (v i j : ℕ) (x y : Vertex) → slice_get (part_at local v) i ≡ Some x → slice_get (part_at local v) j ≡ Some y → i < j → x.0 < y.0
  pub self : (v : ℕ) → is_own local v ≡ true → is_one_of (part_at local v) v ≡ true
  pub some : (v : ℕ) → is_own local v ≡ true → is_some (slice_get (parts_at local v) 0) ≡ true
  pub within : (v i : ℕ) (b : MachineNo) → is_own local v ≡ true → slice_get (parts_at local v) i ≡ Some b → b.0 < machines
  pub apart : (v i j : ℕ) (b c : MachineNo) → is_own local v ≡ true → slice_get (parts_at local v) i ≡ Some b → slice_get (parts_at local v) j ≡ Some c → i < j → b.0 < c.0

-- ---- numbers

-- Tasks have the places of own vertices, sides say what is so, each ghost has a copy; and no own vertex has a mark before the snapshot
-- that the run began with.
pub record AreNumbersInOrder (n : Numbers) (base : ℕ) : Type 0 where
  pub tasks : AreTasksOf n.local n.tasks
  pub sides : (v : ℕ) → is_own n.local v ≡ true → All (IsSideHere n.local) (sides_at n.local v)
  pub ghosts : (x : ℕ) → is_some (ghost_datum n.ghosts x) ≡ list_any (λ g. g.vertex.0 == x) n.local.ghosts
  pub marks : (v : ℕ) → is_own n.local v ≡ true → base ≤ (datum_here n v).mark
  pub outside : n.tasks.outside ≤ length n.log.items

-- at each place below the number of own vertices stands the one that has it
pub record StandByPlace (local : LocalView) (count : ℕ) (vertices : List Vertex) : Type 0 where
  pub many : length vertices ≡ count
  pub place : (k : ℕ) (v : Vertex) → slice_get vertices k ≡ Some v → place_at local v.0 ≡ Some k

-- ---- scopes that have come

-- how many of the locks that it asked for a scope has: all while it moves on, and else all but the last
abbrev pub got : Bool → ℕ → ℕ
got true place = place
got false place = pred place

-- the scope of the claim has come, waits, and asked for the lock of x last
pub record StandsAtLock (pipe : PipeView) (moving : ScopeId → Bool) (x : ℕ) (c : Claim) : Type 0 where
  pub come : is_some (entered_at pipe c.scope) ≡ true
  pub still : moving c.scope ≡ false
  pub asked : (e : EnteredView) → entered_at pipe c.scope ≡ Some e → lock_asked e ≡ Some (record { 0 = x })

-- A scope that has come has the own vertices of its scope before it; its home and the machines still to come are of the cluster; it
-- waits for a lock where it isn't moving on; and a scope of this home is in flight with its centre, and not ready.
pub record HasComeRight (local : LocalView) (pipe : PipeView) (machines : ℕ) (moves : Bool) (s : ScopeId) (e : EnteredView) : Type 0 where
  pub part : e.part ≡ part_at local e.centre.0
  pub place : e.place ≤ length e.part
  pub rest : (i : ℕ) (b : MachineNo) → slice_get e.rest i ≡ Some b → b.0 < machines
  pub home : s.home.0 < machines
  pub stands : moves ≡ false → is_some (lock_asked e) ≡ true
  pub flight : s.home.0 ≡ pipe.home.0 → flight_at pipe s ≡ Some e.centre
  pub waits : s.home.0 ≡ pipe.home.0 → is_ready pipe s ≡ false

-- ---- locks

-- Each own vertex has a lock. Who waits for one has come and asked for it last, a scope that has come holds just the locks that it
-- got; a scope in flight holds locks of its own scope alone, and where scopes take locks a ready one holds all of them; and scopes of
-- this home that hold a lock or have come were admitted.
pub record AreLocksInOrder (locking : Bool) (local : LocalView) (locks : List (Option LockView)) (pipe : PipeView) (moving : ScopeId → Bool) : Type 0 where
  pub owned : (x : ℕ) → is_owned locks x ≡ is_own local x
  pub queues : (x : ℕ) → All (StandsAtLock pipe moving x) (queue_at locks x)
  pub holds : (s : ScopeId) (e : EnteredView) (j : ℕ) (y : Vertex) → entered_at pipe s ≡ Some e → slice_get e.part j ≡ Some y →
      is_some (holder_at locks y.0 s) ≡ nat_lt j (got (moving s) e.place)
  pub only : (s : ScopeId) (c : Vertex) (x : ℕ) → flight_at pipe s ≡ Some c → is_some (holder_at locks x s) ≡ true → is_one_of (part_at local c.0) x ≡ true
  pub ready : locking ≡ true → (s : ScopeId) (c : Vertex) (x : ℕ) → flight_at pipe s ≡ Some c → is_ready pipe s ≡ true → is_one_of (part_at local c.0) x ≡ true →
      is_some (holder_at locks x s) ≡ true
  pub admitted : (s : ScopeId) (x : ℕ) → s.home.0 ≡ pipe.home.0 → is_some (holder_at locks x s) ≡ true → s.serial < pipe.serial

-- ---- scopes of this home

-- a scope of v is in flight and ready
pub record IsReadyAt (pipe : PipeView) (v : Vertex) : Type 0 where
  pub scope : ScopeId
  pub centre : flight_at pipe scope ≡ Some v
  pub ready : is_ready pipe scope ≡ true

-- Scopes in flight were admitted here, and each has a centre of its own: an own vertex, which is admitted in the tasks. No other one is.
-- A row is out only where a scope of its vertex is ready.
pub record AreFlightsInOrder (n : Numbers) (pipe : PipeView) : Type 0 where
  pub home : pipe.home ≡ n.local.me
  pub given : (s : ScopeId) (c : Vertex) → flight_at pipe s ≡ Some c → (s.home ≡ pipe.home) × (s.serial < pipe.serial)
  pub own : (s : ScopeId) (c : Vertex) → flight_at pipe s ≡ Some c → is_own n.local c.0 ≡ true
  pub single : (s t : ScopeId) (c : Vertex) → flight_at pipe s ≡ Some c → flight_at pipe t ≡ Some c → s ≡ t
  pub admitted : (s : ScopeId) (c : Vertex) → flight_at pipe s ≡ Some c → admitted_here n c.0 ≡ true
  pub flies : (v : Vertex) → is_own n.local v.0 ≡ true → admitted_here n v.0 ≡ true → Flies pipe v
  pub rows : (v : Vertex) → is_own n.local v.0 ≡ true → is_some (links_at n.local v.0) ≡ false → IsReadyAt pipe v

-- ---- the machine

-- all goes together, where these scopes are moving on from one lock to the next
pub record IsOrderlyBut (moving : ScopeId → Bool) (m : Core) : Type 0 where
  pub graph : IsGraphInOrder m.numbers.local (length m.out.machines)
  pub numbers : AreNumbersInOrder m.numbers m.terms.base
  pub entered : (s : ScopeId) (e : EnteredView) → entered_at m.pipe s ≡ Some e → HasComeRight m.numbers.local m.pipe (length m.out.machines) (moving s) s e
  pub locks : AreLocksInOrder m.terms.locks m.numbers.local m.locks m.pipe moving
  pub flights : AreFlightsInOrder m.numbers m.pipe
  pub width : m.pipe.width ≡ m.terms.pipeline

-- nobody is between two locks
abbrev pub nobody : ScopeId → Bool
nobody s = false

-- the machine is in order: so it is between its calls
abbrev pub IsOrderly : Core → Type 0
IsOrderly m = IsOrderlyBut nobody m

-- It knows the own vertex at each place of its tasks, and there each is marked as admitted or not.
pub record KnowsPlaces (m : Core) : Type 0 where
  pub vertices : StandByPlace m.numbers.local (length m.numbers.tasks.task) m.by_place.items
  pub flags : length m.numbers.tasks.admitted ≡ length m.numbers.tasks.task

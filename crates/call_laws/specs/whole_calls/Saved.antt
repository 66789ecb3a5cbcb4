-- The snapshots that a list of events has acknowledged, and the orders that they stand for.
use Rattle.std.specs.List.{AllByRecursion}
use Rattle.std.specs.List.Sorted.{IsPermutation}
use Rattle.std.specs.Prelude.{List, Some, [], filter, length, suc, true, ℕ, ⊤, ◌++◌, ◌<◌, ◌∷◌, ◌≡◌, ◌≤◌}
use Rattle.gl_base.specs.declared.entries.Entry.{Entry}
use Rattle.call_laws.specs.attempts.Beginnings.{last_of, nothing, snapshot_order}
use Rattle.call_laws.specs.attempts.EngineCalls.{EngineCall, last_beginning}
use Rattle.call_laws.specs.attempts.Entries.{is_restart, is_update}
use Rattle.call_laws.specs.attempts.Stores.{last_order, snapshots_of}
use Rattle.cluster_laws.specs.cluster_core.Cuts.{cut_of}
use Rattle.cluster_laws.specs.cluster_core.Settings.{Setting}
use Rattle.cluster_laws.specs.cluster_model.ByTicket.{StandByTicket}
use Rattle.cluster_laws.specs.cluster_model.Clusters.{Cluster}
use Rattle.cluster_laws.specs.cluster_model.Events.{Event, Record, after_event, entries_below, setting_after, snapshot_numbers}
use Rattle.cluster_laws.specs.cluster_model.Leading.{Coordinator, Snapshot}
use Rattle.whole_laws.specs.cluster_records.Recorded.{HaveSameNumbers, snapshot_due}
use Rattle.graph_core.specs.DataGraph.{size}
use Rattle.seq_run.specs.Orders.{IsValidFrom, all_tasks, replay}

-- the snapshot that an event acknowledges
abbrev pub recorded_at : Cluster → Event → List Snapshot
recorded_at c Record = snapshot_due c.coordinator ∷ []
recorded_at c event = []

-- those of these events, the first first
abbrev pub recorded_in : Setting → Cluster → List Event → List Snapshot
recorded_in st c [] = []
recorded_in st c (event ∷ events) = recorded_at c event ++ recorded_in (setting_after st event) (after_event st c event) events

-- The snapshot has this number, and its numbers are the replay of this order; which is the one before, perhaps restarts, and what the
-- snapshot's sections bring.
abbrev pub IsSnapshotOf : Setting → ℕ → List Entry → List Entry → Snapshot → Type 0
IsSnapshotOf st number before order snapshot =
    (snapshot.number ≡ number)
    × HaveSameNumbers st.graph (snapshot_numbers st snapshot) (replay st.graph st.program order)
    × (missing : List Entry)
    × AllByRecursion (λ entry. is_restart entry ≡ true) missing
    × IsPermutation (before ++ (missing ++ entries_below st.machines snapshot)) order

-- each of these snapshots is of the order in its place, from this number and this order on
abbrev pub AreSnapshotsOf : Setting → ℕ → List Entry → List Snapshot → List (List Entry) → Type 0
AreSnapshotsOf st number before [] [] = ⊤
AreSnapshotsOf st number before [] (order ∷ orders) = ⊥
AreSnapshotsOf st number before (snapshot ∷ snapshots) [] = ⊥
AreSnapshotsOf st number before (snapshot ∷ snapshots) (order ∷ orders) =
    IsSnapshotOf st (suc number) before order snapshot × AreSnapshotsOf st (suc number) order snapshots orders

-- ---- the orders of the snapshots

-- where an event acknowledges a snapshot: the order that its attempt began with
abbrev pub front_at : Cluster → Event → List (List Entry)
front_at c Record = c.base.order ∷ []
front_at c event = []

-- those of these events, the first first
abbrev pub fronts_in : Setting → Cluster → List Event → List (List Entry)
fronts_in st c [] = []
fronts_in st c (event ∷ events) = front_at c event ++ fronts_in (setting_after st event) (after_event st c event) events

-- The order of a snapshot, told of the one before it: by ticket it has the restarts of what its attempt began with, and the updates of the one before
-- with those that its sections bring.
pub record IsNextOrder (st : Setting) (front before : List Entry) (snapshot : Snapshot) (order : List Entry) : Type 0 where
  pub high : ℕ
  pub by_ticket : StandByTicket 0 order high
  pub restarts : filter is_restart order ≡ filter is_restart front
  pub updates : IsPermutation (filter is_update (before ++ entries_below st.machines snapshot)) (filter is_update order)

-- and so each of these orders
abbrev pub AreNextOrders : Setting → List Entry → List (List Entry) → List Snapshot → List (List Entry) → Type 0
AreNextOrders st before [] [] [] = ⊤
AreNextOrders st before (front ∷ fronts) (snapshot ∷ snapshots) (order ∷ orders) = IsNextOrder st front before snapshot order × AreNextOrders st order fronts snapshots orders
AreNextOrders st before fronts snapshots orders = ⊥

-- The sections of a snapshot bring updates alone; they say each number, and agree: a vertex stands in the section of its owner alone, and an edge in one or more with one number.
pub record SaysOnce (st : Setting) (snapshot : Snapshot) : Type 0 where
  pub updates : AllByRecursion (λ entry. is_update entry ≡ true) (entries_below st.machines snapshot)
  pub some_vertex : (v : ℕ) → v < size st.graph → (x : ℕ) × ((snapshot.sections (st.owner v)).section.vertices v ≡ Some x)
  pub some_edge : (e : ℕ) → e < length st.graph.edges → (a : ℕ) × (x : ℕ) × (a < st.machines) × ((snapshot.sections a).section.edges e ≡ Some x)
  pub vertices : (a v x : ℕ) → a < st.machines → (snapshot.sections a).section.vertices v ≡ Some x → st.owner v ≡ a
  pub edges : (a e x : ℕ) → a < st.machines → e < length st.graph.edges → (snapshot.sections a).section.edges e ≡ Some x → x ≡ (snapshot_numbers st snapshot).edge e

-- The snapshot that is due may follow those of the call, also where it is recorded and never acknowledged: it is of a valid cut of what
-- the last attempt made, which has what the last snapshot has.
abbrev pub MayFollow : Setting → Coordinator → EngineCall → Type 0
MayFollow st c call =
    (later : ℕ → ℕ)
    × ((v : ℕ) → last_of nothing call.last.kept v ≤ later v)
    × IsValidFrom st.graph st.program (replay st.graph st.program (last_beginning call).front) (all_tasks st.graph) (cut_of later call.last.made)
    × IsSnapshotOf st c.begun (last_order call.base (snapshots_of call)) (snapshot_order (last_beginning call) call.last later) (snapshot_due c)
    × SaysOnce st (snapshot_due c)

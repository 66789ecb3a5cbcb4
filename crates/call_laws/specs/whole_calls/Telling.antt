-- What coordinator and tickets tell of the call.
use Rattle.std.specs.Prelude.{[], false, length, sum_by, true, ℕ, ◌*◌, ◌+◌, ◌<◌, ◌≡◌, ◌≤◌, ◌⊎◌}
use Rattle.call_laws.specs.attempts.Beginnings.{unheld_updates}
use Rattle.call_laws.specs.attempts.EngineCalls.{EngineCall, call_order, made_of}
use Rattle.call_laws.specs.attempts.Stores.{last_order, snapshots_of}
use Rattle.cluster_laws.specs.cluster_core.Settings.{Setting}
use Rattle.cluster_laws.specs.cluster_model.Clusters.{Cluster, call_way, report_way}
use Rattle.cluster_laws.specs.cluster_model.Leading.{Coordinator, HasSeenTheEnd, HasStoreRoom, RecordIsDue, SnapshotIsDue, updates_told}
use Rattle.cluster_laws.specs.cluster_model.Working.{half_window}
use Rattle.cluster_laws.specs.cluster_runs.Attempts.{Attempt, made_by}
use Rattle.graph_core.specs.DataGraph.{size}
use Rattle.seq_run.specs.Orders.{tasks_after}
use Rattle.call_laws.specs.whole_calls.Saved.{MayFollow}

-- The last two waves have shown the end, no snapshot is under way, and none is due.
pub record HasSavedTheEnd (st : Setting) (c : Coordinator) : Type 0 where
  pub end : HasSeenTheEnd c
  pub none : c.acknowledged ≡ c.begun
  pub all : SnapshotIsDue st c → ⊥

-- ---- where the store takes no record more

-- how many bytes a record of so many updates has, with the gate behind it
abbrev pub length_with : Setting → ℕ → ℕ
length_with st updates = 8 + 16 * updates + 8 * st.machines + 12 * size st.graph + 12 * length st.graph.edges + 9

-- of one machine at least half of the window is outside the last snapshot
abbrev pub HasHalfOutside : Setting → Attempt → Type 0
HasHalfOutside st a = (m : ℕ) × (m < st.machines) × (half_window st ≤ made_by (unheld_updates a) m)

-- no task is left after the call's order, and no snapshot was acknowledged in it, or the last one is of another order
abbrev pub LacksTheEnd : Setting → EngineCall → Type 0
LacksTheEnd st call =
    ((u : ℕ) → u < size st.graph → tasks_after st.graph st.program (call_order call) u ≡ false)
    × ((snapshots_of call ≡ []) ⊎ (last_order call.base (snapshots_of call) ≡ call_order call → ⊥))

-- As many snapshots are stored as may be, and the window or the end asks for one more; or a record of all that is outside the last one
-- would end too far.
abbrev pub LacksStoreRoom : Setting → Coordinator → EngineCall → Type 0
LacksStoreRoom st c call =
    ((4096 ≤ c.acknowledged) × (HasHalfOutside st call.last ⊎ LacksTheEnd st call))
    ⊎ (1073741824 < c.store_end + length_with st (length (unheld_updates call.last)))

-- a snapshot is under way, for which the store has no room
abbrev pub NeedsMoreStore : Setting → Coordinator → EngineCall → Type 0
NeedsMoreStore st c call = (c.acknowledged < c.begun) × LacksStoreRoom st c call

-- ---- where nobody asks for a snapshot

-- nothing is on its way between the coordinator and machine a
abbrev pub HasNoWordAt : Cluster → ℕ → Type 0
HasNoWordAt c a = (call_way c a ≡ []) × (report_way c a ≡ [])

-- no snapshot is under way, and none is due
pub record AwaitsNoSnapshot (st : Setting) (c : Coordinator) : Type 0 where
  pub none : c.acknowledged ≡ c.begun
  pub due : SnapshotIsDue st c → ⊥

-- Machines ask for snapshots; but no word is on its way, and the coordinator knows of none that is asked for.
pub record AsksForNone (st : Setting) (c : Cluster) : Type 0 where
  pub stored : st.stored ≡ true
  pub half : 0 < half_window st
  pub quiet : (a : ℕ) → a < st.machines → HasNoWordAt c a
  pub settled : AwaitsNoSnapshot st c.coordinator

-- where as many snapshots are stored as may be, of each machine less than half of the window is outside the last one
abbrev pub LacksNoSnapshot : Setting → Coordinator → EngineCall → Type 0
LacksNoSnapshot st c call = 0 < half_window st → 4096 ≤ c.acknowledged → HasHalfOutside st call.last → ⊥

-- ---- all of it

-- What is so of a call with this budget by what its coordinator and its tickets tell.
pub record CallReport (st : Setting) (budget : ℕ) (c : Cluster) (call : EngineCall) : Type 0 where
  -- where the waves have shown the end no task is left after the call's order, and no failure was reached in its last attempt
  pub tasks : HasSeenTheEnd c.coordinator → (u : ℕ) → u < size st.graph → tasks_after st.graph st.program (call_order call) u ≡ false
  pub unharmed : HasSeenTheEnd c.coordinator → call.last.struck ≡ 0
  -- and all together told the updates that it made
  pub told : HasSeenTheEnd c.coordinator → sum_by updates_told c.coordinator.rounds.counting.waves.wave ≡ length call.last.made
  -- where besides no snapshot is due, the call has one, and the order of the last one is the call's
  pub some : st.stored ≡ true → HasSavedTheEnd st c.coordinator → 1 ≤ length (snapshots_of call)
  pub saved : st.stored ≡ true → HasSavedTheEnd st c.coordinator → last_order call.base (snapshots_of call) ≡ call_order call
  -- where a record is due, its snapshot may follow those of the call
  pub pending : RecordIsDue st c.coordinator → MayFollow st c.coordinator call
  -- where a record is due for which the store has no room, more of it was needed
  pub full : RecordIsDue st c.coordinator → (HasStoreRoom st c.coordinator → ⊥) → NeedsMoreStore st c.coordinator call
  -- and so where a snapshot is under way and as many are stored as may be
  pub many : (c.coordinator.acknowledged ≡ c.coordinator.begun → ⊥) → 4096 ≤ c.coordinator.acknowledged → NeedsMoreStore st c.coordinator call
  -- where no snapshot is asked for, of each machine less than half of the window is outside the last one
  pub unasked : AsksForNone st c → HasHalfOutside st call.last → ⊥
  -- the budget is the updates that were made, lost ones among them, and the tickets that are left
  pub spent : length (made_of call) + c.left ≡ budget

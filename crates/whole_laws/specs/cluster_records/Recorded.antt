-- The entries and the numbers that the snapshots of an attempt have.
use Rattle.std.specs.List.{AllByRecursion}
use Rattle.std.specs.Prelude.{List, [], length, suc, ℕ, ◌<◌, ◌∷◌, ◌≡◌}
use Rattle.gl_base.specs.declared.entries.Entry.{Entry}
use Rattle.gl_base.specs.declared.entries.Entry.TheVariants.{Go, Restart}
use Rattle.cluster_laws.specs.cluster_core.Cuts.{Begins, updates_at}
use Rattle.cluster_laws.specs.cluster_core.Replays.{replay_of}
use Rattle.cluster_laws.specs.cluster_core.Settings.{Setting}
use Rattle.cluster_laws.specs.cluster_model.Clusters.{Cluster}
use Rattle.cluster_laws.specs.cluster_model.Events.{snapshot_numbers}
use Rattle.cluster_laws.specs.cluster_model.Leading.{Coordinator, Snapshot, come_or}
use Rattle.whole_laws.specs.cluster_records.Listed.{AreComing, AreListed, entries_at}
use Rattle.whole_laws.specs.cluster_whole.Logged.{IsLogged, Logged, all_entries, entries_to}
use Rattle.whole_laws.specs.cluster_whole.Views.{world_of}
use Rattle.whole_laws.specs.cluster_whole.Whole.{IsWhole}
use Rattle.graph_core.specs.DataGraph.{DataGraph, size}
use Rattle.seq_run.specs.Orders.{IsValidFrom, all_tasks}
use Rattle.seq_run.specs.States.{GraphState}

-- the entry is an update of a vertex of the graph, by the machine that owns it
abbrev pub IsOwnUpdate : Setting → Entry → Type 0
IsOwnUpdate st (Go machine vertex ticket) = (vertex.0 < size st.graph) × (st.owner vertex.0 ≡ machine.0)
IsOwnUpdate st (Restart ticket) = ⊥

-- an update of this attempt: the snapshot that it began with doesn't have it
abbrev pub IsSinceBase : Setting → Logged → Type 0
IsSinceBase st l = (st.base < l.number) × IsOwnUpdate st l.entry

-- the sections of the snapshot have of each machine the updates that it is the first to have
abbrev pub HasNewUpdates : Setting → List Logged → Snapshot → Type 0
HasNewUpdates st logged snapshot = (a : ℕ) → a < st.machines → (snapshot.sections a).entries ≡ entries_at a snapshot.number logged

-- the snapshots have the numbers behind `low`, one after another, up to `high`
abbrev pub GoOnByNumber : ℕ → List Snapshot → ℕ → Type 0
GoOnByNumber low [] high = high ≡ low
GoOnByNumber low (snapshot ∷ snapshots) high = (snapshot.number ≡ suc low) × GoOnByNumber (suc low) snapshots high

-- the same numbers of each vertex and each edge of the graph
pub record HaveSameNumbers (g : DataGraph) (one other : GraphState) : Type 0 where
  pub vertices : (v : ℕ) → v < size g → one.vertex v ≡ other.vertex v
  pub edges : (e : ℕ) → e < length g.edges → one.edge e ≡ other.edge e

-- A good snapshot has the updates that are logged for it, and these and those of the snapshots before are a valid order that has of each
-- vertex the first updates of the whole one. Its numbers are their replay.
pub record IsGoodSnapshot (st : Setting) (logged : List Logged) (snapshot : Snapshot) : Type 0 where
  pub updates : HasNewUpdates st logged snapshot
  pub valid : IsValidFrom st.graph st.program st.start (all_tasks st.graph) (entries_to snapshot.number logged)
  pub first : (v : ℕ) → Begins (updates_at v (entries_to snapshot.number logged)) (updates_at v (all_entries logged))
  pub numbers : HaveSameNumbers st.graph (snapshot_numbers st snapshot) (replay_of st (entries_to snapshot.number logged))

-- The snapshots of this attempt are good, and have the numbers behind the base's, one after another.
pub record AreGoodSnapshots (st : Setting) (c : Cluster) (logged : List Logged) : Type 0 where
  pub numbered : GoOnByNumber st.base c.coordinator.snapshots c.coordinator.acknowledged
  pub good : AllByRecursion (IsGoodSnapshot st logged) c.coordinator.snapshots

-- Each update of the order is logged with the first snapshot that has it, and is listed, told and recorded for that one.
pub record IsAccounted (st : Setting) (c : Cluster) (whole : IsWhole st c) (logged : List Logged) : Type 0 where
  pub order : IsLogged st (world_of c) whole.consistent logged
  pub since : AllByRecursion (IsSinceBase st) logged
  pub lists : AreListed st c logged
  pub sections : AreComing st c logged
  pub records : AreGoodSnapshots st c logged

-- the snapshot under way, as it is recorded
abbrev pub snapshot_due : Coordinator → Snapshot
snapshot_due c = record { number = c.begun; sections = λ a. come_or (c.come a) }

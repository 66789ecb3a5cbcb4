-- A machine as a cluster that takes snapshots knows it, and the machines of the law that it is.
pub use Rattle.cluster_laws.specs.cluster_core.Effects.{is_end}
pub use Rattle.cluster_laws.specs.cluster_core.Parts.{Part}
pub use Rattle.cluster_laws.specs.cluster_core.Settings.{nth_edge}
pub use Rattle.graph_core.specs.DataGraph.{size}
pub use Rattle.partition.specs.machine_numbers.Views.{flag_there, place_at}
pub use Rattle.machine_core.specs.machine_parts.Parts.{part_of}
pub use Rattle.machine_core.specs.machine_parts.Settings.{IsPartOf, window_of}
pub use Rattle.snapshot_machines.specs.saving.Machines.{SnapMachineView, SnapView}
pub use Rattle.cluster_laws.specs.known_parts.Alike.{LooksAlike}
pub use Rattle.snapshot_machines.specs.marking.Keeping.{with_snaps}
pub use Rattle.coordinator.specs.machine_api.Promises.{Machine, Setting}
pub use Rattle.snapshot_machines.specs.locking.Reports.{AreToldReports, ReportsView}
pub use Rattle.coordinator.specs.snap_update.Holding.{IsSnapPartOf}
pub use Rattle.coordinator.specs.snap_update.Snaps.{IsSavedOnce}
pub use Rattle.snapshot_machines.specs.wave_counts.Counts.{CountsView, IsCountOf}
use Rattle.std.specs.Prelude.{None, Option, Some, false, true, ℕ, ◌<◌, ◌≡◌, ◌≤◌}
use Rattle.gl_base.specs.declared.scopes.ScopeId.{ScopeId}
use Rattle.partition.specs.declared.machine_numbers.keeping.Numbers.{Numbers}
use Rattle.update_api.specs.Updates.{Update}

-- a machine that takes part in snapshots, what it counts, how many of its updates may be outside the last acknowledged snapshot, where
-- snapshots are taken, and what it tells the coordinator
pub record LockingMachineView (P : Type 0) : Type 0 where
  pub machine : SnapMachineView P
  pub counts : CountsView
  pub window : Option ℕ
  pub reports : ReportsView

-- its part, with what it keeps for snapshots
abbrev pub part_held : {P : Type 0} → LockingMachineView P → Part
part_held x = with_snaps x.machine.kept (part_of x.machine.core)

-- ---- scopes that were planned

-- As many were planned as the tasks plan. A scope in flight was planned where the tasks planned its vertex, and else that is pending.
pub record ArePlansOf (n : Numbers) (m : Machine) : Type 0 where
  pub many : m.plans ≡ n.tasks.plans
  pub planned : (s : ScopeId) (v : ℕ) → m.part.flight s ≡ Some v → m.planned s ≡ flag_there n.tasks.planned (place_at n.local v)
  pub others : (s : ScopeId) (v : ℕ) → m.part.flight s ≡ Some v → m.planned s ≡ false → m.part.pending v ≡ true

-- ---- what was saved

-- the vertex is machine a's, and has the mark of the snapshot that is known
pub record IsMarkedOwn (st : Setting) (a : ℕ) (part : Part) (v : ℕ) : Type 0 where
  pub vertex : v < size st.graph
  pub owned : st.owner v ≡ a
  pub marked : part.known ≤ (part.datum v).mark

-- Each vertex that was saved has the mark of the snapshot that is known, and so has an end of each edge; and what is pending hasn't.
pub record IsSavedRight (st : Setting) (a : ℕ) (part : Part) : Type 0 where
  pub vertices : (v number : ℕ) → part.saved.vertices v ≡ Some number → IsMarkedOwn st a part v
  pub edges : (e number : ℕ) → part.saved.edges e ≡ Some number → (v : ℕ) × (is_end (nth_edge st e) v ≡ true) × IsMarkedOwn st a part v
  pub pending : (v : ℕ) → v < size st.graph → st.owner v ≡ a → part.pending v ≡ true → (part.datum v).mark < part.known

-- ---- the machine of the law

-- Of a cluster with this setting it is machine a, where programs mean this, and has what m has: it holds its part of the graph and goes by
-- the setting's terms, its program and its window are the setting's; to it its part looks like m's; and it keeps for snapshots, counts,
-- plans and tells the coordinator what m does, and saved nothing twice. It holds no wave: it answers at once. Whether m has failed, and what it completed in earlier
-- attempts, is for others to know.
pub record IsLockingMachineOf {P : Type 0} (meaning : P → Update) (st : Setting) (a : ℕ) (m : Machine) (x : LockingMachineView P) : Type 0 where
  pub here : IsPartOf st x.machine.core
  pub number : x.machine.core.numbers.local.me.0 ≡ a
  pub program : st.program ≡ meaning x.machine.program
  pub window : x.window ≡ window_of st
  pub part : LooksAlike st a m.part (part_held x)
  pub kept : IsSnapPartOf x.machine.kept m
  pub counts : IsCountOf st x.counts m
  pub none_held : m.held ≡ None
  pub plans : ArePlansOf x.machine.core.numbers m
  pub saved : IsSavedRight st a (part_held x)
  pub once : IsSavedOnce x.machine.kept
  pub reports : AreToldReports x.reports.messages m.out

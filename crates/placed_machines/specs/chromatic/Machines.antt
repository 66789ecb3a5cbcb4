-- A machine that goes by colours, as a cluster that takes snapshots knows it, and the machines of the law that it is.
pub use Rattle.snapshot_machines.specs.chromatic.Machines.{ColorSnapView, IsColorSnapOf, IsColorSnapPart, part_of_steps}
pub use Rattle.cluster_laws.specs.known_parts.Alike.{LooksAlike}
pub use Rattle.coordinator.specs.machine_api.Promises.{Machine, Setting}
pub use Rattle.snapshot_machines.specs.locking.Reports.{AreToldReports, ReportsView}
pub use Rattle.snapshot_machines.specs.locking.Machines.{ArePlansOf, IsSavedRight, window_of}
pub use Rattle.coordinator.specs.snap_update.Holding.{IsSnapPartOf}
pub use Rattle.coordinator.specs.snap_update.Snaps.{IsSavedOnce}
pub use Rattle.snapshot_machines.specs.wave_counts.Counts.{CountsView, IsCountOf}
use Rattle.std.specs.Prelude.{Option, [], ℕ, ◌<◌, ◌≡◌}
use Rattle.update_api.specs.Updates.{Update}

-- a machine that goes by colours, what it counts, how many of its updates may be outside the last acknowledged snapshot, where snapshots are
-- taken, and what it tells the coordinator
pub record ChromaticMachineView (P : Type 0) : Type 0 where
  pub machine : ColorSnapView P
  pub counts : CountsView
  pub window : Option ℕ
  pub reports : ReportsView

-- Of a cluster with this setting, whose machines have numbers, it is machine a, where programs mean this, and has what m has: it holds its
-- part of the graph and goes by the setting's colours, its program and its window are the setting's; to it its part looks like m's, in the
-- same step, and nobody waits for a lock; and it keeps for snapshots, counts, plans and tells the coordinator what m does, holds the wave that m holds, and saved nothing
-- twice. Whether m has failed, and what it completed in earlier attempts, is for others to know.
pub record IsChromaticMachineOf {P : Type 0} (meaning : P → Update) (st : Setting) (a : ℕ) (m : Machine) (x : ChromaticMachineView P) : Type 0 where
  pub here : IsColorSnapOf meaning st x.machine
  pub few : st.machines < 65536
  pub number : x.machine.core.numbers.local.me.0 ≡ a
  pub window : x.window ≡ window_of st
  pub part : LooksAlike st a m.part (part_of_steps x.machine)
  pub free : (v : ℕ) → m.part.queue v ≡ []
  pub kept : IsSnapPartOf x.machine.kept m
  pub counts : IsCountOf st x.counts m
  pub plans : ArePlansOf x.machine.core.numbers m
  pub saved : IsSavedRight st a (part_of_steps x.machine)
  pub once : IsSavedOnce x.machine.kept
  pub reports : AreToldReports x.reports.messages m.out

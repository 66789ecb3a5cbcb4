-- A machine's part together with what it keeps for snapshots.
pub use Rattle.cluster_laws.specs.cluster_core.Messages.{Section}
pub use Rattle.cluster_laws.specs.cluster_core.Parts.{Part}
pub use Rattle.machine_core.specs.machine_parts.Parts.{part_of}
pub use Rattle.coordinator.specs.snap_update.Snaps.{SnapView}
use Rattle.coordinator.specs.snap_update.Holding.{last_of_edge, last_of_vertex}

-- the numbers that were saved
abbrev pub saved_in : SnapView → Section
saved_in w = record { vertices = last_of_vertex w.vertices; edges = last_of_edge w.edges }

-- the part, where this is kept for snapshots
abbrev pub with_snaps : SnapView → Part → Part
with_snaps w part = record part { known = w.known; saved = saved_in w; sent = w.sent }

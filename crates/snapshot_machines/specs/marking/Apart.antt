-- The effects that don't depend on what a machine keeps for snapshots.
pub use Rattle.cluster_laws.specs.cluster_core.Effects.{admitted, applied, begins, granted, learns, received, updated}
pub use Rattle.cluster_laws.specs.cluster_core.Messages.{Ask, News, Ready}
pub use Rattle.cluster_laws.specs.cluster_core.Settings.{Setting}
pub use Rattle.snapshot_machines.specs.marking.Keeping.{Part, SnapView, with_snaps}

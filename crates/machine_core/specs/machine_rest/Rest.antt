-- What the clauses on a machine at rest cite.
pub use Rattle.cluster_laws.specs.cluster_core.Settings.{Setting}
pub use Rattle.cluster_laws.specs.cluster_model.Machines.{is_idle}
pub use Rattle.cluster_laws.specs.cluster_model.Totals.{total}
pub use Rattle.machine_core.specs.machine_parts.Order.{IsOrderly, KnowsPlaces}
pub use Rattle.machine_core.specs.machine_parts.Parts.{part_of}
pub use Rattle.machine_core.specs.machine_parts.Settings.{IsPartOf}

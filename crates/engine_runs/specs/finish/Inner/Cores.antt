-- The parts of a machine of either engine.
pub use Rattle.placed_machines.specs.declared.any_machine.machines.AnyMachine.{AnyMachine}
pub use Rattle.placed_machines.specs.declared.any_machine.machines.AnyMachine.TheVariants.{Chromatic, Locking}
pub use Rattle.machine_core.specs.machine_parts.Order.{IsOrderly, KnowsPlaces}
pub use Rattle.machine_core.specs.declared.machine_parts.cores.Core.{Core}

-- what it holds of the graph
abbrev pub core_held : {P : Type 0} → AnyMachine P → Core
core_held (Locking x) = x.machine.core
core_held (Chromatic x) = x.machine.core

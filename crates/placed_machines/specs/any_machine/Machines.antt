-- A machine of either engine, and the machines of the law that it is.
pub use Rattle.placed_machines.specs.chromatic.Machines.{ChromaticMachineView, IsChromaticMachineOf}
pub use Rattle.placed_machines.specs.declared.any_machine.machines.AnyMachine.{AnyMachine}
pub use Rattle.placed_machines.specs.declared.any_machine.machines.AnyMachine.TheVariants.{Chromatic, Locking}
pub use Rattle.coordinator.specs.machine_api.Promises.{Machine, Setting}
pub use Rattle.snapshot_machines.specs.locking.Machines.{IsLockingMachineOf, LockingMachineView}
use Rattle.std.specs.Prelude.{ℕ}
use Rattle.update_api.specs.Updates.{Update}

-- Of a cluster with this setting it is machine a, where programs mean this, and has what m has: as a machine with locks is, or as one that goes
-- by colours.
abbrev pub IsAnyMachineOf : {P : Type 0} → (P → Update) → Setting → ℕ → Machine → AnyMachine P → Type 0
IsAnyMachineOf meaning st a m (Locking x) = IsLockingMachineOf meaning st a m x
IsAnyMachineOf meaning st a m (Chromatic x) = IsChromaticMachineOf meaning st a m x

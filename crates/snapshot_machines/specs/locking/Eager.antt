-- The vertex that was found for an update at once.
use Rattle.std.specs.Prelude.{◌≡◌}
use Rattle.gl_base.specs.declared.numbers.Vertex.{Vertex}
use Rattle.machine_core.specs.declared.machine_at_once.finding.Found.{Found}
use Rattle.machine_core.specs.machine_at_once.Inner.Finding.{IsFoundPick}
use Rattle.snapshot_machines.specs.locking.Machines.{LockingMachineView}

-- the tasks pick v, which may be updated at once
abbrev pub FindsPick : {P : Type 0} → LockingMachineView P → Vertex → Type 0
FindsPick x v = (f : Found) × (f.vertex ≡ v) × IsFoundPick x.machine.core f

-- The vertex that was found in a step for an update at once.
use Rattle.std.specs.Prelude.{◌≡◌}
use Rattle.gl_base.specs.declared.numbers.Vertex.{Vertex}
use Rattle.machine_core.specs.declared.machine_at_once.finding.Found.{Found}
use Rattle.snapshot_machines.specs.chromatic.Inner.Picking.{IsFoundInStep}
use Rattle.snapshot_machines.specs.chromatic.Machines.{ColorSnapView}

-- v would be admitted next, and may be updated at once
abbrev pub FindsInStep : {P : Type 0} → ColorSnapView P → Vertex → Type 0
FindsInStep x v = (f : Found) × (f.vertex ≡ v) × IsFoundInStep x f

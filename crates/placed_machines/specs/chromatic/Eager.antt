-- The vertex that was found for an update at once.
use Rattle.gl_base.specs.declared.numbers.Vertex.{Vertex}
use Rattle.snapshot_machines.specs.chromatic.Eager.{FindsInStep}
use Rattle.placed_machines.specs.chromatic.Machines.{ChromaticMachineView}

-- v would be admitted next, and may be updated at once
abbrev pub FindsByColour : {P : Type 0} → ChromaticMachineView P → Vertex → Type 0
FindsByColour x v = FindsInStep x.machine v

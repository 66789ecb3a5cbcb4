-- The vertex that was found for an update at once, by the engine.
use Rattle.gl_base.specs.declared.numbers.Vertex.{Vertex}
use Rattle.snapshot_machines.specs.locking.Eager.{FindsPick}
use Rattle.placed_machines.specs.any_machine.Machines.{AnyMachine, Chromatic, Locking}
use Rattle.placed_machines.specs.chromatic.Eager.{FindsByColour}

-- v may be updated at once
abbrev pub FindsAny : {P : Type 0} → AnyMachine P → Vertex → Type 0
FindsAny (Locking x) v = FindsPick x v
FindsAny (Chromatic x) v = FindsByColour x v

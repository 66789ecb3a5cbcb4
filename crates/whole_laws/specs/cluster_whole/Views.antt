-- What the laws of the core see of a cluster: its machines' parts, its links, its tickets and its snapshots.
use Rattle.std.specs.Prelude.{None, Option, Some, ℕ, ◌≡◌, ◌⊎◌}
use Rattle.cluster_laws.specs.cluster_core.Actions.{Action, IsActionStep}
use Rattle.cluster_laws.specs.cluster_core.Messages.{Section}
use Rattle.cluster_laws.specs.cluster_core.Parts.{Part}
use Rattle.cluster_laws.specs.cluster_core.Settings.{Setting}
use Rattle.cluster_laws.specs.cluster_core.Worlds.{World, with_part}
use Rattle.cluster_laws.specs.cluster_model.Calls.{begins_in, sections_in}
use Rattle.cluster_laws.specs.cluster_model.Clusters.{Cluster, call_way, report_way}
use Rattle.cluster_laws.specs.cluster_model.Leading.{Come}

-- the numbers of a section that has come
abbrev pub section_of : Option Come → Option Section
section_of None = None
section_of (Some come) = Some come.section

-- the core of a cluster
abbrev pub world_of : Cluster → World
world_of c =
    record {
      part = λ a. (c.machine a).part;
      link = c.link;
      next = c.next;
      left = c.left;
      begun = c.coordinator.begun;
      acknowledged = c.coordinator.acknowledged;
      orders = λ a. begins_in (call_way c a);
      reports = λ a. sections_in (report_way c a);
      collected = λ a. section_of (c.coordinator.come a);
    }

-- the part is the same but for its colour, and whether it is closed
abbrev pub IsTurned : Part → Part → Type 0
IsTurned old new = new ≡ record old { colour = new.colour; closed = new.closed }

-- an action of the core happens, or none
abbrev pub MayAct : Setting → World → World → Type 0
MayAct st old new = (new ≡ old) ⊎ ((action : Action) × IsActionStep st old action new)

-- a machine is told of a step or admits nothing more in it, or none is
abbrev pub MayTurn : World → World → Type 0
MayTurn old new = (new ≡ old) ⊎ ((a : ℕ) × (part : Part) × IsTurned (old.part a) part × (new ≡ with_part old a part))

-- an action at most, and a turn at most behind it
abbrev pub IsMove : Setting → World → World → Type 0
IsMove st old new = (mid : World) × MayAct st old mid × MayTurn mid new

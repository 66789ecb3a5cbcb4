-- What a machine hears of snapshots.
pub use Rattle.cluster_laws.specs.cluster_core.Effects.{begins}
use Rattle.std.specs.Prelude.{◌≡◌, ◌≤◌, ℕ}
use Rattle.machine_core.specs.declared.machine_parts.cores.Core.{Core}
use Rattle.machine_core.specs.machine_parts.Settings.{Setting, IsPartOf}
use Rattle.snapshot_machines.specs.marking.Keeping.{SnapView, part_of, with_snaps}

-- snapshot k has begun at the machine, for each setting of which it is a part
abbrev pub HasBegun : Core → SnapView → Core → SnapView → ℕ → Type 0
HasBegun old kept new kept_now k =
    (st : Setting) → IsPartOf st old → with_snaps kept_now (part_of new) ≡ begins st old.numbers.local.me.0 k (with_snaps kept (part_of old))

-- no more updates are outside than were, and nothing else has changed
pub record HasFewerOutside (old new : Core) : Type 0 where
  pub fewer : new.numbers.tasks.outside ≤ old.numbers.tasks.outside
  pub rest : new ≡ record old { numbers = record old.numbers { tasks = record old.numbers.tasks { outside = new.numbers.tasks.outside } } }

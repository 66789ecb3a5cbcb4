-- Which own vertices have the mark of a snapshot.
use Rattle.std.specs.Prelude.{◌≡◌, ℕ, ◌<◌, ◌≤◌, true, false, Some, slice_get}
use Rattle.gl_base.specs.declared.numbers.Vertex.{Vertex}
use Rattle.cluster_laws.specs.cluster_core.Effects.{part_seeded}
use Rattle.partition.specs.declared.machine_numbers.keeping.Numbers.{Numbers}
use Rattle.partition.specs.machine_numbers.Views.{datum_here, is_own}
use Rattle.machine_core.specs.declared.machine_parts.cores.Core.{Core}
use Rattle.machine_core.specs.machine_parts.Settings.{Setting, IsPartOf}
use Rattle.snapshot_machines.specs.marking.Keeping.{SnapView, part_of, with_snaps}

-- the own vertices before this place, ascending, have the mark of snapshot k
abbrev pub AreMarkedBelow : Numbers → ℕ → ℕ → Type 0
AreMarkedBelow n k place = (i : ℕ) (v : Vertex) → i < place → slice_get n.local.owned i ≡ Some v → is_own n.local v.0 ≡ true → k ≤ (datum_here n v.0).mark

-- the one at this place has not
abbrev pub IsFirstUnmarked : Numbers → ℕ → ℕ → Type 0
IsFirstUnmarked n k place = (v : Vertex) → slice_get n.local.owned place ≡ Some v → (datum_here n v.0).mark < k

-- the first unmarked vertex is pending where none was, whatever else is kept for snapshots
abbrev pub HasSeeded : Core → Core → ℕ → Type 0
HasSeeded old new k =
    (st : Setting) (w : SnapView) → IsPartOf st old → w.known ≡ k →
    with_snaps w (part_of new) ≡ part_seeded st old.numbers.local.me.0 (with_snaps w (part_of old))

-- of the machine the pending vertices alone have changed
abbrev pub HasOtherPending : Core → Core → Type 0
HasOtherPending old new =
    new ≡ record old { numbers = record old.numbers { tasks = record old.numbers.tasks { pending = new.numbers.tasks.pending; asked = new.numbers.tasks.asked } } }

-- no own vertex stands at this place
abbrev pub IsPastLast : Numbers → ℕ → Type 0
IsPastLast n place = (v : Vertex) → slice_get n.local.owned place ≡ Some v → is_own n.local v.0 ≡ false

-- an own vertex has no mark of snapshot k
pub record HasUnmarked (n : Numbers) (k : ℕ) : Type 0 where
  pub vertex : Vertex
  pub own : is_own n.local vertex.0 ≡ true
  pub left : (datum_here n vertex.0).mark < k

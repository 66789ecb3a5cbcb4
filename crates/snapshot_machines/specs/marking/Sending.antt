-- When a machine sends what it saved for a snapshot.
pub use Rattle.cluster_laws.specs.cluster_core.Actions.{MaySend}
use Rattle.std.specs.Prelude.{◌≡◌, ℕ, ◌≤◌, true}
use Rattle.partition.specs.declared.machine_numbers.keeping.Numbers.{Numbers}
use Rattle.partition.specs.machine_numbers.Views.{datum_here, is_own}
use Rattle.machine_core.specs.declared.machine_parts.cores.Core.{Core}
use Rattle.machine_core.specs.machine_parts.Settings.{Setting, IsPartOf}
use Rattle.snapshot_machines.specs.marking.Keeping.{SnapView, part_of, with_snaps}

-- no own vertex has the mark of a later snapshot than k
abbrev pub AreMarksUpTo : Numbers → ℕ → Type 0
AreMarksUpTo n k = (v : ℕ) → is_own n.local v ≡ true → (datum_here n v).mark ≤ k

-- for each setting of which the machine is a part it may send its section
abbrev pub MaySendSection : Core → SnapView → Type 0
MaySendSection m w = (st : Setting) → IsPartOf st m → MaySend st m.numbers.local.me.0 (with_snaps w (part_of m))

-- for none of them
abbrev pub MayNotSendSection : Core → SnapView → Type 0
MayNotSendSection m w = (st : Setting) → IsPartOf st m → MaySend st m.numbers.local.me.0 (with_snaps w (part_of m)) → ⊥

-- How an update is kept for snapshots, and what the update of a vertex that was found leaves.
pub use Rattle.machine_core.specs.machine_at_once.Inner.Finding.{WaitsAt}
pub use Rattle.machine_core.specs.machine_at_once.Picks.{HasRunAtOnce, at_once, entry_at_once}
use Rattle.std.specs.Prelude.{◌≡◌, ℕ, Some}
use Rattle.gl_base.specs.declared.entries.Entry.TheVariants.{Go}
use Rattle.gl_base.specs.declared.numbers.Vertex.{Vertex}
use Rattle.gl_base.specs.declared.scopes.ScopeId.{ScopeId}
use Rattle.partition.specs.machine_numbers.Views.{datum_here}
use Rattle.machine_core.specs.declared.machine_parts.cores.Core.{Core}
use Rattle.machine_core.specs.machine_parts.Parts.{flight_at, part_of}
use Rattle.machine_core.specs.machine_parts.Settings.{IsPartOf, Setting}
use Rattle.machine_core.specs.machine_turns.Turns.{IsSetting}
use Rattle.coordinator.specs.snap_update.Snaps.{IsSameButRoom, with_entry}
use Rattle.update_api.specs.Updates.{Update}
use Rattle.snapshot_machines.specs.saving.Machines.{SnapView}

-- the update of the scope's vertex is kept by the mark that the vertex had
abbrev pub HasLogged : Core → SnapView → SnapView → ScopeId → ℕ → Type 0
HasLogged m w now s ticket =
    (v : Vertex) → flight_at m.pipe s ≡ Some v → IsSameButRoom (with_entry (Go s.home v ticket) (datum_here m.numbers v.0).mark w) now

-- the update of v at once is kept by the mark that it had
abbrev pub HasLoggedAtOnce : Core → SnapView → SnapView → Vertex → ℕ → Type 0
HasLoggedAtOnce m w now v ticket = IsSameButRoom (with_entry (Go m.numbers.local.me v ticket) (datum_here m.numbers v.0).mark w) now

-- For each setting of which the machine is a part, and whose program is this one, the part is what the law makes of it: v was updated at
-- once, and the update is logged under this ticket.
abbrev pub HasUpdatedFound : Update → Core → Core → Vertex → ℕ → Type 0
HasUpdatedFound program old new v ticket =
    (st : Setting) → IsSetting st → IsPartOf st old → st.program ≡ program →
    part_of new ≡ at_once st old.numbers.local.me.0 v.0 (entry_at_once old.numbers.local.me.0 v.0 ticket) (part_of old)

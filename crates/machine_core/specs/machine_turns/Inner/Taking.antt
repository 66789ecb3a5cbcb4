-- A work that is taken for one update.
pub use Rattle.machine_core.specs.machine_updates.Works.{CanBeTaken, HasItsRow}
pub use Rattle.machine_core.specs.machine_updates.Reserving.{IsReserved}
use Rattle.std.specs.Prelude.{◌≡◌, ℕ, Some}
use Rattle.gl_base.specs.declared.entries.Entry.TheVariants.{Go}
use Rattle.gl_base.specs.declared.numbers.Vertex.{Vertex}
use Rattle.local_graph.specs.declared.works.Work.{Work}
use Rattle.update_api.specs.Updates.{Update}
use Rattle.machine_core.specs.declared.machine_parts.cores.Core.{Core}
use Rattle.machine_core.specs.machine_turns.Turns.{HasRun, Setting, IsSetting, IsPartOf, part_of, place_at, updated}

-- the update of the work is made, for each setting whose program is this one and whose row the work has
abbrev pub HasCompleted : Update → Core → Core → Work → ℕ → Type 0
HasCompleted program old new w ticket =
    (st : Setting) → IsSetting st → IsPartOf st old → HasItsRow st old w → st.program ≡ program →
    part_of new ≡ updated st old.numbers.local.me.0 w.scope w.vertex.0 (Go w.scope.home w.vertex ticket) (part_of old)

-- the vertex is not admitted any more, and one update more is outside
abbrev pub HasRunAt : Core → Core → Vertex → Type 0
HasRunAt old new v = (place : ℕ) → place_at old.numbers.local v.0 ≡ Some place → HasRun old.numbers.tasks new.numbers.tasks place

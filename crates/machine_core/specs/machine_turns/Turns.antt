-- What the update of a scope asks of a machine, and what it leaves.
pub use Rattle.cluster_laws.specs.cluster_core.Actions.{MayUpdate}
pub use Rattle.cluster_laws.specs.cluster_core.Effects.{updated}
pub use Rattle.cluster_laws.specs.cluster_core.Settings.{IsSetting}
pub use Rattle.partition.specs.local_parts.Parts.{IsLocalOf, AreIn}
pub use Rattle.partition.specs.machine_numbers.Steps.{HasRun}
pub use Rattle.machine_core.specs.machine_parts.Order.{IsOrderly, KnowsPlaces}
pub use Rattle.machine_core.specs.machine_parts.Parts.{LocalView, part_of, datum_here, flight_at, place_at, is_ready, is_own, links_at, sides_at, task_here, pending_here}
pub use Rattle.machine_core.specs.machine_parts.Rooms.{HasOnlyMadeRoom}
pub use Rattle.machine_core.specs.machine_parts.Settings.{Setting, IsPartOf, SameSettings}
pub use Rattle.machine_core.specs.machine_updates.Works.{IsOut}
use Rattle.std.specs.Prelude.{◌≡◌, ℕ, true, Option, Some, None, List, length}
use Rattle.gl_base.specs.declared.entries.Entry.TheVariants.{Go}
use Rattle.gl_base.specs.declared.numbers.Vertex.{Vertex}
use Rattle.gl_base.specs.declared.scopes.ScopeId.{ScopeId}
use Rattle.local_graph.specs.Works.{IsRow}
use Rattle.update_api.specs.Updates.{Update}
use Rattle.update_api.specs.declared.links.Link.{Link}
use Rattle.machine_core.specs.declared.machine_parts.cores.Core.{Core}

-- ---- rows

-- the row is in, with so many links, each at its own place
abbrev pub IsRowIn : Option (List Link) → ℕ → Type 0
IsRowIn None many = ⊥
IsRowIn (Some links) many = IsRow links many

-- the row of each own vertex is in, with a link for each side
abbrev pub HasEachRow : LocalView → Type 0
HasEachRow l = (v : ℕ) → is_own l v ≡ true → IsRowIn (links_at l v) (length (sides_at l v))

-- ---- the update

-- The scope might make its update. For each setting of which the machine is a part, and whose program is this one, the part is what
-- the law makes of it: the update is logged under this ticket.
pub record HasMadeUpdate (program : Update) (old new : Core) (s : ScopeId) (ticket : ℕ) : Type 0 where
  pub may : MayUpdate s (part_of old) 1
  pub home : s.home ≡ old.numbers.local.me
  pub after : (st : Setting) → IsSetting st → IsPartOf st old → st.program ≡ program →
      part_of new ≡ updated st s.home.0 s may.vertex (Go s.home (record { 0 = may.vertex }) ticket) (part_of old)

-- The vertex of the scope is not admitted any more, and one update more is outside the last acknowledged snapshot.
abbrev pub HasRunOf : Core → Core → ScopeId → Type 0
HasRunOf old new s =
    (v : Vertex) (place : ℕ) → flight_at old.pipe s ≡ Some v → place_at old.numbers.local v.0 ≡ Some place → HasRun old.numbers.tasks new.numbers.tasks place

-- The part is as before. But for how rows and the numbers of edges are kept, only room has changed.
pub record IsAsBefore (old new : Core) : Type 0 where
  pub part : part_of new ≡ part_of old
  pub local : new.numbers.local ≡ record old.numbers.local { rows = new.numbers.local.rows; numbers = new.numbers.local.numbers }
  pub room : HasOnlyMadeRoom (record old { numbers = record old.numbers { local = new.numbers.local } }) new

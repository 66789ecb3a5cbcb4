-- An update that is made on a machine's own numbers.
pub use Rattle.partition.specs.machine_numbers.Steps.{HasUpdated, IsSideHere, MadeUpdate, made_of, run_of}
pub use Rattle.partition.specs.machine_numbers.Settings.{IsOutcomeOf, IsLocalOf}
pub use Rattle.partition.specs.machine_numbers.Views.{AreTasksOf, datum_here, edge_here}
pub use Rattle.machine_core.specs.machine_parts.Parts.{row_at, sides_at}
use Rattle.std.specs.Prelude.{◌≡◌, ℕ, ◌<◌, ◌≤◌, length, vec_len, vec_capacity}
use Rattle.std.specs.List.{All}
use Rattle.gl_base.specs.declared.entries.Entry.{Entry}
use Rattle.gl_base.specs.declared.numbers.Vertex.{Vertex}
use Rattle.local_graph.specs.declared.works.Outcome.{Outcome}
use Rattle.update_api.specs.Updates.{Update}
use Rattle.partition.specs.declared.machine_numbers.keeping.Numbers.{Numbers}
use Rattle.machine_core.specs.machine_at_once.Picks.{HasRunAtOnce, LocalView, Setting, is_own, links_at}
use Rattle.machine_core.specs.machine_at_once.Inner.Finding.{WaitsAt}

-- what the numbers of a machine in order say of v
pub record CanBeMade (n : Numbers) (v : Vertex) : Type 0 where
  pub sides : All (IsSideHere n.local) (sides_at n.local v.0)
  pub tasks : AreTasksOf n.local n.tasks
  pub outside : n.tasks.outside ≤ length n.log.items

-- the same, with an outcome of v, room in the log and for a version more
pub record CanBeKept (n : Numbers) (o : Outcome) (place : Vertex) : Type 0 where
  pub waits : WaitsAt n place o.work.vertex
  pub can : CanBeMade n o.work.vertex
  pub row : o.work.row.links.items ≡ row_at n.local o.work.vertex.0
  pub links : length o.work.row.links.items ≡ length (sides_at n.local o.work.vertex.0)
  pub edges : length o.edges.items ≡ length (sides_at n.local o.work.vertex.0)
  pub room : vec_len n.log < vec_capacity n.log
  pub few : length n.log.items < 4294967295
  pub version : (datum_here n o.work.vertex.0).version < 4294967295

-- data, rows and the numbers of edges alone may have changed, and each row is as it was
pub record KeepsGraph (old new : LocalView) : Type 0 where
  pub own : (x : ℕ) → is_own new x ≡ is_own old x
  pub links : (x : ℕ) → links_at new x ≡ links_at old x
  pub many : length new.numbers ≡ length old.numbers
  pub rest : new ≡ record old { kept = new.kept; rows = new.rows; numbers = new.numbers }

-- of the tasks those that an update wakes and ends have changed, and one update more is outside
pub record HasRunOne (old new : Numbers) : Type 0 where
  pub tasks : AreTasksOf new.local new.tasks
  pub many : length new.tasks.task ≡ length old.tasks.task
  pub once : HasRunAtOnce old.tasks new.tasks

-- the update of v is kept: it is what the program makes of the numbers as they stood
pub record HasMadeHere (program : Update) (old new : Numbers) (v : Vertex) (entry : Entry) : Type 0 where
  pub made : MadeUpdate
  pub vertex : made.vertex ≡ v
  pub updated : HasUpdated old new made entry
  pub is : (st : Setting) → IsLocalOf st old.local → st.program ≡ program → IsOutcomeOf st old made
  pub graph : KeepsGraph old.local new.local
  pub ghosts : new.ghosts ≡ old.ghosts
  pub run : HasRunOne old new

-- no number has changed
pub record HasSameNumbers (old new : Numbers) : Type 0 where
  pub edge : (e : ℕ) → edge_here new e ≡ edge_here old e
  pub graph : KeepsGraph old.local new.local
  pub log : new.log.items ≡ old.log.items
  pub rest : new ≡ record old { local = record old.local { rows = new.local.rows; numbers = new.local.numbers }; log = new.log }

-- The same in a cluster, for a setting.
pub use Rattle.cluster_laws.specs.cluster_core.Effects.{applied, updated, news_for}
pub use Rattle.cluster_laws.specs.cluster_core.Parts.{Part}
pub use Rattle.partition.specs.local_parts.Parts.{Setting, IsLocalOf, IsRowOf, ShareEdges}
use Rattle.std.specs.Prelude.{◌≡◌, ℕ, List, [], ◌∷◌, ◌++◌}
use Rattle.std.specs.List.{All}
use Rattle.graph_core.specs.Halves.{halves_of}
use Rattle.local_graph.specs.declared.works.Outcome.{Outcome}
use Rattle.update_api.specs.Links.{nears_at}
use Rattle.update_api.specs.Marks.{AreMarked}
use Rattle.update_api.specs.Updates.{Update}
use Rattle.partition.specs.declared.machine_numbers.keeping.Numbers.{Numbers}
use Rattle.partition.specs.machine_numbers.Steps.{MadeUpdate}
use Rattle.partition.specs.machine_numbers.Views.{sides_at, numbers_along, datum_here, value_here, task_here, edge_here, near_along}

-- the part with these numbers, tasks and log
abbrev pub with_numbers : Numbers → Part → Part
with_numbers n part = record part { datum = datum_here n; edge = edge_here n; task = task_here n; log = n.log.items }

-- what a program is lent for an update of v: the numbers near v, and its own behind them
abbrev pub lent_along : Numbers → ℕ → List ℕ
lent_along n v = near_along (value_here n) (sides_at n.local v) ++ value_here n v ∷ []

-- The update is what the setting's program makes of the numbers as they stand here, and its links are those of its vertex in
-- the graph.
pub record IsOutcomeOf (st : Setting) (n : Numbers) (o : MadeUpdate) : Type 0 where
  pub row : IsRowOf st o.vertex.0 (sides_at n.local o.vertex.0) o.links
  pub owners : All (λ s. s.owner.0 ≡ st.owner s.other.0) (sides_at n.local o.vertex.0)
  pub numbers : o.numbers ≡ numbers_along (edge_here n) (sides_at n.local o.vertex.0)
  pub value : o.value ≡ st.program.number (value_here n o.vertex.0) (nears_at (lent_along n o.vertex.0) o.numbers o.links)
  pub marks : AreMarked (st.program.mark o.value) (lent_along n o.vertex.0) o.numbers o.links o.edges
  pub woken : o.woken ≡ st.program.woken (value_here n o.vertex.0) o.value

-- each edge at v is shared with the owner of its other end alone
abbrev pub EdgesShared : Setting → ℕ → Type 0
EdgesShared st v = ShareEdges st v (halves_of st.graph v)

-- the outcome is what the program makes of the numbers that its work holds
pub record IsMadeOfWork (p : Update) (o : Outcome) : Type 0 where
  pub value : o.value ≡ p.number o.work.value (nears_at (o.work.near.items ++ o.work.value ∷ []) o.work.row.numbers.items o.work.row.links.items)
  pub marks : AreMarked (p.mark o.value) (o.work.near.items ++ o.work.value ∷ []) o.work.row.numbers.items o.work.row.links.items o.edges.items
  pub woken : o.woken ≡ p.woken o.work.value o.value

-- A cluster as a whole.
use Rattle.std.specs.Prelude.{List}
use Rattle.gl_base.specs.declared.entries.Entry.{Entry}
use Rattle.gl_base.specs.declared.scopes.ScopeId.{ScopeId}
use Rattle.cluster_laws.specs.cluster_core.Copies.{AreCopies}
use Rattle.cluster_laws.specs.cluster_core.Places.{ArePlaces}
use Rattle.cluster_laws.specs.cluster_core.Replays.{IsReplay}
use Rattle.cluster_laws.specs.cluster_core.Settings.{Setting}
use Rattle.cluster_laws.specs.cluster_core.Stages.{Stage}
use Rattle.cluster_laws.specs.cluster_core.Worlds.{World}

-- Each scope is in a place of its own, the copies are true, and the numbers are those of an order.
pub record IsCoherent (st : Setting) (w : World) : Type 0 where
  pub stage : ScopeId → Stage
  pub order : List Entry
  pub places : ArePlaces st w stage
  pub copies : AreCopies st w
  pub replay : IsReplay st w order

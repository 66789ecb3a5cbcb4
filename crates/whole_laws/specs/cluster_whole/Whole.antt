-- A cluster as a whole, with locks and with colours.
use Rattle.std.specs.Prelude.{List, [], ⊤, ◌∷◌, ◌≡◌}
use Rattle.gl_base.specs.declared.scopes.ScopeId.{ScopeId}
use Rattle.cluster_laws.specs.cluster_core.Places.{ArePlaces}
use Rattle.cluster_laws.specs.cluster_core.Settings.{Chromatic, Engine, Locking, Setting}
use Rattle.cluster_laws.specs.cluster_core.Snapshots.{IsConsistent}
use Rattle.cluster_laws.specs.cluster_core.Stages.{Stage}
use Rattle.cluster_laws.specs.cluster_model.Clusters.{BaseView, Cluster}
use Rattle.cluster_laws.specs.cluster_model.Events.{Event, Recover, setting_after}
use Rattle.cluster_laws.specs.cluster_places.Steps.{AreApart}
use Rattle.whole_laws.specs.cluster_whole.Steps.{AreInTurn}
use Rattle.whole_laws.specs.cluster_whole.Views.{world_of}
use Rattle.whole_laws.specs.cluster_whole.Windows.{AreWithin}

-- How neighbours are kept from running at once: each scope is in one place and holds the locks of that place alone; or neighbours have
-- different colours, and all machines are in the step of one colour.
abbrev pub AreKeptApart : Engine → Setting → Cluster → Type 0
AreKeptApart Locking st c = (stage : ScopeId → Stage) × ArePlaces st (world_of c) stage
AreKeptApart (Chromatic colour colours) st c = AreApart st colour × AreInTurn st colour c.coordinator.rounds c

-- with colours neighbours have different ones
abbrev pub AreColoured : Setting → Engine → Type 0
AreColoured st Locking = ⊤
AreColoured st (Chromatic colour colours) = AreApart st colour

-- Each machine counts its scopes right and keeps its window, neighbours are kept apart, and copies, numbers, marks and the newest
-- snapshot are those of an order.
pub record IsWhole (st : Setting) (c : Cluster) : Type 0 where
  pub within : AreWithin st c
  pub apart : AreKeptApart st.engine st c
  pub consistent : IsConsistent st (world_of c)

-- the setting behind these events
abbrev pub setting_behind : Setting → List Event → Setting
setting_behind st [] = st
setting_behind st (event ∷ events) = setting_behind (setting_after st event) events

-- the event begins no attempt
abbrev pub IsNoRecovery : Event → Type 0
IsNoRecovery event = (base : BaseView) → event ≡ Recover base → ⊥

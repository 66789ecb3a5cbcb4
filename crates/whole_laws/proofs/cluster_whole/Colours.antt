-- What is kept of a whole cluster whose vertices run by colours.
use Rattle.std.proofs.Common.{◌≡◌, ℕ, subst}
use Rattle.cluster_laws.specs.cluster_core.Settings.{Chromatic, Engine, Locking, Setting}
use Rattle.cluster_laws.specs.cluster_core.Places.{ArePlaces}
use Rattle.cluster_laws.specs.cluster_core.Stages.{Stage}
use Rattle.gl_base.specs.declared.scopes.ScopeId.{ScopeId}
use Rattle.cluster_laws.specs.cluster_model.Clusters.{Cluster}
use Rattle.whole_laws.specs.cluster_whole.Steps.{AreInTurn}
use Rattle.whole_laws.specs.cluster_whole.Views.{world_of}
use Rattle.whole_laws.specs.cluster_whole.Whole.{AreKeptApart, IsWhole}

pub in_turn : (st : Setting) (colour : ℕ → ℕ) (colours : ℕ) (c : Cluster) → IsWhole st c → st.engine ≡ Chromatic colour colours → AreInTurn st colour c.coordinator.rounds c
in_turn st colour colours c whole chromatic = (subst (λ (engine : Engine). AreKeptApart engine st c) chromatic whole.apart).1

pub in_places : (st : Setting) (c : Cluster) → IsWhole st c → st.engine ≡ Locking → (stage : ScopeId → Stage) × ArePlaces st (world_of c) stage
in_places st c whole locks = subst (λ (engine : Engine). AreKeptApart engine st c) locks whole.apart

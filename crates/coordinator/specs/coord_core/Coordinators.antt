-- What the coordinator holds, and whose part it is in a cluster.
pub use Rattle.wire.specs.outboxes.Outboxes.{OutboxView, OutboxesView, MessageView, no_outbox, message_view}
pub use Rattle.cluster_laws.specs.cluster_core.Settings.{Setting, Locking}
pub use Rattle.cluster_laws.specs.cluster_model.Calls.{Call, Report}
pub use Rattle.cluster_laws.specs.cluster_model.Clusters.{Cluster}
pub use Rattle.cluster_laws.specs.cluster_model.Counting.{Counting, MayBeCounted, count_answer, count_wave, first_counting}
pub use Rattle.cluster_laws.specs.cluster_model.Leading.{Come, Coordinator, HasSeenTheEnd, acknowledges, begins_snapshot, entries_in, first_coordinator, hands_call, puts_step, puts_wave, takes_report}
pub use Rattle.coordinator.specs.coord_core.Saving.{SavingView, StoreView, come_at}
pub use Rattle.coordinator.specs.coord_core.Steps.{AreStepsOf, IsEngineOf, StepsView}
use Rattle.std.specs.Prelude.{◌≡◌, ℕ, ◌<◌, ◌↔◌, true, false, Option, None, Some, List, [], ◌∷◌, length, slice_index_or, ⊤}
use Rattle.cluster_laws.specs.cluster_model.Calls.{Begin, Committed, Wave, Step}
use Rattle.graph_core.specs.DataGraph.{size}
use Rattle.coordinator.specs.snap_update.Holding.{AreSavedIn}
use Rattle.wire.specs.wire_msgs.Views.{SectionView}
use Rattle.wire.specs.wire_msgs.Views as wire

-- What it has counted, what it knows of steps and of snapshots, and what waits to be sent.
pub record CoordinatorView : Type 0 where
  pub counting : Counting
  pub steps : StepsView
  pub saving : SavingView
  pub out : OutboxesView

-- what waits for machine a, the first first
abbrev pub waiting_at : OutboxesView → ℕ → List MessageView
waiting_at out a = (slice_index_or out.machines a no_outbox).messages

-- the message is this call
abbrev pub TellsCall : MessageView → Call → Type 0
TellsCall (wire.Begin k) (Begin j) = k ≡ j
TellsCall (wire.Committed k) (Committed j) = k ≡ j
TellsCall (wire.Wave k) (Wave j) = k ≡ j
TellsCall (wire.Step k) (Step j) = k ≡ j
TellsCall _ _ = ⊥

-- the messages are these calls, one by one
abbrev pub AreCalls : List MessageView → List Call → Type 0
AreCalls [] [] = ⊤
AreCalls [] (call ∷ calls) = ⊥
AreCalls (m ∷ messages) [] = ⊥
AreCalls (m ∷ messages) (call ∷ calls) = TellsCall m call × AreCalls messages calls

-- ---- snapshots

-- the section has come as this
pub record IsComeAs (section : SectionView) (come : Come) : Type 0 where
  pub saved : AreSavedIn come.section section.vertices section.edges
  pub entries : come.entries ≡ section.entries

abbrev pub IsComeOf : Option SectionView → Option Come → Type 0
IsComeOf None come = come ≡ None
IsComeOf (Some section) None = ⊥
IsComeOf (Some section) (Some come) = IsComeAs section come

-- In a cluster that takes snapshots the coordinator knows this of them.
pub record IsSavingOf (st : Setting) (s : SavingView) (c : Coordinator) : Type 0 where
  pub vertices : size st.graph ≡ s.vertices
  pub edges : length st.graph.edges ≡ s.edges
  pub begun : c.begun ≡ s.begun
  pub acknowledged : c.acknowledged ≡ s.acknowledged
  pub machines : length s.come ≡ st.machines
  pub come : (a : ℕ) → a < st.machines → IsComeOf (come_at s.come a) (c.come a)
  pub wanted : c.wanted ≡ s.wanted
  pub entries : entries_in st c ≡ s.entries
  pub first : (c.snapshots ≡ []) ↔ (s.saved ≡ false)
  pub store_end : c.store_end ≡ s.store_end

-- In a cluster with this engine the coordinator has counted this, and these calls wait. By colours it knows this of its steps. Where
-- snapshots are taken it knows this of them, and where none are none is under way.
pub record IsCoordinatorOf (st : Setting) (view : CoordinatorView) (c : Coordinator) : Type 0 where
  pub machines : length view.out.machines ≡ st.machines
  pub engine : IsEngineOf view.steps.engine st.engine
  pub stored : st.stored ≡ view.saving.stored
  pub none : st.stored ≡ false → c.acknowledged ≡ c.begun
  pub saving : st.stored ≡ true → IsSavingOf st view.saving c
  pub counting : c.rounds.counting ≡ view.counting
  pub steps : AreStepsOf view.steps.engine view.steps c.rounds
  pub out : (a : ℕ) → a < st.machines → AreCalls (waiting_at view.out a) (c.out a)

-- there is such a cluster
abbrev pub HasCluster : CoordinatorView → Type 0
HasCluster view = (st : Setting) × (c : Cluster) × IsCoordinatorOf st view c.coordinator

-- What may happen in a cluster that takes snapshots, as events of the law.
use Rattle.std.specs.Prelude.{Bool, IsErrOf, List, None, OnErr, OnOk, Option, Result, Some, false, slice_index_or, ℕ, ⊤, ◌<◌, ◌≡◌}
use Rattle.gl_base.specs.declared.refusals.Refused.{Refused}
use Rattle.gl_base.specs.declared.refusals.Refused.TheVariants.{NoMemory, NotNow}
use Rattle.cluster_laws.specs.cluster_model.Events as law
use Rattle.coordinator.specs.coord_core.Calls.{IsReadyToRecord}
use Rattle.cluster_step.specs.clusters.Clusters.{Cluster, IsSavingClusterOf, Machine, InEachCluster, Parts, Setting, StandsForSameSaving}
use Rattle.cluster_step.specs.declared.clusters.events.Event.{Event}
use Rattle.cluster_step.specs.declared.clusters.events.Event.TheVariants as event
use Rattle.cluster_step.specs.declared.clusters.events.Lead.{Lead}
use Rattle.cluster_step.specs.declared.clusters.events.Lead.TheVariants as lead
use Rattle.cluster_step.specs.declared.clusters.events.Local.{Local}
use Rattle.cluster_step.specs.declared.clusters.events.Local.TheVariants as local
use Rattle.cluster_step.specs.declared.clusters.events.Passage.{Passage}
use Rattle.cluster_step.specs.declared.clusters.events.Passage.TheVariants as passage

-- which event of the law it is; which vertex is admitted is the machine's choice
abbrev pub IsLocalEvent : Local → law.Event → Type 0
IsLocalEvent (local.Admit a) e = (v : ℕ) × (e ≡ law.Admit a.0 v)
IsLocalEvent (local.Grant a x) e = e ≡ law.Grant a.0 x.0
IsLocalEvent (local.Update s) e = e ≡ law.Update s
IsLocalEvent (local.Mark s) e = e ≡ law.Mark s
IsLocalEvent (local.Section a) e = e ≡ law.Section a.0
IsLocalEvent (local.Fail a) e = e ≡ law.Fail a.0

abbrev pub IsLeadEvent : Lead → law.Event → Type 0
IsLeadEvent lead.Record e = e ≡ law.Record
IsLeadEvent lead.Begin e = e ≡ law.PutBegin
IsLeadEvent lead.Step e = e ≡ law.PutStep
IsLeadEvent lead.Wave e = e ≡ law.PutWave
IsLeadEvent lead.Stop e = e ≡ law.Stop

abbrev pub IsPassageEvent : Passage → law.Event → Type 0
IsPassageEvent (passage.Send p q) e = e ≡ law.Send p.0 q.0
IsPassageEvent (passage.Deliver p q) e = e ≡ law.Deliver p.0 q.0
IsPassageEvent (passage.SendCall a) e = e ≡ law.SendCall a.0
IsPassageEvent (passage.DeliverCall a) e = e ≡ law.DeliverCall a.0
IsPassageEvent (passage.SendReport a) e = e ≡ law.SendReport a.0
IsPassageEvent (passage.DeliverReport a) e = e ≡ law.DeliverReport a.0

abbrev pub IsNamedEvent : Event → law.Event → Type 0
IsNamedEvent (event.Local what) e = IsLocalEvent what e
IsNamedEvent (event.Lead what) e = IsLeadEvent what e
IsNamedEvent (event.Passage what) e = IsPassageEvent what e

-- the machines that it names are of a cluster of so many
abbrev pub NamesLocal : ℕ → Local → Type 0
NamesLocal n (local.Admit a) = a.0 < n
NamesLocal n (local.Grant a x) = a.0 < n
NamesLocal n (local.Update s) = s.home.0 < n
NamesLocal n (local.Mark s) = s.home.0 < n
NamesLocal n (local.Section a) = a.0 < n
NamesLocal n (local.Fail a) = a.0 < n

abbrev pub NamesPassage : ℕ → Passage → Type 0
NamesPassage n (passage.Send p q) = (p.0 < n) × (q.0 < n)
NamesPassage n (passage.Deliver p q) = (p.0 < n) × (q.0 < n)
NamesPassage n (passage.SendCall a) = a.0 < n
NamesPassage n (passage.DeliverCall a) = a.0 < n
NamesPassage n (passage.SendReport a) = a.0 < n
NamesPassage n (passage.DeliverReport a) = a.0 < n

abbrev pub NamesItsMachines : ℕ → Event → Type 0
NamesItsMachines n (event.Local what) = NamesLocal n what
NamesItsMachines n (event.Lead what) = ⊤
NamesItsMachines n (event.Passage what) = NamesPassage n what

-- it doesn't end the run
abbrev pub IsNoStop : Event → Type 0
IsNoStop (event.Lead lead.Stop) = ⊥
IsNoStop _ = ⊤

-- the machine that acts in it
abbrev pub acting_local : Local → ℕ
acting_local (local.Admit a) = a.0
acting_local (local.Grant a x) = a.0
acting_local (local.Update s) = s.home.0
acting_local (local.Mark s) = s.home.0
acting_local (local.Section a) = a.0
acting_local (local.Fail a) = a.0

-- and none where the coordinator does, or takes what comes
abbrev pub acting_passage : Passage → Option ℕ
acting_passage (passage.Send p q) = Some p.0
acting_passage (passage.Deliver p q) = Some q.0
acting_passage (passage.SendCall a) = None
acting_passage (passage.DeliverCall a) = Some a.0
acting_passage (passage.SendReport a) = Some a.0
acting_passage (passage.DeliverReport a) = None

abbrev pub acting : Event → Option ℕ
acting (event.Local what) = Some (acting_local what)
acting (event.Lead what) = None
acting (event.Passage what) = acting_passage what

-- that machine has failed
abbrev pub is_resting : List Bool → Option ℕ → Bool
is_resting failed None = false
is_resting failed (Some a) = slice_index_or failed a false

-- Such an event might occur in this cluster, and what has become of the code stands for what the event makes of it.
pub record HasTakenPlace {M : Type 0} (represents : Setting → ℕ → Machine → M → Type 0) (st : Setting) (c : Cluster) (what : Event) (new : Parts M) : Type 0 where
  pub event : law.Event
  pub is : IsNamedEvent what event
  pub may : law.MayOccur st c event
  pub after : IsSavingClusterOf represents st new (law.after_event st c event)

abbrev pub TakesPlace : {M : Type 0} → (Setting → ℕ → Machine → M → Type 0) → Parts M → Event → Parts M → Type 0
TakesPlace represents old what new = InEachCluster represents old (λ st c. HasTakenPlace represents st c what new)

-- such an event might occur
abbrev pub CanTakePlace : {M : Type 0} → (Setting → ℕ → Machine → M → Type 0) → Parts M → Event → Type 0
CanTakePlace represents old what = InEachCluster represents old (λ st c. (event : law.Event) × IsNamedEvent what event × law.MayOccur st c event)

-- no such event might
abbrev pub CanNotTakePlace : {M : Type 0} → (Setting → ℕ → Machine → M → Type 0) → Parts M → Event → Type 0
CanNotTakePlace represents old what = InEachCluster represents old (λ st c. (event : law.Event) → IsNamedEvent what event → law.MayOccur st c event → ⊥)

-- What a call answers: the event has happened; or it might not, and nothing has changed; or memory was wanting where it might.
pub record AnswersEvent {M : Type 0} (represents : Setting → ℕ → Machine → M → Type 0) (old : Parts M) (what : Event) (answer : Result (Unit {0}) Refused) (new : Parts M) : Type 0 where
  pub made : OnOk answer (TakesPlace represents old what new)
  pub not_now : IsErrOf answer NotNow → CanNotTakePlace represents old what
  pub no_memory : IsErrOf answer NoMemory → CanTakePlace represents old what
  pub unchanged : OnErr answer (StandsForSameSaving represents old new)

-- ---- an acknowledgement for which there is room

-- The run goes on, and the snapshot of this number may be acknowledged, with room for the word of that to each machine.
pub record IsReadyToAcknowledge {M : Type 0} (p : Parts M) (k : ℕ) : Type 0 where
  pub runs : p.stopped ≡ false
  pub ready : IsReadyToRecord p.coordinator k

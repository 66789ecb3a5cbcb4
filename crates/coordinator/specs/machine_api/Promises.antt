-- What the calls of a machine that takes snapshots promise: for each machine of the law that it is. `represents` says that it is the machine
-- of this number of a cluster with this setting, and has this.
pub use Rattle.coordinator.specs.machine_api.Deeds.{Admit, Deed, Grant, Machine, Mark, MayBeDone, ScopeId, Section, Setting, Update, does}
pub use Rattle.cluster_laws.specs.cluster_core.Actions.{HasFirst}
pub use Rattle.cluster_laws.specs.cluster_model.Events.{HasNext}
pub use Rattle.cluster_laws.specs.cluster_model.Working.{fails}
pub use Rattle.coordinator.specs.machine_api.Told.{view_of}
pub use Rattle.wire.specs.wire_msgs.Views.{MessageView, message_view}
use Rattle.std.specs.Prelude.{List, ℕ, ⊤, ◌<◌, ◌∷◌, ◌≡◌}
use Rattle.cluster_laws.specs.cluster_core.Messages as law
use Rattle.cluster_laws.specs.cluster_model.Calls.{Call, Report}
use Rattle.cluster_laws.specs.cluster_model.Clusters.{Cluster}
use Rattle.cluster_laws.specs.cluster_model.Working.{hands, hands_report, prompt, receives, takes_call}
use Rattle.coordinator.specs.coord_core.Calls.{IsReport}
use Rattle.coordinator.specs.coord_core.Coordinators.{TellsCall}
use Rattle.coordinator.specs.coord_core.Saving.{IsApart}
use Rattle.coordinator.specs.machine_api.Going.{IsGoing, IsSnapSetting}
use Rattle.wire.specs.wire_msgs.Views as wire
use Rattle.wire.specs.declared.wire_msgs.messages.Message.{Message}

-- of each machine that it is
abbrev pub OfEach : {M : Type 0} → (Setting → ℕ → Machine → M → Type 0) → M → (Setting → ℕ → Machine → Type 0) → Type 0
OfEach represents x holds = (st : Setting) (a : ℕ) (m : Machine) → IsSnapSetting st → represents st a m x → holds st a m

-- it is each machine that it was
abbrev pub StandsStill : {M : Type 0} → (Setting → ℕ → Machine → M → Type 0) → M → M → Type 0
StandsStill represents old new = OfEach represents old (λ st a m. represents st a m new)

-- ---- what it does by itself

-- it may be done; it may not; and it was
abbrev pub CanDo : {M : Type 0} → (Setting → ℕ → Machine → M → Type 0) → M → Deed → Type 0
CanDo represents x deed = OfEach represents x (λ st a m. MayBeDone st a m deed)

abbrev pub CanNotDo : {M : Type 0} → (Setting → ℕ → Machine → M → Type 0) → M → Deed → Type 0
CanNotDo represents x deed = OfEach represents x (λ st a m. MayBeDone st a m deed → ⊥)

abbrev pub HasDone : {M : Type 0} → (Setting → ℕ → Machine → M → Type 0) → M → Deed → M → Type 0
HasDone represents old deed new = OfEach represents old (λ st a m. MayBeDone st a m deed × represents st a (does st a deed m) new)

-- some vertex may be admitted; none may; and one was
abbrev pub CanAdmit : {M : Type 0} → (Setting → ℕ → Machine → M → Type 0) → M → Type 0
CanAdmit represents x = OfEach represents x (λ st a m. (v : ℕ) × MayBeDone st a m (Admit v))

abbrev pub CanNotAdmit : {M : Type 0} → (Setting → ℕ → Machine → M → Type 0) → M → Type 0
CanNotAdmit represents x = OfEach represents x (λ st a m. (v : ℕ) → MayBeDone st a m (Admit v) → ⊥)

abbrev pub HasAdmittedSome : {M : Type 0} → (Setting → ℕ → Machine → M → Type 0) → M → M → Type 0
HasAdmittedSome represents old new = OfEach represents old (λ st a m. (v : ℕ) × MayBeDone st a m (Admit v) × represents st a (does st a (Admit v) m) new)

-- no lock may be granted
abbrev pub CanGrantNone : {M : Type 0} → (Setting → ℕ → Machine → M → Type 0) → M → Type 0
CanGrantNone represents x = (vertex : ℕ) → CanNotDo represents x (Grant vertex)

-- the update of this scope may be made, under whatever ticket; and of no scope may one
abbrev pub CanUpdate : {M : Type 0} → (Setting → ℕ → Machine → M → Type 0) → M → ScopeId → Type 0
CanUpdate represents x s = (ticket : ℕ) → CanDo represents x (Update s ticket)

abbrev pub CanUpdateNone : {M : Type 0} → (Setting → ℕ → Machine → M → Type 0) → M → Type 0
CanUpdateNone represents x = (s : ScopeId) (ticket : ℕ) → CanNotDo represents x (Update s ticket)

-- of no scope may a snapshot update be made
abbrev pub CanMarkNone : {M : Type 0} → (Setting → ℕ → Machine → M → Type 0) → M → Type 0
CanMarkNone represents x = (s : ScopeId) → CanNotDo represents x (Mark s)

-- ---- what comes

-- In this cluster of the law it is machine a, and what the message tells is the first on the link from machine p.
pub record IsFirstFrom {M : Type 0} (represents : Setting → ℕ → Machine → M → Type 0) (x : M) (p : ℕ) (message : Message) (st : Setting) (c : Cluster) (a : ℕ) : Type 0 where
  pub setting : IsSnapSetting st
  pub going : IsGoing st c
  pub machine : a < st.machines
  pub here : represents st a (c.machine a) x
  pub behind : List law.Message
  pub first : c.link p a ≡ view_of message ∷ behind

-- there is such a cluster
abbrev pub MayReceiveFirst : {M : Type 0} → (Setting → ℕ → Machine → M → Type 0) → M → ℕ → Message → Type 0
MayReceiveFirst represents x p message = (st : Setting) × (c : Cluster) × (a : ℕ) × IsFirstFrom represents x p message st c a

-- in each of them it was received
abbrev pub HasReceived : {M : Type 0} → (Setting → ℕ → Machine → M → Type 0) → M → ℕ → Message → M → Type 0
HasReceived represents old p message new =
    (st : Setting) (c : Cluster) (a : ℕ) → IsFirstFrom represents old p message st c a → represents st a (prompt st a (receives st a (view_of message) (c.machine a))) new

-- In this cluster of the law it is machine a, and the message tells the first call on the link from the coordinator.
pub record IsFirstCall {M : Type 0} (represents : Setting → ℕ → Machine → M → Type 0) (x : M) (message : Message) (st : Setting) (c : Cluster) (a : ℕ) (call : Call) : Type 0 where
  pub setting : IsSnapSetting st
  pub going : IsGoing st c
  pub machine : a < st.machines
  pub here : represents st a (c.machine a) x
  pub told : TellsCall (message_view message) call
  pub behind : List Call
  pub first : c.calls a ≡ call ∷ behind

abbrev pub MayHearCall : {M : Type 0} → (Setting → ℕ → Machine → M → Type 0) → M → Message → Type 0
MayHearCall represents x message = (st : Setting) × (c : Cluster) × (a : ℕ) × (call : Call) × IsFirstCall represents x message st c a call

abbrev pub HasHeard : {M : Type 0} → (Setting → ℕ → Machine → M → Type 0) → M → Message → M → Type 0
HasHeard represents old message new =
    (st : Setting) (c : Cluster) (a : ℕ) (call : Call) → IsFirstCall represents old message st c a call → represents st a (prompt st a (takes_call st a call (c.machine a))) new

-- ---- what is sent

-- the message was the first for machine q, and has left the outbox
pub record SendsItsFirst {M : Type 0} (represents : Setting → ℕ → Machine → M → Type 0) (q : ℕ) (message : Message) (new : M) (st : Setting) (a : ℕ) (m : Machine) : Type 0 where
  pub behind : List law.Message
  pub first : m.part.out q ≡ view_of message ∷ behind
  pub after : represents st a (hands q behind m) new

-- the message is this report, and in a section no vertex and no edge stands twice
abbrev pub IsApartMessage : MessageView → Type 0
IsApartMessage (wire.Section section) = IsApart section
IsApartMessage _ = ⊤

abbrev pub TellsReport : MessageView → Report → Type 0
TellsReport message report = IsReport message report × IsApartMessage message

-- the message was the first for the coordinator, and has left the outbox
pub record IsReporting {M : Type 0} (represents : Setting → ℕ → Machine → M → Type 0) (message : Message) (new : M) (st : Setting) (a : ℕ) (m : Machine) : Type 0 where
  pub report : Report
  pub behind : List Report
  pub first : m.out ≡ report ∷ behind
  pub told : TellsReport (message_view message) report
  pub after : represents st a (hands_report behind m) new

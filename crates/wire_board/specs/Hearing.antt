-- What a machine hears, and what it tells.
pub use Rattle.cluster_laws.specs.cluster_model.Clusters.{Cluster}
pub use Rattle.coordinator.specs.machine_api.Going.{IsGoing, IsSnapSetting}
pub use Rattle.coordinator.specs.machine_api.Promises.{Machine, MessageView, Setting, message_view}
use Rattle.std.specs.Prelude.{List, [], false, map, ℕ, ◌++◌, ◌<◌, ◌∷◌, ◌≡◌, ◌⊎◌}
use Rattle.cluster_laws.specs.cluster_core.Messages as core
use Rattle.cluster_laws.specs.cluster_model.Events as law
use Rattle.cluster_laws.specs.cluster_model.Working.{hands, prompt, receives}
use Rattle.coordinator.specs.machine_api.Told.{message_read}
use Rattle.coordinator.specs.machine_api.Promises.{HasHeard, IsReporting, MayHearCall, OfEach, StandsStill}
use Rattle.wire.specs.declared.wire_msgs.messages.Message.{Message}

-- In this cluster of the law the code is machine a, which runs, and these messages are on the link from machine p.
pub record IsHearing {M : Type 0} (represents : Setting → ℕ → Machine → M → Type 0) (y : M) (p a : ℕ) (messages : List MessageView) (st : Setting) (c : Cluster) : Type 0 where
  pub setting : IsSnapSetting st
  pub going : IsGoing st c
  pub runs : c.stopped ≡ false
  pub awake : law.IsAwake st c a
  pub from : p < st.machines
  pub here : represents st a (c.machine a) y
  pub told : c.link p a ≡ map message_read messages

-- there is such a cluster
abbrev pub CanHear : {M : Type 0} → (Setting → ℕ → Machine → M → Type 0) → M → ℕ → ℕ → List MessageView → Type 0
CanHear represents y p a messages = (st : Setting) × (c : Cluster) × IsHearing represents y p a messages st c

-- machine a receives these, one after another
abbrev pub receives_all : Setting → ℕ → List core.Message → Machine → Machine
receives_all st a [] m = m
receives_all st a (told ∷ more) m = receives_all st a more (prompt st a (receives st a told m))

-- In each of them it has received the first ones, and the rest is left.
abbrev pub HasHeardAll : {M : Type 0} → (Setting → ℕ → Machine → M → Type 0) → M → ℕ → ℕ → List MessageView → List MessageView → M → Type 0
HasHeardAll represents y p a heard rest z =
    (st : Setting) (c : Cluster) → IsHearing represents y p a (heard ++ rest) st c → represents st a (receives_all st a (map message_read heard) (c.machine a)) z

-- it has told machine q these, which were the first that waited
pub record HasToldAll {M : Type 0} (represents : Setting → ℕ → Machine → M → Type 0) (q : ℕ) (told : List MessageView) (z : M) (st : Setting) (a : ℕ) (m : Machine) : Type 0 where
  pub behind : List core.Message
  pub first : m.part.out q ≡ map message_read told ++ behind
  pub after : represents st a (hands q behind m) z

-- ---- between a machine and the coordinator

-- the first of these may be heard as a call
abbrev pub MayHearFirst : {M : Type 0} → (Setting → ℕ → Machine → M → Type 0) → M → List MessageView → Type 0
MayHearFirst represents y messages = (message : Message) (rest : List MessageView) → messages ≡ message_view message ∷ rest → MayHearCall represents y message

-- It has heard the first of these as a call; or nothing has changed.
abbrev pub HasHeardFirst : {M : Type 0} → (Setting → ℕ → Machine → M → Type 0) → M → List MessageView → List MessageView → M → Type 0
HasHeardFirst represents y old new z =
    ((message : Message) × (old ≡ message_view message ∷ new) × HasHeard represents y message z)
    ⊎ ((new ≡ old) × StandsStill represents y z)

-- It has told its first report; or nothing has changed.
abbrev pub HasToldFirst : {M : Type 0} → (Setting → ℕ → Machine → M → Type 0) → M → List MessageView → List MessageView → M → Type 0
HasToldFirst represents y old new z =
    ((message : Message) × (new ≡ old ++ message_view message ∷ []) × OfEach represents y (IsReporting represents message z))
    ⊎ ((new ≡ old) × StandsStill represents y z)

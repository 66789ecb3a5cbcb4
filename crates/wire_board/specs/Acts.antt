-- What a seat makes on a board: events, one after another.
pub use Rattle.wire_board.specs.Seats.{LinkView, Machine, Sat, Seated, Setting}
pub use Rattle.wire_board.specs.Hearing.{MessageView}
pub use Rattle.coordinator.specs.coord_core.Coordinators.{CoordinatorView}
use Rattle.std.specs.Prelude.{Bool, List, None, Some, [], false, map, true, ℕ, ◌*◌, ◌∷◌, ◌≡◌, ◌≢◌, ◌⊎◌}
use Rattle.gl_base.specs.declared.scopes.ScopeId.{ScopeId}
use Rattle.coordinator.specs.coord_core.Calls.{HasBegunNext, HasHandedOver, HasPutStep, HasPutWave, HasTakenReport, MayReport}
use Rattle.coordinator.specs.machine_api.AtOnce.{HasUpdatedAtOnce}
use Rattle.coordinator.specs.machine_api.InTurn.{HasGrantedInTurn}
use Rattle.coordinator.specs.machine_api.Promises.{Deed, HasAdmittedSome, HasDone, HasHeard, IsReporting, MayHearCall, OfEach, StandsStill, Update, message_view}
use Rattle.coordinator.specs.machine_api.Told.{message_read}
use Rattle.link_tables.specs.Seats.{sight}
use Rattle.wire.specs.declared.wire_msgs.messages.Message.{Message}
use Rattle.wire_board.specs.Freeing.{HasReached}
use Rattle.wire_board.specs.Going.{FailureAt}
use Rattle.wire_board.specs.Hearing.{CanHear, HasHeardAll, HasToldAll}
use Rattle.wire_board.specs.Led.{link_no}
use Rattle.wire_board.specs.Sights.{HadQueue, HasSeen, Sees, word_at}
use Rattle.wire_board.specs.Standings.{IsOwn}

pub data Act : Type 0 where
  -- it grants a lock, makes a snapshot update or puts its section out; or it admits a scope
  Does : (deed : Deed) → Act
  Admits : Act
  -- it grants the lock of this vertex, and in turn those of some others
  GrantsInTurn : (vertex : ℕ) → Act
  -- it makes the update of a ready scope under this ticket, or one at once
  Updates : (scope : ScopeId) → (ticket : ℕ) → Act
  UpdatesAtOnce : (vertex : ℕ) → (ticket : ℕ) → Act
  -- it receives these messages of a machine; it tells a machine these
  Hears : (from : ℕ) → (messages : List MessageView) → Act
  Tells : (to : ℕ) → (messages : List MessageView) → Act
  -- it hears a call of the coordinator; it tells it a report
  HearsCall : (message : Message) → Act
  Reports : (message : Message) → Act

-- At a board with so many links and peers, machine a's seat makes it: the machine was x and is y. What it hears was on the link, and its ticket was
-- the next one.
abbrev pub IsMade : {M : Type 0} → (Setting → ℕ → Machine → M → Type 0) → ℕ → ℕ → ℕ → Act → M → Sat (Seated M) LinkView → M → Sat (Seated M) LinkView → Type 0
IsMade represents many peers a (Does d) x old y new = IsOwn d × HasDone represents x d y × Sees old new
IsMade represents many peers a Admits x old y new = HasAdmittedSome represents x y × Sees old new
IsMade represents many peers a (GrantsInTurn v) x old y new = HasGrantedInTurn represents x v y × Sees old new
IsMade represents many peers a (Updates s ticket) x old y new = HasDone represents x (Update s ticket) y × HasSeen old new (sight (word_at many) ticket None)
IsMade represents many peers a (UpdatesAtOnce v ticket) x old y new = HasUpdatedAtOnce represents x v ticket y × HasSeen old new (sight (word_at many) ticket None)
IsMade represents many peers a (Hears p heard) x old y new =
    (heard ≢ []) × CanHear represents x p a heard × HasHeardAll represents x p a heard [] y × Sees old new × (queue : LinkView) × (queue.messages ≡ heard) × HadQueue old new (link_no peers p a) queue
IsMade represents many peers a (Tells q told) x old y new =
    OfEach represents x (HasToldAll represents q told y) × OfEach represents x (λ st k m. (m.part.out q ≡ map message_read told) × (m.part.out q ≢ [])) × Sees old new
IsMade represents many peers a (HearsCall message) x old y new = MayHearCall represents x message × HasHeard represents x message y × Sees old new
IsMade represents many peers a (Reports message) x old y new = OfEach represents x (IsReporting represents message y) × Sees old new

-- the seat makes these, one after another, and nothing else
abbrev pub AreMade : {M : Type 0} → (Setting → ℕ → Machine → M → Type 0) → ℕ → ℕ → ℕ → List Act → M → Sat (Seated M) LinkView → M → Sat (Seated M) LinkView → Type 0
AreMade represents many peers a [] x old y new = StandsStill represents x y × Sees old new
AreMade {M} represents many peers a (act ∷ more) x old y new =
    (u : M) × (from : Sat (Seated M) LinkView) × (v : M) × (to : Sat (Seated M) LinkView)
    × StandsStill represents x u × Sees old from × IsMade represents many peers a act u from v to × AreMade represents many peers a more v to y new

-- These are the events that it makes. There is one where an answer says so, and none where it says that.
abbrev pub HasMoved : {M : Type 0} → (Setting → ℕ → Machine → M → Type 0) → ℕ → ℕ → ℕ → M → Sat (Seated M) LinkView → M → Sat (Seated M) LinkView → Type 0 → Type 0 → Type 0
HasMoved represents many peers a x old y new IfSome IfNone = (acts : List Act) × AreMade represents many peers a acts x old y new × (IfSome → acts ≢ []) × (IfNone → acts ≡ [])

-- where it says `true`, and where it says `false`
abbrev pub HasMovedIf : {M : Type 0} → (Setting → ℕ → Machine → M → Type 0) → ℕ → ℕ → ℕ → M → Sat (Seated M) LinkView → M → Sat (Seated M) LinkView → Bool → Type 0
HasMovedIf represents many peers a x old y new some = HasMoved represents many peers a x old y new (some ≡ true) (some ≡ false)

-- At some time in between the machine had reached the count of a failure.
pub record HasReachedBetween {M : Type 0} (represents : Setting → ℕ → Machine → M → Type 0) (failures : List FailureAt) (done : List ℕ) (many peers a : ℕ) (x : M) (old : Sat (Seated M) LinkView) (y : M) (new : Sat (Seated M) LinkView) : Type 0 where
  pub there : M
  pub me : Sat (Seated M) LinkView
  pub before : List Act
  pub came : AreMade represents many peers a before x old there me
  pub reached : HasReached represents failures done there a
  pub after : List Act
  pub went : AreMade represents many peers a after there me y new

-- so by itself, at whatever seat it has
abbrev pub MovesAlone : {M : Type 0} → (Setting → ℕ → Machine → M → Type 0) → M → M → Bool → Type 0
MovesAlone {M} represents x y some = (many peers a : ℕ) (me : Sat (Seated M) LinkView) → HasMovedIf represents many peers a x me y me some

-- ---- the coordinator

pub data LeadAct : Type 0 where
  -- it tells a machine a call; it hears a report of one
  TellsCall : (to : ℕ) → (message : Message) → LeadAct
  HearsReport : (from : ℕ) → (message : Message) → LeadAct
  -- it begins a snapshot, or puts a step or a wave out
  Begins : LeadAct
  PutsStep : LeadAct
  PutsWave : LeadAct

-- the coordinator was c and is d
abbrev pub IsLed : LeadAct → CoordinatorView → CoordinatorView → Type 0
IsLed (TellsCall a message) c d = HasHandedOver c d a (Some message)
IsLed (HearsReport a message) c d = MayReport c a (message_view message) × HasTakenReport c d a (message_view message)
IsLed Begins c d = HasBegunNext c d
IsLed PutsStep c d = HasPutStep c d
IsLed PutsWave c d = HasPutWave c d

abbrev pub HasLed : CoordinatorView → CoordinatorView → Type 0
HasLed c d = (act : LeadAct) × IsLed act c d

-- some seat of a board with so many peers has made an event
abbrev pub HasMadeOne : {M : Type 0} → (Setting → ℕ → Machine → M → Type 0) → ℕ → Type 0
HasMadeOne {M} represents peers =
    ((a : ℕ) × (act : Act) × (x : M) × (old : Sat (Seated M) LinkView) × (y : M) × (new : Sat (Seated M) LinkView) × IsMade represents (peers * peers) peers a act x old y new)
    ⊎ ((c : CoordinatorView) × (d : CoordinatorView) × HasLed c d)

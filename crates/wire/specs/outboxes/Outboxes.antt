-- What waits to be sent to each peer.
pub use Rattle.wire.specs.wire_msgs.Views.{MessageView, DoneView, message_view, done_view}
use Rattle.std.specs.Prelude.{◌≡◌, ℕ, ◌+◌, ◌<◌, ◌≤◌, Bool, true, false, pred, Option, Some, None, List, [], ◌∷◌, ◌++◌, length, nat_lt, slice_index_or, slice_set}
use Rattle.gl_base.specs.declared.scopes.Peer.{Peer}
use Rattle.gl_base.specs.declared.scopes.Peer.TheVariants.{Machine, Coordinator}

-- The messages that wait, the first first, and for how many more there is room.
pub record OutboxView : Type 0 where
  pub messages : List MessageView
  pub room : ℕ

-- The outbox to each machine, and that to the coordinator.
pub record OutboxesView : Type 0 where
  pub machines : List OutboxView
  pub coordinator : OutboxView

abbrev pub no_outbox : OutboxView
no_outbox = record { messages = []; room = 0 }

-- the outbox to this peer
abbrev pub outbox_to : OutboxesView → Peer → OutboxView
outbox_to o (Machine b) = slice_index_or o.machines b.0 no_outbox
outbox_to o Coordinator = o.coordinator

-- what waits for this peer
abbrev pub waiting_for : OutboxesView → Peer → List MessageView
waiting_for o to = (outbox_to o to).messages

-- the peer is the coordinator, or one of the machines
abbrev pub IsPeerOf : OutboxesView → Peer → Type 0
IsPeerOf o (Machine b) = b.0 < length o.machines
IsPeerOf o Coordinator = Unit {0}

-- the outbox to this peer is that one now
abbrev pub with_outbox : OutboxesView → Peer → OutboxView → OutboxesView
with_outbox o (Machine b) box = record o { machines = slice_set o.machines b.0 box }
with_outbox o Coordinator box = record o { coordinator = box }

-- one more message waits
abbrev pub with_message : MessageView → OutboxView → OutboxView
with_message m box = record { messages = box.messages ++ m ∷ []; room = pred box.room }

-- behind the first message, where one waits
abbrev pub left_behind : List MessageView → ℕ → OutboxView
left_behind [] room = record { messages = []; room = room }
left_behind (m ∷ behind) room = record { messages = behind; room = room + 1 }

-- the first message that waits is gone
abbrev pub without_first : OutboxView → OutboxView
without_first box = left_behind box.messages box.room

-- no message waits, and the room for them is kept
abbrev pub emptied : OutboxView → OutboxView
emptied box = record { messages = []; room = box.room + length box.messages }

-- a message waits
abbrev pub has_waiting : OutboxView → Bool
has_waiting box = nat_lt 0 (length box.messages)

-- The first machine from this one on for which a message waits; where there is none, the coordinator where one waits for it.
abbrev pub IsNextWaiting : OutboxesView → ℕ → Option Peer → Type 0
IsNextWaiting o from None = ((b : ℕ) → from ≤ b → has_waiting (slice_index_or o.machines b no_outbox) ≡ false) × (has_waiting o.coordinator ≡ false)
IsNextWaiting o from (Some (Machine b)) = (from ≤ b.0) × (has_waiting (slice_index_or o.machines b.0 no_outbox) ≡ true) × ((c : ℕ) → from ≤ c → c < b.0 → has_waiting (slice_index_or o.machines c no_outbox) ≡ false)
IsNextWaiting o from (Some Coordinator) = ((b : ℕ) → from ≤ b → has_waiting (slice_index_or o.machines b no_outbox) ≡ false) × (has_waiting o.coordinator ≡ true)

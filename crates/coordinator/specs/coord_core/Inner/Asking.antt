-- What telling each machine leaves.
use Rattle.std.specs.Prelude.{◌≡◌, ℕ, Bool, true, false, length, slice_index_or}
use Rattle.std.specs.List.{list_all}
use Rattle.wire.specs.wire_msgs.Views as wire
use Rattle.coordinator.specs.coord_core.Coordinators.{MessageView, OutboxesView, waiting_at, no_outbox}

-- for how many more messages to machine a there is room
abbrev pub room_for : OutboxesView → ℕ → ℕ
room_for out a = (slice_index_or out.machines a no_outbox).room

-- the same messages wait
pub record SameMessages (old new : OutboxesView) : Type 0 where
  pub many : length new.machines ≡ length old.machines
  pub each : (a : ℕ) → waiting_at new a ≡ waiting_at old a

-- the message is a call
abbrev pub is_call : MessageView → Bool
is_call (wire.Begin k) = true
is_call (wire.Committed k) = true
is_call (wire.Wave k) = true
is_call (wire.Step k) = true
is_call _ = false

-- these are the outboxes to so many machines, and calls alone wait for them
pub record AreOutboxesOf (out : OutboxesView) (machines : ℕ) : Type 0 where
  pub many : length out.machines ≡ machines
  pub calls : (a : ℕ) → list_all is_call (waiting_at out a) ≡ true

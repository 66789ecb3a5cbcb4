-- How the seats of a board stand.
pub use Rattle.link_tables.specs.Seats.{Rests, Sat, word_at}
pub use Rattle.wire_board.specs.Led.{Lead, Leading, LinkView, Node, Seated, Standing}
use Rattle.link_tables.specs.Seats.{HoldsLink}
use Rattle.wire_board.specs.Led.{Learns}
pub use Rattle.wire_board.specs.Standings.{Machine, Member, Setting, at_rest}
use Rattle.std.specs.Prelude.{List, Some, [], ℕ, ◌++◌, ◌∷◌, ◌≡◌, ◌⊎◌}
use Rattle.coordinator.specs.coord_core.Calls.{HasHandedOver, HasTakenReport, StaysCoordinator}
use Rattle.coordinator.specs.coord_core.Coordinators.{CoordinatorView}
use Rattle.coordinator.specs.machine_api.Promises.{MessageView, message_view}
use Rattle.wire.specs.declared.wire_msgs.messages.Message.{Message}
use Rattle.wire_board.specs.Standings.{HasComeTo}

-- The seat has this machine as it was at its last step, and no link; and the machine has come from there to what it is now.
pub record Sits {M : Type 0} (represents : Setting → ℕ → Machine → M → Type 0) (member : Member M) (me : Sat (Seated M) LinkView) : Type 0 where
  pub was : Standing M
  pub rests : Rests me (Node was) []
  pub number : member.number ≡ was.member.number
  pub peers : member.peers ≡ was.member.peers
  pub come : HasComeTo represents was member.machine

-- The seat has this machine, which owes nothing, and the link i as it was taken.
pub record HasTakenLink {M : Type 0} (represents : Setting → ℕ → Machine → M → Type 0) (member : Member M) (i : ℕ) (me : Sat (Seated M) LinkView) : Type 0 where
  pub queue : LinkView
  pub holds : HoldsLink me (Node (at_rest member)) [] i queue queue
  pub learns : Learns represents (Node (at_rest member)) i queue

-- The seat has the coordinator first, as it was at its last step, and no link. It is still what it was, with other room.
pub record Leads {M : Type 0} (lead : Leading) (others : List (Seated M)) (me : Sat (Seated M) LinkView) : Type 0 where
  pub was : Leading
  pub rests : Rests me (Lead was) others
  pub number : lead.number ≡ was.number
  pub stays : StaysCoordinator was.coordinator lead.coordinator

-- The seat has this coordinator first, and the link i as it was taken.
pub record HasTakenLead {M : Type 0} (represents : Setting → ℕ → Machine → M → Type 0) (lead : Leading) (others : List (Seated M)) (i : ℕ) (me : Sat (Seated M) LinkView) : Type 0 where
  pub queue : LinkView
  pub holds : HoldsLink me (Lead lead) others i queue queue
  pub learns : Learns represents (Lead lead) i queue

-- ---- what the coordinator has told and heard on a link

-- It has told machine a its first call; or nothing has changed.
abbrev pub HasToldCall : CoordinatorView → ℕ → List MessageView → List MessageView → CoordinatorView → Type 0
HasToldCall c a old new d =
    ((message : Message) × (new ≡ old ++ message_view message ∷ []) × HasHandedOver c d a (Some message))
    ⊎ ((new ≡ old) × StaysCoordinator c d)

-- It has taken the first report of machine a; or nothing has changed.
abbrev pub HasHeardReport : CoordinatorView → ℕ → List MessageView → List MessageView → CoordinatorView → Type 0
HasHeardReport c a old new d =
    ((message : Message) × (old ≡ message_view message ∷ new) × HasTakenReport c d a (message_view message))
    ⊎ ((new ≡ old) × StaysCoordinator c d)

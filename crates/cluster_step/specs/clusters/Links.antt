-- The links between machines, as plain lists.
pub use Rattle.coordinator.specs.machine_api.Told.{MessageView, message_view, message_read}
use Rattle.std.specs.Prelude.{List, [], map, slice_index_or, ℕ}
use Rattle.cluster_laws.specs.cluster_core.Messages.{Message}

-- The messages on a link, the first first, and for how many more there is room.
pub record LinkView : Type 0 where
  pub messages : List MessageView
  pub room : ℕ

-- no link
abbrev pub empty_link : LinkView
empty_link = record { messages = []; room = 0 }

-- the link from p to q, where each machine has a list of the links from it
abbrev pub link_between : List (List LinkView) → ℕ → ℕ → LinkView
link_between links p q = slice_index_or (slice_index_or links p []) q empty_link

-- what the messages on the link from p to q tell
abbrev pub told_on : List (List LinkView) → ℕ → ℕ → List Message
told_on links p q = map message_read (link_between links p q).messages

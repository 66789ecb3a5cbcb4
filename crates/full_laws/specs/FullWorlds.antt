-- The machines' parts, what is under way on the links, and the tickets.
use Rattle.std.specs.Prelude.{List, ℕ, ◌++◌}
use Rattle.cluster_laws.specs.cluster_core.Ranges.{set_at}
use Rattle.cluster_laws.specs.cluster_core.Settings.{Setting}
use Rattle.full_laws.specs.FullMessages.{FullMessage}
use Rattle.full_laws.specs.FullParts.{FullPart}
use Rattle.full_laws.specs.Items.{AVertex}

-- A cluster whose updates may write their whole scopes.
pub record FullWorld : Type 0 where
  pub part : ℕ → FullPart
  -- from one machine to another, the first first
  pub link : ℕ → ℕ → List FullMessage
  -- the next ticket, and how many there are
  pub next : ℕ
  pub left : ℕ

-- machine a has this part
abbrev pub with_full_part : FullWorld → ℕ → FullPart → FullWorld
with_full_part w a part = record w { part = set_at w.part a part }

-- the link from p to q has these messages
abbrev pub with_full_link : FullWorld → ℕ → ℕ → List FullMessage → FullWorld
with_full_link w p q messages = record w { link = set_at w.link p (set_at (w.link p) q messages) }

-- what is on the way from p to q: on the link, and behind that in the outbox
abbrev pub full_way : FullWorld → ℕ → ℕ → List FullMessage
full_way w p q = w.link p q ++ (w.part p).out q

-- the number of x at its owner
abbrev pub number_at : Setting → FullWorld → ℕ → ℕ
number_at st w x = (w.part (st.owner x)).number (AVertex x)

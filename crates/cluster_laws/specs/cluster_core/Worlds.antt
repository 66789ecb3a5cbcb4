-- The state of a cluster: the machines' parts, what is under way on the links, and the tickets.
use Rattle.std.specs.Prelude.{List, Option, ℕ, ◌++◌}
use Rattle.cluster_laws.specs.cluster_core.Messages.{Message, Section}
use Rattle.cluster_laws.specs.cluster_core.Parts.{Part}
use Rattle.cluster_laws.specs.cluster_core.Ranges.{set_at}

-- The core of a cluster.
pub record World : Type 0 where
  pub part : ℕ → Part
  -- from one machine to another, the first first
  pub link : ℕ → ℕ → List Message
  -- the next ticket, and how many there are
  pub next : ℕ
  pub left : ℕ
  -- the number of the newest snapshot that was begun, and of the newest that was acknowledged
  pub begun : ℕ
  pub acknowledged : ℕ
  -- to each machine: the snapshots to begin; and from each machine: its section on the way, and as it has come
  pub orders : ℕ → List ℕ
  pub reports : ℕ → List Section
  pub collected : ℕ → Option Section

-- machine a has this part
abbrev pub with_part : World → ℕ → Part → World
with_part w a part = record w { part = set_at w.part a part }

-- the link from p to q has these messages
abbrev pub with_link : World → ℕ → ℕ → List Message → World
with_link w p q messages = record w { link = set_at w.link p (set_at (w.link p) q messages) }

-- what is on the way from p to q: on the link, and behind that in the outbox
abbrev pub way : World → ℕ → ℕ → List Message
way w p q = w.link p q ++ (w.part p).out q

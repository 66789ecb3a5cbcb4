-- One machine's part of a cluster.
use Rattle.std.specs.Prelude.{Bool, List, Option, ℕ}
use Rattle.gl_base.specs.declared.entries.Entry.{Entry}
use Rattle.gl_base.specs.declared.scopes.Claim.{Claim}
use Rattle.gl_base.specs.declared.scopes.Datum.{Datum}
use Rattle.gl_base.specs.declared.scopes.Mode.{Mode}
use Rattle.gl_base.specs.declared.scopes.ScopeId.{ScopeId}
use Rattle.cluster_laws.specs.cluster_core.Messages.{Message, Section}
use Rattle.seq_run.specs.States.{GraphState}

-- Where a scope stands at a machine: it waits for the lock of a vertex there, and these machines are still to come.
pub record Stand : Type 0 where
  pub centre : ℕ
  pub lock : ℕ
  pub rest : List ℕ

-- What a machine holds of scopes, locks, numbers, tasks and snapshots.
pub record Part : Type 0 where
  -- of a vertex that this machine owns the vertex's own datum, and of any other one the copy that is kept here
  pub datum : ℕ → Datum
  -- the copy of each edge's number
  pub edge : ℕ → ℕ
  pub task : ℕ → Bool
  -- the updates made here
  pub log : List Entry
  -- how many scopes were admitted here, and how many of them are in flight
  pub serial : ℕ
  pub flying : ℕ
  -- the centre of each scope that was admitted here and is in flight
  pub flight : ScopeId → Option ℕ
  -- where each scope that waits for a lock here stands
  pub stand : ScopeId → Option Stand
  -- the scopes of this home that have all their locks
  pub ready : ScopeId → Bool
  -- who holds each lock, and who waits for it, the first first
  pub holder : ℕ → ScopeId → Option Mode
  pub queue : ℕ → List Claim
  -- the vertices that wait for their snapshot update, and the newest snapshot that this machine knows
  pub pending : ℕ → Bool
  pub known : ℕ
  -- what it saved for that snapshot, and the newest snapshot of which it sent its section
  pub saved : Section
  pub sent : ℕ
  -- the colour of the step that this machine is in, and whether it admits nothing more in it
  pub colour : ℕ
  pub closed : Bool
  -- what waits to be sent to each machine
  pub out : ℕ → List Message

-- the numbers as they stand at this machine
abbrev pub lent : Part → GraphState
lent part = record { vertex = λ v. (part.datum v).value; edge = part.edge }

-- All that one machine has: its part of scopes, locks and numbers, and beside it what it counts and what it tells the coordinator.
use Rattle.std.specs.Prelude.{Bool, List, Option, [], false, is_none, length, sum_by, true, ℕ, ◌&&◌, ◌+◌, ◌-◌, ◌==◌, ◌∷◌}
use Rattle.gl_base.specs.declared.entries.Entry.{Entry}
use Rattle.gl_base.specs.declared.scopes.Claim.{Claim}
use Rattle.gl_base.specs.declared.scopes.Counted.{Counted}
use Rattle.gl_base.specs.declared.scopes.ScopeId.{ScopeId}
use Rattle.cluster_laws.specs.cluster_core.Parts.{Part}
use Rattle.cluster_laws.specs.cluster_core.Ranges.{first_passing}
use Rattle.cluster_laws.specs.cluster_core.Settings.{Setting}
use Rattle.cluster_laws.specs.cluster_model.Calls.{Report}
use Rattle.cluster_laws.specs.cluster_model.Totals.{total}
use Rattle.graph_core.specs.DataGraph.{size}

-- A machine of the cluster.
pub record Machine : Type 0 where
  pub part : Part
  -- how many messages to machines it put out, and how many from machines it received
  pub sent : ℕ
  pub received : ℕ
  -- the wave that it has to answer still
  pub held : Option ℕ
  -- which of its scopes were admitted for an update and not for a snapshot update, and how many of these are in flight
  pub planned : ScopeId → Bool
  pub plans : ℕ
  -- the entries that none of its sections has: those made before their vertex was marked, and those made behind that
  pub before : List Entry
  pub behind : List Entry
  -- how many entries each of its sections has that it doesn't know to be acknowledged, the first first
  pub unsure : List ℕ
  -- the newest snapshot that it knows to be acknowledged, and whether it asked for the next one
  pub acknowledged : ℕ
  pub wanted : Bool
  -- the updates of this call that it completed in earlier attempts
  pub done : ℕ
  pub failed : Bool
  -- what waits to be sent to the coordinator
  pub out : List Report

-- its updates that are outside the last snapshot that it knows to be acknowledged
abbrev pub outside : Machine → ℕ
outside m = sum_by (λ n. n) m.unsure + length m.before + length m.behind

-- the updates that it completed in this call
abbrev pub completed : Machine → ℕ
completed m = m.done + length m.part.log

-- ---- what it counts

-- somebody waits
abbrev pub waits : List Claim → Bool
waits [] = false
waits (claim ∷ claims) = true

-- it has no task, nothing pending, no scope of its own in flight, and no scope waits for one of its locks
abbrev pub is_idle : Setting → Part → Bool
is_idle st part =
    is_none (first_passing part.task 0 (size st.graph)) && is_none (first_passing part.pending 0 (size st.graph))
    && part.flying == 0 && is_none (first_passing (λ x. waits (part.queue x)) 0 (size st.graph))

-- what it would answer to a wave now
abbrev pub count_of : Setting → Machine → Counted
count_of st m = record { sent = m.sent; received = m.received; updates = length m.part.log; idle = is_idle st m.part }

-- how many more messages are in the outboxes than were
abbrev pub gained : Setting → Part → Part → ℕ
gained st old new = total st.machines (λ q. length (new.out q) - length (old.out q))

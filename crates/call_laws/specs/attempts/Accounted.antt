-- What a call says of the lists that it answers.
use Rattle.std.specs.List.{AllByRecursion, list_any}
use Rattle.std.specs.List.Sorted.{IsPermutation}
use Rattle.std.specs.Prelude.{List, filter, if◌then◌else◌, length, true, ℕ, ◌++◌, ◌+◌, ◌<◌, ◌∷◌, ◌≡◌, ◌≤◌, ◌⊎◌}
use Rattle.gl_base.specs.declared.entries.Entry.{Entry}
use Rattle.gl_base.specs.declared.jobs.FailureAt.{FailureAt}
use Rattle.call_laws.specs.attempts.EngineCalls.{EngineCall, fired_of, call_order, struck_in}
use Rattle.cluster_laws.specs.cluster_cuts.Goings.{AreUpdatesFrom, IsByOwner}
use Rattle.cluster_laws.specs.cluster_runs.Attempts.{Shared}
use Rattle.cluster_laws.specs.cluster_model.ByTicket.{StandByTicket}
use Rattle.cluster_laws.specs.cluster_core.Replays.{entries_of, ticket_of}
use Rattle.call_laws.specs.attempts.Entries.{is_before_ticket, is_restart, is_restart_at, is_update_from, is_update_within}
use Rattle.seq_run.specs.Orders.{IsValidOrder}

-- Those of the order from the first ticket on and the lost ones are together the updates of the call, which have the tickets from the
-- first one on, each once, and are by owners. Lost updates stand by ticket, and below a restart of the order.
pub record AreAccounted (shared : Shared) (first : ℕ) (order lost updates : List Entry) : Type 0 where
  pub same : IsPermutation (filter (is_update_from first) order ++ lost) updates
  pub tickets : AreUpdatesFrom first updates
  pub owners : AllByRecursion (IsByOwner shared.owner) updates
  pub lost_by_ticket : StandByTicket first lost (first + length updates)
  pub lost_before : AllByRecursion (λ entry. (r : ℕ) × (ticket_of entry < r) × (list_any (is_restart_at r) order ≡ true)) lost

-- the bounds of an order whose call has the tickets from `first` on and below `top`: these two, and those of its restarts from `first` on
abbrev pub IsBound : ℕ → List Entry → ℕ → ℕ → Type 0
IsBound first order top r = (r ≡ first) ⊎ (((first ≤ r) × (list_any (is_restart_at r) order ≡ true)) ⊎ (r ≡ top))

-- the entries of the order below r, its restarts at r, and the updates from r on and below s
abbrev pub pieces_at : ℕ → ℕ → List Entry → List Entry → List Entry
pieces_at r s order updates = filter (is_before_ticket r) order ++ (filter (is_restart_at r) order ++ filter (is_update_within r s) updates)

-- from each bound to the next the updates are valid behind what the order has before
abbrev pub AreValidBetween : Shared → ℕ → List Entry → List Entry → Type 0
AreValidBetween shared first order updates =
    (r s : ℕ) → IsBound first order (first + length updates) r → IsBound first order (first + length updates) s → r < s →
    ((q : ℕ) → IsBound first order (first + length updates) q → r < q → s ≤ q) →
    IsValidOrder shared.graph shared.program (pieces_at r s order updates)

-- a restart of the order comes after update x, and not after update y
abbrev pub IsRestartBetween : List Entry → Entry → Entry → Type 0
IsRestartBetween order x y = (r : ℕ) × (list_any (is_restart_at r) order ≡ true) × (ticket_of x < r) × (r ≤ ticket_of y)

-- where the failure's machine made its update of that count and one more, a restart comes between these two
abbrev pub IsFollowedByRestart : List Entry → List Entry → FailureAt → Type 0
IsFollowedByRestart order updates failure =
    (before : List Entry) (x y : Entry) (more : List Entry) →
    entries_of failure.machine.0 updates ≡ before ++ x ∷ y ∷ more → length before + 1 ≡ failure.after → IsRestartBetween order x y

-- The restarts are those of the base, one where the call resumes, and one for each failure that was reached before the last attempt.
pub record AreRestarts (shared : Shared) (call : EngineCall) : Type 0 where
  pub new : List Entry
  pub behind : filter is_restart (call_order call) ≡ filter is_restart call.base ++ new
  pub many : length new ≡ (if call.resumed then 1 else 0) + struck_in call.failed
  pub fired : length (fired_of shared call) ≡ struck_in call.failed + call.last.struck

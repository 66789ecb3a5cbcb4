-- What is said of the lists that a run leaves in which machines may fail.
pub use Rattle.call_laws.specs.attempts.Accounted.{AreAccounted, AreValidBetween, IsFollowedByRestart}
pub use Rattle.call_laws.specs.attempts.EngineCalls.{IsOrderInTurn, ticket_above}
pub use Rattle.call_laws.specs.attempts.Entries.{is_restart, is_update, is_update_below}
pub use Rattle.call_laws.specs.attempts.Stores.{AreGoodOrders, IsWithinWindow, last_order}
pub use Rattle.cluster_laws.specs.cluster_runs.Attempts.{Shared, made_by}
use Rattle.std.specs.List.{AllByRecursion}
use Rattle.std.specs.Prelude.{List, [], filter, if◌then◌else◌, length, nat_le, suc, sum_by, Bool, ℕ, ◌*◌, ◌++◌, ◌+◌, ◌∷◌, ◌≡◌, ◌≤◌}
use Rattle.gl_base.specs.Lists.{AreEach}
use Rattle.gl_base.specs.declared.entries.Entry.{Entry}
use Rattle.gl_base.specs.declared.jobs.FailureAt.{FailureAt}

-- The lists: the order to which the run led; the updates that failures took away; how many updates each machine made; and which of the
-- job's failures fired, by their places.
pub record RunLists : Type 0 where
  pub order : List Entry
  pub lost : List Entry
  pub done : List ℕ
  pub fired : List ℕ

-- the places, from this one on, of the failures whose machines made as many updates as they name
abbrev pub reached_places : (ℕ → ℕ) → ℕ → List FailureAt → List ℕ
reached_places done place [] = []
reached_places done place (failure ∷ failures) =
    if nat_le failure.after (done failure.machine.0)
    then place ∷ reached_places done (suc place) failures
    else reached_places done (suc place) failures

-- The restarts of the order are those of the base and new ones: one where the run resumes the base, and one for each failure that fired, but for
-- so many that went unanswered.
pub record HasRestarts (base : List Entry) (resumed : Bool) (fired unanswered : ℕ) (order : List Entry) : Type 0 where
  pub new : List Entry
  pub behind : filter is_restart order ≡ filter is_restart base ++ new
  pub many : length new + unanswered ≡ (if resumed then 1 else 0) + fired

-- What the lists of a run are that began with this base, resumed or not. The order is in turn. Its updates below the run's first ticket are
-- those of the base. Its updates from that ticket on and the lost ones are together the updates that were made, and these are valid from each
-- restart to the next. Each machine's count is its updates among these, and all counts together are as many as they are. A failure fired
-- exactly if its machine made as many as it names, and a restart follows before the machine's next one.
pub record IsRunWithFailures (shared : Shared) (machines : ℕ) (base : List Entry) (resumed : Bool) (unanswered : ℕ) (lists : RunLists) : Type 0 where
  pub updates : List Entry
  pub in_turn : IsOrderInTurn shared lists.order
  pub kept : filter (is_update_below (ticket_above base)) lists.order ≡ filter is_update base
  pub accounted : AreAccounted shared (ticket_above base) lists.order lists.lost updates
  pub between : AreValidBetween shared (ticket_above base) lists.order updates
  pub counts : AreEach machines (λ m count. count ≡ made_by updates m) lists.done
  pub sum : sum_by (λ count. count) lists.done ≡ length updates
  pub fired : lists.fired ≡ reached_places (made_by updates) 0 shared.failures
  pub followed : AllByRecursion (IsFollowedByRestart lists.order updates) shared.failures
  pub restarts : HasRestarts base resumed (length lists.fired) unanswered lists.order

-- What a store makes of it, where these are the orders of the snapshots that the run acknowledged: of each machine at most a window of
-- updates is lost for each failure that fired, and at most that is outside the last snapshot.
pub record KeepsToWindow (window : ℕ) (base : List Entry) (snapshots : List (List Entry)) (lists : RunLists) : Type 0 where
  pub lost : (m : ℕ) → made_by lists.lost m ≤ window * length lists.fired
  pub outside : IsWithinWindow window (last_order base snapshots) lists.order

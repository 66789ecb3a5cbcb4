-- How a table is kept.
pub use Rattle.scope_locks.specs.vertex_locks.Tables.{table_of}
use Rattle.std.specs.Prelude.{◌≡◌, ℕ, ◌<◌, ◌≤◌, Bool, true, Option, List, [], length, slice_index, slice_set, nat_lt, if◌then◌else◌}
use Rattle.std.specs.List.{sum_by}
use Rattle.task_sets.specs.vertex_queue.Flags.{is_flagged}
use Rattle.gl_base.specs.declared.scopes.Claim.{Claim}
use Rattle.scope_locks.specs.vertex_locks.Locks.{LockView, IsNext}
use Rattle.scope_locks.specs.vertex_locks.Inner.KeptLocks.{claimed_once}
use Rattle.scope_locks.specs.vertex_locks.Inner.KeptLists.{locks_in}
use Rattle.scope_locks.specs.declared.vertex_locks.lists.LockList.{LockList}
use Rattle.scope_locks.specs.vertex_locks.Tables.{is_owned, holder_at, lock_or, no_lock, queue_at}

-- nobody claims this lock
abbrev pub IsFree : LockView → Type 0
IsFree l = (l.holders ≡ []) × (l.queue ≡ [])

-- no two vertices have the same lock
abbrev pub ArePlacesApart : List ℕ → ℕ → Type 0
ArePlacesApart places count = (x y : ℕ) → x < length places → y < length places → slice_index places x < count → slice_index places x ≡ slice_index places y → x ≡ y

-- the vertices that are listed have locks, and each whose lock would be granted is listed
pub record ListsGrantable (table : List (Option LockView)) (listed : List Bool) : Type 0 where
  pub owned : (x : ℕ) → is_flagged listed x ≡ true → is_owned table x ≡ true
  pub waits : (x : ℕ) (c : Claim) → IsNext (holder_at table x) (queue_at table x) c → is_flagged listed x ≡ true

-- no two vertices have the same lock, and the list of vertices has a place for each
pub record IsTable (places : List ℕ) (locks : List LockView) (flags : List Bool) : Type 0 where
  pub apart : ArePlacesApart places (length locks)
  pub many : length flags ≡ length places
  pub listed : ListsGrantable (table_of places locks) flags

-- how many locks of the table somebody claims
abbrev pub count_claimed : List (Option LockView) → ℕ
count_claimed table = sum_by (λ o. claimed_once (lock_or o)) table

-- such a table, of whose locks so many are claimed; no more are kept than there are, and the free one is free
pub record IsCountedTable (places : List ℕ) (locks : LockList) (flags : List Bool) (claimed : ℕ) : Type 0 where
  pub table : IsTable places (locks_in locks) flags
  pub counted : claimed ≡ count_claimed (table_of places (locks_in locks))
  pub few : length locks.kept.items ≤ locks.many
  pub free : locks.free ≡ no_lock

-- x is listed where somebody waits, and else the list stays
abbrev pub IsListedAgain : List Claim → List Bool → ℕ → List Bool → Type 0
IsListedAgain queue flags x new = new ≡ (if nat_lt 0 (length queue) then slice_set flags x true else flags)

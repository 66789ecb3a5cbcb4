-- Locks by place, of which the last aren't kept.
use Rattle.std.specs.Prelude.{◌-◌, ◌++◌, ℕ, List, length, replicate}
use Rattle.scope_locks.specs.declared.vertex_locks.lists.LockList.{LockList}
use Rattle.scope_locks.specs.vertex_locks.Locks.{LockView}
use Rattle.scope_locks.specs.vertex_locks.Tables.{no_lock}

-- so many locks: those that are kept, and behind them free ones
abbrev pub all_locks : List LockView → ℕ → List LockView
all_locks kept many = kept ++ replicate (many - length kept) no_lock

abbrev pub locks_in : LockList → List LockView
locks_in l = all_locks l.kept.items l.many

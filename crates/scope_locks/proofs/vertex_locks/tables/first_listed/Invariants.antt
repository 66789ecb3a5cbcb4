use Rattle.scope_locks.specs.vertex_locks.Inner.KeptTables.{IsTable}
use Rattle.scope_locks.specs.vertex_locks.Inner.KeptLists.{locks_in}
use Rattle.scope_locks.proofs.vertex_locks.ListedLemmas.{count_listed}
use Rattle.scope_locks.proofs.vertex_locks.tables.first_listed.Given as goal

abbrev pub invariant-loop-x : goal.invariant-loop-x
invariant-loop-x l = IsTable l.places (locks_in l.locks) l.listed

abbrev pub decreases-loop-x : goal.decreases-loop-x
decreases-loop-x l = count_listed l.listed

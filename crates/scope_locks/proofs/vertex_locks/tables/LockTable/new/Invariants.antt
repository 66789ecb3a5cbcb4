use Rattle.scope_locks.proofs.vertex_locks.MakingLemmas.{AreSet}
use Rattle.scope_locks.proofs.vertex_locks.tables.LockTable.new.Given as goal

abbrev pub invariant-loop-place : goal.invariant-loop-place
invariant-loop-place l = AreSet l.owned l.count l.place l.places.items

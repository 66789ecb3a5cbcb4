use Rattle.std.proofs.Common.{◌-◌, subst}
use Rattle.scope_locks.specs.vertex_locks.Locks.{LockView, mode_of, WritesAlone, WaitOnce}
use Rattle.scope_locks.proofs.vertex_locks.LockLemmas.{exclusive, wait_once, next_here}
use Rattle.scope_locks.proofs.vertex_locks.locks.Lock.next.Goals as goal

pub returns-clause-none : goal.returns-clause-none
returns-clause-none c = λ is next is_next. c.first_waiting.ensures.none is next
    (rw c.deref.ensures.value (next_here c.self.inside.claims.items c.self.inside.held (c.self.inside.claims.cap - c.self.inside.claims.len) c.args.self.now next c.self.view_is is_next))

pub returns-clause-exclusion : goal.returns-clause-exclusion
returns-clause-exclusion c = subst (λ (v : LockView). WritesAlone (mode_of v.holders)) c.self.view_is (exclusive c.self.inside.claims.items c.self.inside.held c.self.invariant)

pub returns-clause-once : goal.returns-clause-once
returns-clause-once c = subst (λ (v : LockView). WaitOnce (mode_of v.holders) v.queue) c.self.view_is (wait_once c.self.inside.claims.items c.self.inside.held c.self.invariant)

use Rattle.std.proofs.Common.{◌+◌, ◌-◌, subst}
use Rattle.scope_locks.specs.vertex_locks.Inner.KeptLocks.{IsTaken}
use Rattle.scope_locks.specs.vertex_locks.Locks.{LockView, view_of}
use Rattle.scope_locks.proofs.vertex_locks.LockLemmas.{grant_keeps, grant_shows, next_here}
use Rattle.scope_locks.proofs.vertex_locks.locks.Lock.grant.Goals as goal

pub returns-in_err-claim-clause-none : goal.returns-in_err-claim-clause-none
returns-in_err-claim-clause-none c = λ _. c.next.ensures.none c.in_err-claim.was

pub invariant_of-self : goal.invariant_of-self
invariant_of-self c =
    let next = next_here c.self.inside.claims.items c.self.inside.held (c.self.inside.claims.cap - c.self.inside.claims.len) c.args.self.now c.in_ok-claim.claim c.self.view_is c.in_ok-claim.ensures.next in
    grant_keeps c.self.inside.claims.items c.self.inside.held c.in_ok-claim.claim c.self.invariant next

pub returns-clause-taken : goal.returns-clause-taken
returns-clause-taken c =
    let next = next_here c.self.inside.claims.items c.self.inside.held (c.self.inside.claims.cap - c.self.inside.claims.len) c.args.self.now c.in_ok-claim.claim c.self.view_is c.in_ok-claim.ensures.next in
    let shows = grant_shows c.self.inside.claims.items c.self.inside.held (c.self.inside.claims.cap - c.self.inside.claims.len) c.in_ok-claim.claim c.self.invariant next in
    subst (λ (v : LockView). IsTaken v (view_of c.self.inside.claims.items (c.self.inside.held + 1) (c.self.inside.claims.cap - c.self.inside.claims.len)) c.in_ok-claim.claim) c.self.view_is shows

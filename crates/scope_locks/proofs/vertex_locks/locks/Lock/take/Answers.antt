use Rattle.std.proofs.Common.{◌≡◌, ◌≢◌, ◌==◌, ◌∙◌, length, sym, subst, arith}
use Rattle.std.proofs.lemmas.Bool.{eq-eqb, both_ways}
use Rattle.scope_locks.specs.vertex_locks.Locks.{LockView, mode_of, IsFreeLock}
use Rattle.scope_locks.proofs.vertex_locks.LockLemmas.{some_there}
use Rattle.scope_locks.proofs.vertex_locks.locks.Lock.take.Goals as goal

pub returns-then-not-is_empty-clause-claimed : goal.returns-then-not-is_empty-clause-claimed
returns-then-not-is_empty-clause-claimed c = λ is free.
    let claims = c.self.inside.claims in
    let long = claims.ok.0 in
    let many : length claims.items ≢ 0 = λ (none : length claims.items ≡ 0). both_ways (claims.len == 0) (sym c.is_empty.ensures ∙ c.if-not-is_empty.true) (eq-eqb claims.len 0 (omega arith)) in
    absurd (some_there claims.items c.self.inside.held c.self.invariant many (subst (λ (v : LockView). IsFreeLock (mode_of v.holders) v.queue) (sym c.self.view_is) free))

use Rattle.std.proofs.Common.{◌≡◌, ◌≢◌, ◌∙◌, length, ◌==◌, ap, subst, sym}
use Rattle.std.proofs.lemmas.Bool.{eqb-true, eq-eqb, both_ways}
use Rattle.scope_locks.specs.vertex_locks.Locks.{LockView, mode_of, IsFreeLock}
use Rattle.scope_locks.proofs.vertex_locks.LockLemmas.{none_there, some_there}
use Rattle.scope_locks.proofs.vertex_locks.locks.Lock.is_free.Goals as goal

pub returns-clause-free : goal.returns-clause-free
returns-clause-free c = λ is.
    let items = c.self.inside.claims.items in
    let long : length items ≡ 0 = ap length (sym c.deref.ensures.value) ∙ eqb-true (length c.deref.result.now) 0 (sym c.are_none.ensures ∙ is) in
    subst (λ (v : LockView). IsFreeLock (mode_of v.holders) v.queue) c.self.view_is (none_there items c.self.inside.held long)

pub returns-clause-claimed : goal.returns-clause-claimed
returns-clause-claimed c = λ is free.
    let items = c.self.inside.claims.items in
    let many : length items ≢ 0 = λ (none : length items ≡ 0). both_ways (length c.deref.result.now == 0) (sym c.are_none.ensures ∙ is) (eq-eqb (length c.deref.result.now) 0 (ap length c.deref.ensures.value ∙ none)) in
    some_there items c.self.inside.held c.self.invariant many (subst (λ (v : LockView). IsFreeLock (mode_of v.holders) v.queue) (sym c.self.view_is) free)

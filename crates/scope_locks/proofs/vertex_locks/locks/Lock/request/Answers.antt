use Rattle.std.proofs.Common.{◌≡◌, ◌∙◌, ap, false, take, drop}
use Rattle.scope_locks.specs.vertex_locks.Locks.{LockView, has}
use Rattle.scope_locks.proofs.vertex_locks.LockLemmas.{request_keeps}
use Rattle.scope_locks.proofs.vertex_locks.locks.Lock.request.Goals as goal

pub invariant_of-self : goal.invariant_of-self
invariant_of-self c =
    let claims = c.self.inside.claims.items in
    let held = c.self.inside.held in
    let s = c.args.claim.scope in
    let holds : has s (take held claims) ≡ false = ap (λ (v : LockView). has s v.holders) c.self.view_is ∙ c.requires.holds_not in
    let waits : has s (drop held claims) ≡ false = ap (λ (v : LockView). has s v.queue) c.self.view_is ∙ c.requires.waits_not in
    rw c.push_reserved.ensures.items (request_keeps claims held c.args.claim c.self.invariant holds waits)

use Rattle.std.proofs.Common.{◌≡◌, ◌+◌, ◌-◌, ◌∙◌, ℕ, length, take, sym, ap, arith}
use Rattle.scope_locks.proofs.vertex_locks.LockLemmas.{remove_last}
use Rattle.scope_locks.proofs.vertex_locks.locks.take_out.Goals as goal

pub returns-then-place-len-clause-items : goal.returns-then-place-len-clause-items
returns-then-place-len-clause-items c =
    let claims = c.args.claims.now in
    let long = claims.ok.0 in
    let last : c.args.place + 1 ≡ length claims.items = c.if-place-len.true ∙ c.len.ensures ∙ long in
    let before : claims.len - 1 ≡ c.args.place = omega (arith, last, long) in
    c.pop.ensures.rest ∙ ap (λ (n : ℕ). take n claims.items) before ∙ sym (remove_last claims.items c.args.place last)

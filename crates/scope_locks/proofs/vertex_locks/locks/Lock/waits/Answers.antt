use Rattle.std.proofs.Common.{◌≡◌, ◌∙◌, List, sym, ap, drop}
use Rattle.std.specs.List.{list_any}
use Rattle.gl_base.specs.declared.scopes.Claim.{Claim}
use Rattle.gl_base.specs.scope_lists.Scopes.{is_scope}
use Rattle.gl_base.proofs.scope_lists.FoundLemmas.{some_found}
use Rattle.scope_locks.specs.vertex_locks.Locks.{LockView, claimant, has}
use Rattle.scope_locks.proofs.vertex_locks.locks.Lock.waits.Goals as goal

pub returns : goal.returns
returns c =
    let s = c.args.scope in
    let held = c.self.inside.held in
    let queue : c.split_at.result.1.now ≡ drop held c.self.inside.claims.items = c.split_at.ensures.back ∙ ap (drop held) c.deref.ensures.value in
    c.is_among.ensures
    ∙ (ap (λ (claims : List Claim). list_any (λ (x : Claim). is_scope x.scope s) claims) queue
    ∙ (sym (some_found claimant (drop held c.self.inside.claims.items) s) ∙ ap (λ (v : LockView). has s v.queue) c.self.view_is))

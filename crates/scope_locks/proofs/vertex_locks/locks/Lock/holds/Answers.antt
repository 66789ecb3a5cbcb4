use Rattle.std.proofs.Common.{◌∙◌, List, sym, ap, take}
use Rattle.std.specs.List.{list_any}
use Rattle.gl_base.specs.declared.scopes.Claim.{Claim}
use Rattle.gl_base.specs.scope_lists.Scopes.{is_scope}
use Rattle.gl_base.proofs.scope_lists.FoundLemmas.{some_found}
use Rattle.scope_locks.specs.vertex_locks.Locks.{LockView, claimant, has}
use Rattle.scope_locks.proofs.vertex_locks.locks.Lock.holds.Goals as goal

pub returns : goal.returns
returns c =
    let s = c.args.scope in
    let held = c.self.inside.held in
    c.is_among.ensures
    ∙ (ap (λ (claims : List Claim). list_any (λ (x : Claim). is_scope x.scope s) (take held claims)) c.deref.ensures.value
    ∙ (sym (some_found claimant (take held c.self.inside.claims.items) s) ∙ ap (λ (v : LockView). has s v.holders) c.self.view_is))

use Rattle.std.proofs.Common.{◌≡◌, ◌+◌, ◌-◌, ◌∙◌, List, Some, None, sym, ap, subst, take, arith}
use Rattle.std.specs.List.{position}
use Rattle.gl_base.specs.declared.scopes.Claim.{Claim}
use Rattle.gl_base.specs.scope_lists.Found.{by_scope}
use Rattle.gl_base.specs.scope_lists.Scopes.{is_scope}
use Rattle.scope_locks.specs.vertex_locks.Inner.KeptLocks.{IsReleased}
use Rattle.scope_locks.specs.vertex_locks.Locks.{LockView, claimant, released, view_of}
use Rattle.scope_locks.proofs.vertex_locks.LockLemmas.{IsPlace, is_place, not_found, release_keeps, release_lists, release_shows, unheld_shows, unheld_lists}
use Rattle.scope_locks.proofs.vertex_locks.locks.Lock.release.Goals as goal
use Rattle.scope_locks.proofs.vertex_locks.locks.Lock.release.Goals.{In_default}

there : (c : goal.After-is_empty) → IsPlace c.self.inside.claims.items c.self.inside.held c.args.scope c.in-Some.place
there c =
    let claims = c.self.inside.claims.items in
    let held = c.self.inside.held in
    let s = c.args.scope in
    let at : position (λ (x : Claim). is_scope x.scope s) (take held claims) ≡ Some c.in-Some.place = sym (ap (λ (xs : List Claim). position (λ (x : Claim). is_scope x.scope s) (take held xs)) c.deref.ensures.value) ∙ (sym c.place_of.ensures ∙ c.in-Some.is) in
    is_place s claims held c.in-Some.place c.self.invariant at

pub invariant_of-self : goal.invariant_of-self
invariant_of-self c = rw c.take_out.ensures.items (release_keeps c.args.scope c.self.inside.claims.items c.self.inside.held c.in-Some.place c.self.invariant (there c))

more_room : (c : goal.After-is_empty) → (c.take_out.new.claims.cap - c.take_out.new.claims.len) ≡ (c.self.inside.claims.cap - c.self.inside.claims.len) + 1
more_room c =
    let old = c.self.inside.claims in
    let long = old.ok in
    let place = there c in
    let inside = place.inside in
    omega (arith, c.take_out.ensures.len, c.take_out.ensures.capacity)

pub returns-in-Some-clause-gone : goal.returns-in-Some-clause-gone
returns-in-Some-clause-gone c =
    let old = c.self.inside.claims in
    let new = c.take_out.new.claims in
    let shows = release_shows c.args.scope old.items c.self.inside.held c.in-Some.place (old.cap - old.len) (new.cap - new.len) c.self.invariant (there c) in
    let seen = rw (← c.take_out.ensures.items) at shows in
    subst (λ v. IsReleased v (view_of new.items (c.self.inside.held - 1) (new.cap - new.len)) c.args.scope) c.self.view_is seen

pub returns-in-Some-clause-exact : goal.returns-in-Some-clause-exact
returns-in-Some-clause-exact c =
    let old = c.self.inside.claims in
    let new = c.take_out.new.claims in
    ap (λ xs. view_of xs (c.self.inside.held - 1) (new.cap - new.len)) c.take_out.ensures.items
    ∙ release_lists c.args.scope old.items c.self.inside.held c.in-Some.place (old.cap - old.len) (new.cap - new.len) c.self.invariant (there c) (more_room c)
    ∙ ap (released c.args.scope) c.self.view_is

-- no holder is the scope
none : (c : In_default) → by_scope claimant c.args.self.now.holders c.args.scope ≡ None
none c =
    let claims = c.self.inside.claims.items in
    let held = c.self.inside.held in
    let s = c.args.scope in
    let at : position (λ (x : Claim). is_scope x.scope s) (take held claims) ≡ None = sym (ap (λ (xs : List Claim). position (λ (x : Claim). is_scope x.scope s) (take held xs)) c.deref.ensures.value) ∙ (sym c.place_of.ensures ∙ c.in_default.is) in
    ap (λ (v : LockView). by_scope claimant v.holders s) (sym c.self.view_is) ∙ not_found s (take held claims) at

pub returns-clause-gone : goal.returns-clause-gone
returns-clause-gone c = unheld_shows c.args.scope c.args.self.now (none c)

pub returns-clause-exact : goal.returns-clause-exact
returns-clause-exact c = unheld_lists c.args.scope c.args.self.now (none c)

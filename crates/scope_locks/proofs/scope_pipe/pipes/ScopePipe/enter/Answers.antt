use Rattle.std.proofs.Common.{◌≡◌, ◌∙◌, Some, None, List, sym, ap, subst}
use Rattle.gl_base.specs.scope_lists.Found.{by_scope}
use Rattle.scope_locks.specs.scope_pipe.Entered.{EnteredView, entered_scope, comes}
use Rattle.scope_locks.specs.scope_pipe.Pipes.{PipeView, entered_at, HasCome}
use Rattle.scope_locks.specs.contracts.scope_pipe.pipes.ScopePipe.{the_view}
use Rattle.std.proofs.Common.{[], ◌∷◌, ◌++◌}
use Rattle.gl_base.proofs.scope_lists.FoundLemmas.{found_pushed}
use Rattle.scope_locks.proofs.scope_pipe.EnteredLemmas.{entered_kept, comes_keeps}
use Rattle.scope_locks.proofs.scope_pipe.pipes.ScopePipe.enter.Goals as goal

pub invariant_of-self : goal.invariant_of-self
invariant_of-self c =
    let p = the_view c.self.inside in
    let e = comes c.args.scope c.args.centre c.args.part.items c.args.rest.items in
    let none : by_scope entered_scope p.entered c.args.scope ≡ None = ap (λ (q : PipeView). entered_at q c.args.scope) c.self.view_is ∙ c.requires.is_new in
    rw (c.push_reserved.ensures.items, c.push_reserved.ensures.capacity)
    (entered_kept p.serial p.width p.waiting p.ready p.entered (p.entered ++ e ∷ []) c.self.inside.waiting.cap c.self.inside.ready.cap c.self.inside.entered.cap c.self.invariant
    (comes_keeps p.entered c.args.scope c.args.centre c.args.part.items c.args.rest.items none (c.self.invariant.entered_apart, c.self.invariant.in_part)))

pub returns-clause-entered : goal.returns-clause-entered
returns-clause-entered c =
    let p = the_view c.self.inside in
    let e = comes c.args.scope c.args.centre c.args.part.items c.args.rest.items in
    let none : by_scope entered_scope p.entered c.args.scope ≡ None = ap (λ (q : PipeView). entered_at q c.args.scope) c.self.view_is ∙ c.requires.is_new in
    subst (λ (q : PipeView). HasCome q (record p { entered = c.push_reserved.new.self.items }) c.args.scope (Some e)) c.self.view_is
    (subst (λ (es : List EnteredView). HasCome p (record p { entered = es }) c.args.scope (Some e)) (sym c.push_reserved.ensures.items)
    (record { entered = found_pushed entered_scope p.entered e none }))

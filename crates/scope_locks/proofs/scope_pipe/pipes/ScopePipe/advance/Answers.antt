use Rattle.std.proofs.Common.{◌≡◌, ◌∙◌, Some, List, sym, ap, subst, slice_set}
use Rattle.gl_base.specs.scope_lists.Found.{by_scope, StandsAt}
use Rattle.scope_locks.specs.scope_pipe.Entered.{EnteredView, entered_scope, next_of, moved_on}
use Rattle.scope_locks.specs.scope_pipe.Pipes.{PipeView, entered_at, HasCome}
use Rattle.scope_locks.specs.contracts.scope_pipe.pipes.ScopePipe.{the_view}
use Rattle.scope_locks.proofs.scope_pipe.EnteredLemmas.{is_the_one, moved_at}
use Rattle.scope_locks.proofs.scope_pipe.pipes.ScopePipe.advance.Goals as goal

at : (c : goal.After-self-1) → StandsAt entered_scope c.self.inside.entered.items c.args.scope c.entered_place-place.result
at c = subst (λ (es : List EnteredView). StandsAt entered_scope es c.args.scope c.entered_place-place.result) c.deref.ensures.value c.entered_place-place.ensures

come : (c : goal.After-self-1) (e : EnteredView) → entered_at c.args.self.now c.args.scope ≡ Some e → by_scope entered_scope c.self.inside.entered.items c.args.scope ≡ Some e
come c e is = ap (λ (q : PipeView). entered_at q c.args.scope) c.self.view_is ∙ is

pub returns-clause-next : goal.returns-clause-next
returns-clause-next c = λ e is.
    let one = is_the_one c.self.inside.entered.items c.args.scope c.entered_place-place.result c.index_mut.result.now e c.self.invariant.entered_apart (at c) c.index_mut.ensures.value (come c e is) in
    c.advance.ensures.next ∙ ap next_of one

pub returns-clause-moved : goal.returns-clause-moved
returns-clause-moved c = λ e is.
    let p = the_view c.self.inside in
    let i = c.entered_place-place.result in
    let old = c.index_mut.result.now in
    subst (λ (q : PipeView). HasCome q (record p { entered = slice_set p.entered i c.advance.new.self }) c.args.scope (Some (moved_on e))) c.self.view_is
    (subst (λ (x : EnteredView). HasCome p (record p { entered = slice_set p.entered i x }) c.args.scope (Some (moved_on e))) (sym c.advance.ensures.moved)
    (record { entered = moved_at p.entered c.args.scope i old e c.self.invariant.entered_apart (at c) c.index_mut.ensures.value (come c e is) }))

use Rattle.std.proofs.Common.{◌≡◌, ◌∙◌, Some, List, ap, subst}
use Rattle.gl_base.specs.scope_lists.Found.{by_scope, StandsAt}
use Rattle.scope_locks.specs.scope_pipe.Entered.{EnteredView, entered_scope, next_of, moved_on}
use Rattle.scope_locks.specs.scope_pipe.Pipes.{PipeView, entered_at}
use Rattle.scope_locks.specs.contracts.scope_pipe.pipes.ScopePipe.{the_view}
use Rattle.scope_locks.proofs.scope_pipe.EnteredLemmas.{is_the_one}
use Rattle.scope_locks.proofs.scope_pipe.pipes.ScopePipe.look_ahead.Goals as goal

pub returns : goal.returns
returns c = λ e is.
    let p = the_view c.self.inside in
    let at : StandsAt entered_scope p.entered c.args.scope c.entered_place-place.result = subst (λ (es : List EnteredView). StandsAt entered_scope es c.args.scope c.entered_place-place.result) c.deref.ensures.value c.entered_place-place.ensures in
    let come : by_scope entered_scope p.entered c.args.scope ≡ Some e = ap (λ (q : PipeView). entered_at q c.args.scope) c.self.view_is ∙ is in
    let one = is_the_one p.entered c.args.scope c.entered_place-place.result c.index.result.now e c.self.invariant.entered_apart at c.index.ensures come in
    c.after_next.ensures ∙ ap (λ (x : EnteredView). next_of (moved_on x)) one

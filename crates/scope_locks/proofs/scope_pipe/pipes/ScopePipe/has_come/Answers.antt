use Rattle.std.proofs.Common.{◌∙◌, is_some, IfSome, List, sym, ap, subst}
use Rattle.gl_base.specs.scope_lists.Found.{by_scope, StandsAt}
use Rattle.gl_base.proofs.scope_lists.FoundLemmas.{place_found}
use Rattle.scope_locks.specs.scope_pipe.Entered.{EnteredView, entered_scope}
use Rattle.scope_locks.specs.scope_pipe.Pipes.{PipeView, entered_at}
use Rattle.scope_locks.proofs.scope_pipe.pipes.ScopePipe.has_come.Goals as goal

pub returns : goal.returns
returns c =
    let es = c.self.inside.entered.items in
    let there : IfSome c.find_entered.result (StandsAt entered_scope es c.args.scope) = subst (λ (xs : List EnteredView). IfSome c.find_entered.result (StandsAt entered_scope xs c.args.scope)) c.deref.ensures.value c.find_entered.ensures.there in
    c.is_some.ensures
    ∙ (place_found entered_scope es c.args.scope c.find_entered.result c.self.invariant.entered_apart there (λ none. sym (ap (λ (xs : List EnteredView). by_scope entered_scope xs c.args.scope) c.deref.ensures.value) ∙ c.find_entered.ensures.none none)
    ∙ ap (λ (q : PipeView). is_some (entered_at q c.args.scope)) c.self.view_is)

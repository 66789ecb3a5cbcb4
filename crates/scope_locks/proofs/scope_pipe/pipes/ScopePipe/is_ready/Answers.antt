use Rattle.std.proofs.Common.{◌∙◌, IfSome, List, sym, ap, subst}
use Rattle.gl_base.specs.scope_lists.Found.{by_scope, StandsAt}
use Rattle.gl_base.proofs.scope_lists.FoundLemmas.{place_found}
use Rattle.scope_locks.specs.declared.scope_pipe.flights.Flight.{Flight}
use Rattle.scope_locks.specs.scope_pipe.Pipes.{PipeView, flight_scope, is_ready}
use Rattle.scope_locks.proofs.scope_pipe.pipes.ScopePipe.is_ready.Goals as goal

pub returns : goal.returns
returns c =
    let fs = c.self.inside.ready.items in
    let there : IfSome c.flight_place.result (StandsAt flight_scope fs c.args.scope) = subst (λ (xs : List Flight). IfSome c.flight_place.result (StandsAt flight_scope xs c.args.scope)) c.deref.ensures.value c.flight_place.ensures.there in
    c.is_some.ensures
    ∙ (place_found flight_scope fs c.args.scope c.flight_place.result c.self.invariant.ready_apart there (λ none. sym (ap (λ (xs : List Flight). by_scope flight_scope xs c.args.scope) c.deref.ensures.value) ∙ c.flight_place.ensures.none none)
    ∙ ap (λ (q : PipeView). is_ready q c.args.scope) c.self.view_is)

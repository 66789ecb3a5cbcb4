use Rattle.std.proofs.Common.{◌≡◌, ◌∙◌, Some, None, List, sym, ap, subst}
use Rattle.gl_base.specs.scope_lists.Found.{by_scope, StandsAt}
use Rattle.scope_locks.specs.declared.scope_pipe.flights.Flight.{Flight}
use Rattle.scope_locks.specs.scope_pipe.Pipes.{PipeView, flight_scope, flight_at}
use Rattle.scope_locks.specs.contracts.scope_pipe.pipes.ScopePipe.{the_view}
use Rattle.scope_locks.proofs.scope_pipe.FlightLemmas.{at_waiting, at_ready}
use Rattle.scope_locks.proofs.scope_pipe.pipes.ScopePipe.centre.Goals as goal

pub returns-in-Some : goal.returns-in-Some
returns-in-Some c =
    let p = the_view c.self.inside in
    let at : StandsAt flight_scope p.waiting c.args.scope c.in-Some.place = subst (λ (fs : List Flight). StandsAt flight_scope fs c.args.scope c.in-Some.place) c.deref.ensures.value c.in-Some.ensures.there in
    subst (λ (q : PipeView). flight_at q c.args.scope ≡ Some c.index.result.now.centre) c.self.view_is
    (at_waiting p c.args.scope c.in-Some.place c.index.result.now c.self.invariant.waiting_apart at c.index.ensures)

pub returns-in-None : goal.returns-in-None
returns-in-None c =
    let p = the_view c.self.inside in
    let i = c.ready_place.result in
    let at : StandsAt flight_scope p.ready c.args.scope i = subst (λ (fs : List Flight). StandsAt flight_scope fs c.args.scope i) c.deref-in-None.ensures.value c.ready_place.ensures in
    let none : by_scope flight_scope p.waiting c.args.scope ≡ None = sym (ap (λ (fs : List Flight). by_scope flight_scope fs c.args.scope) c.deref.ensures.value) ∙ c.flight_place.ensures.none c.in-None.is in
    subst (λ (q : PipeView). flight_at q c.args.scope ≡ Some c.index-in-None.result.now.centre) c.self.view_is
    (at_ready p c.args.scope i c.index-in-None.result.now c.self.invariant.ready_apart none at c.index-in-None.ensures)

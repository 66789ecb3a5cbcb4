use Rattle.std.proofs.Common.{◌≡◌, ◌∙◌, None, List, sym, ap, subst}
use Rattle.gl_base.specs.scope_lists.Found.{by_scope, StandsAt}
use Rattle.scope_locks.specs.declared.scope_pipe.flights.Flight.{Flight}
use Rattle.scope_locks.specs.scope_pipe.Pipes.{PipeView, flight_scope, HasFinished, without_flight}
use Rattle.scope_locks.specs.contracts.scope_pipe.pipes.ScopePipe.{the_view}
use Rattle.scope_locks.proofs.scope_pipe.FlightLemmas.{finish_waiting_keeps, finish_ready_keeps, has_finished_waiting, has_finished_ready, lists_waiting, lists_ready}
use Rattle.scope_locks.proofs.scope_pipe.pipes.ScopePipe.finish.Goals as goal

at_waits : (c : goal.After-take_flight) → StandsAt flight_scope c.self.inside.waiting.items c.args.scope c.in-Some.place
at_waits c = subst (λ (fs : List Flight). StandsAt flight_scope fs c.args.scope c.in-Some.place) c.deref.ensures.value c.in-Some.ensures.there

at_ready : (c : goal.After-take_flight-in-None) → StandsAt flight_scope c.self.inside.ready.items c.args.scope c.ready_place-place.result
at_ready c = subst (λ (fs : List Flight). StandsAt flight_scope fs c.args.scope c.ready_place-place.result) c.deref-in-None.ensures.value c.ready_place-place.ensures

pub invariant_of-self : goal.invariant_of-self
invariant_of-self c =
    rw (c.take_flight.ensures.items, c.take_flight.ensures.room)
    (finish_waiting_keeps (the_view c.self.inside) c.args.scope c.in-Some.place c.take_flight.result c.self.inside.waiting.cap c.self.inside.ready.cap c.self.inside.entered.cap c.self.invariant (at_waits c))

pub invariant_of-self-in-None : goal.invariant_of-self-in-None
invariant_of-self-in-None c =
    rw (c.take_flight-in-None.ensures.items, c.take_flight-in-None.ensures.room)
    (finish_ready_keeps (the_view c.self.inside) c.args.scope c.ready_place-place.result c.take_flight-in-None.result c.self.inside.waiting.cap c.self.inside.ready.cap c.self.inside.entered.cap c.self.invariant (at_ready c))

pub returns-in-Some-clause-finished : goal.returns-in-Some-clause-finished
returns-in-Some-clause-finished c =
    let p = the_view c.self.inside in
    subst (λ (q : PipeView). HasFinished q (record p { waiting = c.take_flight.new.flights.items }) c.args.scope) c.self.view_is
    (subst (λ (fs : List Flight). HasFinished p (record p { waiting = fs }) c.args.scope) (sym c.take_flight.ensures.items)
    (has_finished_waiting p c.args.scope c.in-Some.place c.take_flight.result c.self.inside.waiting.cap c.self.inside.ready.cap c.self.inside.entered.cap c.self.invariant (at_waits c)))

pub returns-in-None-clause-finished : goal.returns-in-None-clause-finished
returns-in-None-clause-finished c =
    let p = the_view c.self.inside in
    let none : by_scope flight_scope p.waiting c.args.scope ≡ None = sym (ap (λ (fs : List Flight). by_scope flight_scope fs c.args.scope) c.deref.ensures.value) ∙ c.flight_place.ensures.none c.in-None.is in
    subst (λ (q : PipeView). HasFinished q (record p { ready = c.take_flight-in-None.new.flights.items }) c.args.scope) c.self.view_is
    (subst (λ (fs : List Flight). HasFinished p (record p { ready = fs }) c.args.scope) (sym c.take_flight-in-None.ensures.items)
    (has_finished_ready p c.args.scope c.ready_place-place.result c.take_flight-in-None.result c.self.inside.waiting.cap c.self.inside.ready.cap c.self.inside.entered.cap c.self.invariant (at_ready c) none))

pub returns-in-Some-clause-exact : goal.returns-in-Some-clause-exact
returns-in-Some-clause-exact c =
    let p = the_view c.self.inside in
    let s = c.args.scope in
    ap (λ (fs : List Flight). record p { waiting = fs }) c.take_flight.ensures.items
    ∙ lists_waiting p s c.in-Some.place c.take_flight.result c.self.inside.waiting.cap c.self.inside.ready.cap c.self.inside.entered.cap c.self.invariant (at_waits c)
    ∙ ap (λ (q : PipeView). record q { waiting = without_flight s q.waiting; ready = without_flight s q.ready }) c.self.view_is

pub returns-in-None-clause-exact : goal.returns-in-None-clause-exact
returns-in-None-clause-exact c =
    let p = the_view c.self.inside in
    let s = c.args.scope in
    let none : by_scope flight_scope p.waiting s ≡ None = sym (ap (λ (fs : List Flight). by_scope flight_scope fs s) c.deref.ensures.value) ∙ c.flight_place.ensures.none c.in-None.is in
    ap (λ (fs : List Flight). record p { ready = fs }) c.take_flight-in-None.ensures.items
    ∙ lists_ready p s c.ready_place-place.result c.take_flight-in-None.result c.self.inside.waiting.cap c.self.inside.ready.cap c.self.inside.entered.cap c.self.invariant (at_ready c) none
    ∙ ap (λ (q : PipeView). record q { waiting = without_flight s q.waiting; ready = without_flight s q.ready }) c.self.view_is

use Rattle.std.proofs.Common.{◌≡◌, ◌∙◌, false, List, sym, ap, subst}
use Rattle.std.specs.List.{swap_remove}
use Rattle.gl_base.specs.scope_lists.Found.{StandsAt}
use Rattle.scope_locks.specs.declared.scope_pipe.flights.Flight.{Flight}
use Rattle.scope_locks.specs.scope_pipe.Pipes.{PipeView, flight_scope, is_ready, HasReadied}
use Rattle.scope_locks.specs.contracts.scope_pipe.pipes.ScopePipe.{the_view}
use Rattle.scope_locks.proofs.scope_pipe.FlightLemmas.{ready_keeps, has_readied}
use Rattle.scope_locks.proofs.scope_pipe.pipes.ScopePipe.ready.Goals as goal

at_waits : (c : goal.After-push_reserved) → StandsAt flight_scope c.self.inside.waiting.items c.args.scope c.in-Some.place
at_waits c = subst (λ (fs : List Flight). StandsAt flight_scope fs c.args.scope c.in-Some.place) c.deref.ensures.value c.in-Some.ensures.there

not_ready : (c : goal.After-push_reserved) → is_ready (the_view c.self.inside) c.args.scope ≡ false
not_ready c = ap (λ (q : PipeView). is_ready q c.args.scope) c.self.view_is ∙ c.requires.waits

pub invariant_of-self : goal.invariant_of-self
invariant_of-self c =
    rw (c.take_flight-flight.ensures.items, c.take_flight-flight.ensures.room, c.push_reserved.ensures.items, c.push_reserved.ensures.capacity)
    (ready_keeps (the_view c.self.inside) c.args.scope c.in-Some.place c.take_flight-flight.result c.self.inside.waiting.cap c.self.inside.ready.cap c.self.inside.entered.cap c.self.invariant (at_waits c) c.take_flight-flight.ensures.value (not_ready c))

pub returns-in-Some-clause-ready : goal.returns-in-Some-clause-ready
returns-in-Some-clause-ready c =
    let p = the_view c.self.inside in
    subst (λ (q : PipeView). HasReadied q (record p { waiting = c.take_flight-flight.new.flights.items; ready = c.push_reserved.new.self.items }) c.args.scope) c.self.view_is
    (subst (λ (fs : List Flight). HasReadied p (record p { waiting = fs; ready = c.push_reserved.new.self.items }) c.args.scope) (sym c.take_flight-flight.ensures.items)
    (subst (λ (fs : List Flight). HasReadied p (record p { waiting = swap_remove p.waiting c.in-Some.place c.take_flight-flight.result; ready = fs }) c.args.scope) (sym c.push_reserved.ensures.items)
    (has_readied p c.args.scope c.in-Some.place c.take_flight-flight.result c.self.inside.waiting.cap c.self.inside.ready.cap c.self.inside.entered.cap c.self.invariant (at_waits c) c.take_flight-flight.ensures.value (not_ready c))))

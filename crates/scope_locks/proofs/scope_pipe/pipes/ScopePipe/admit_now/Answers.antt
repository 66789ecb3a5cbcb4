use Rattle.std.proofs.Common.{◌≡◌, ◌+◌, ◌<◌, None, List, sym, subst}
use Rattle.scope_locks.specs.declared.scope_pipe.flights.Flight.{Flight}
use Rattle.scope_locks.specs.scope_pipe.Pipes.{PipeView, flight_at, flight_count, next_id, HasAdmitted}
use Rattle.scope_locks.specs.contracts.scope_pipe.pipes.ScopePipe.{the_view}
use Rattle.scope_locks.proofs.scope_pipe.FlightLemmas.{admit_keeps, is_new, has_admitted}
use Rattle.scope_locks.proofs.scope_pipe.pipes.ScopePipe.admit_now.Goals as goal

pub invariant_of-self : goal.invariant_of-self
invariant_of-self c =
    let p = the_view c.self.inside in
    let room : flight_count p < p.width = subst (λ (q : PipeView). flight_count q < q.width) (sym c.self.view_is) c.requires.room in
    rw (c.push_reserved.ensures.items, c.push_reserved.ensures.capacity)
    (admit_keeps p c.args.v c.self.inside.waiting.cap c.self.inside.ready.cap c.self.inside.entered.cap c.self.invariant room)

pub returns-clause-is_new : goal.returns-clause-is_new
returns-clause-is_new c = subst (λ (q : PipeView). flight_at q (next_id q) ≡ None) c.self.view_is (is_new (the_view c.self.inside) c.self.invariant.waiting_given c.self.invariant.ready_given)

pub returns-clause-admitted : goal.returns-clause-admitted
returns-clause-admitted c =
    let p = the_view c.self.inside in
    subst (λ (q : PipeView). HasAdmitted q (record p { serial = p.serial + 1; waiting = c.push_reserved.new.self.items }) c.args.v) c.self.view_is
    (subst (λ (flights : List Flight). HasAdmitted p (record p { serial = p.serial + 1; waiting = flights }) c.args.v) (sym c.push_reserved.ensures.items)
    (has_admitted p c.args.v c.self.invariant.waiting_given))

-- Each of the ready ones was looked at.
use Rattle.std.proofs.Common.{List, get_or, sym, ap, ◌∙◌}
use Rattle.std.specs.Prelude.{is_some}
use Rattle.gl_base.specs.scope_lists.Found.{by_scope}
use Rattle.scope_locks.specs.declared.scope_pipe.flights.Flight.{Flight}
use Rattle.scope_locks.specs.scope_pipe.Pipes.{flight_scope}
use Rattle.machine_core.proofs.machine_turns.NextLemmas.{is_found, none_at_all}
use Rattle.machine_core.proofs.machine_turns.waiting.next_ready.Goals as goal

abbrev no_flight : Flight
no_flight = record { scope = record { home = record { 0 = 0 }; serial = 0 }; centre = record { 0 = 0 } }

pub may_update-requires : goal.may_update-requires
may_update-requires c =
    let ready = c.ready_ones-ready.result.now in
    let s = (get_or ready c.loop-place.place no_flight).scope in
    ap (λ (fs : List Flight). is_some (by_scope flight_scope fs s)) (sym c.ready_ones-ready.ensures) ∙ is_found ready c.loop-place.place no_flight c.loop-place-test.true

pub returns-clause-none : goal.returns-clause-none
returns-clause-none c = none_at_all c.args.core.now c.ready_ones-ready.result.now c.loop-place.place c.ready_ones-ready.ensures c.loop-place-test.false c.loop-place.invariant

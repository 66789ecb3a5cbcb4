-- All go back.
use Rattle.std.specs.Prelude.{option_map}
use Rattle.coordinator.specs.coord_core.Stores.{store_view}
use Rattle.engine_runs.proofs.rollback.Keepings.{known_back, known_failed, lost_read}
use Rattle.engine_runs.specs.rollback.Returning.{IsAnyMachineOf}
use Rattle.engine_runs.proofs.rollback.unstored.go_back_to_start.Goals as goal

pub recover-requires-clause-many : goal.recover-requires-clause-many
recover-requires-clause-many g c = c.in_ok-next.ensures.many

pub returns-clause-back : goal.returns-clause-back
returns-clause-back g c = λ runs header order st o of run known some.
    let meaning = g.P.Program.meaning in
    let old = c.args.trace.now in
    let mid = c.fail_reached.new.trace in
    let new = c.recover.new.self in
    let failures = c.in_ok-fail_reached.ensures.same.failures in
    let lost = c.args.lost.now.items in
    let stored = c.args.restarts.now.stored.items in
    let front = c.args.restarts.now.front.items in
    let fails = c.in_ok-fail_reached.ensures.failed st o known.was.events known.was.cluster known.was.now in
    let after = known_failed (IsAnyMachineOf meaning) old mid failures header _ _ lost stored front order st o known runs some fails in
    let next = lost_read meaning mid header _ _ c.deref.result.now lost c.in_ok-next.next.lost.items stored front c.in_ok-next.next.front.items order c.in_ok-next.next.order.items st o c.in_ok-next.next.machines.items c.args.placed.now.places.now.run.engine
    (option_map store_view c.in_ok-next.next.store) c.deref.ensures.value (c.in_ok-next.ensures.back header order st o of run) after.0 after.1 in
    known_back meaning mid new c.in_default.ensures.same.1 header _ _ lost c.in_ok-next.next.lost.items stored front c.in_ok-next.next.front.items order c.in_ok-next.next.order.items st o
    c.in_ok-next.next.machines.items c.args.placed.now.places.now.run.engine (option_map store_view c.in_ok-next.next.store) after.0 next c.in_default.ensures.recovered

-- All go back.
use Rattle.std.proofs.Common.{◌<◌, length, subst, sym}
use Rattle.std.specs.Prelude.{option_map}
use Rattle.coordinator.specs.coord_core.Stores.{store_view}
use Rattle.store.specs.snap_journal.Journals.{snapshots_in}
use Rattle.engine_runs.proofs.rollback.Failings.{fewer, on_err}
use Rattle.engine_runs.proofs.rollback.Keepings.{known_back, known_failed, lost_read}
use Rattle.engine_runs.specs.rollback.Failing.{HaveFailedSince, InEachTrace}
use Rattle.engine_runs.specs.rollback.Returning.{IsAnyMachineOf}
use Rattle.engine_runs.proofs.rollback.going.go_back.Goals as goal

pub returns-in_err-next-clause-failed : goal.returns-in_err-next-clause-failed
returns-in_err-next-clause-failed g c =
    let some : InEachTrace (IsAnyMachineOf g.P.Program.meaning) c.args.trace.now (HaveFailedSince (IsAnyMachineOf g.P.Program.meaning) c.fail_reached.new.trace (λ a. ⊥)) =
    λ st o events x is. fewer (IsAnyMachineOf g.P.Program.meaning) c.fail_reached.new.trace (λ a. a < length c.args.trace.now.now.machines.items) (λ a. ⊥) (λ a none. absurd none) st o events x (c.in_ok-fail_reached.ensures.failed st o events x is) in
    on_err _ some

pub recover-requires-clause-many : goal.recover-requires-clause-many
recover-requires-clause-many g c = c.in_ok-next.ensures.many

pub returns-in-Err-clause-failed : goal.returns-in-Err-clause-failed
returns-in-Err-clause-failed g c =
    let some : InEachTrace (IsAnyMachineOf g.P.Program.meaning) c.args.trace.now (HaveFailedSince (IsAnyMachineOf g.P.Program.meaning) c.fail_reached.new.trace (λ a. ⊥)) =
    λ st o events x is. fewer (IsAnyMachineOf g.P.Program.meaning) c.fail_reached.new.trace (λ a. a < length c.args.trace.now.now.machines.items) (λ a. ⊥) (λ a none. absurd none) st o events x (c.in_ok-fail_reached.ensures.failed st o events x is) in
    subst (λ v. InEachTrace (IsAnyMachineOf g.P.Program.meaning) c.args.trace.now (HaveFailedSince (IsAnyMachineOf g.P.Program.meaning) v (λ a. ⊥))) (sym c.in-Err.ensures.unchanged) some

pub returns-clause-back : goal.returns-clause-back
returns-clause-back g c = λ told runs start order st o run known some.
    let meaning = g.P.Program.meaning in
    let header = c.args.journal.now.header in
    let bodies = snapshots_in g.D.Disk.past c.args.journal.now in
    let old = c.args.trace.now in
    let mid = c.fail_reached.new.trace in
    let new = c.recover.new.self in
    let failures = c.in_ok-fail_reached.ensures.same.failures in
    let lost = c.args.lost.now.items in
    let stored = c.args.restarts.now.stored.items in
    let front = c.args.restarts.now.front.items in
    let fails = c.in_ok-fail_reached.ensures.failed st o known.was.events known.was.cluster known.was.now in
    let after = known_failed (IsAnyMachineOf meaning) old mid failures header start bodies lost stored front order st o known runs some fails in
    let next = lost_read meaning mid header start bodies c.deref.result.now lost c.in_ok-next.next.lost.items stored front c.in_ok-next.next.front.items order c.in_ok-next.next.order.items st o c.in_ok-next.next.machines.items c.args.placed.now.places.now.run.engine
    (option_map store_view c.in_ok-next.next.store) c.deref.ensures.value (c.in_ok-next.ensures.back told start order st o run) after.0 after.1 in
    known_back meaning mid new c.in_default.ensures.same.1 header start bodies lost c.in_ok-next.next.lost.items stored front c.in_ok-next.next.front.items order c.in_ok-next.next.order.items st o
    c.in_ok-next.next.machines.items c.args.placed.now.places.now.run.engine (option_map store_view c.in_ok-next.next.store) after.0 next c.in_default.ensures.recovered

-- The next attempt goes on from what the store has.
use Rattle.std.proofs.Common.{◌≡◌, ◌+◌, ◌++◌, ◌<◌, ◌^◌, ◌∙◌, List, Option, filter, subst, sym, ℕ}
use Rattle.std.specs.Prelude.{option_map}
use Rattle.gl_base.specs.declared.entries.Entry.{Entry}
use Rattle.cluster_laws.specs.cluster_runs.Recorded.{shared_of}
use Rattle.coordinator.specs.coord_core.Stores.{store_view}
use Rattle.coordinator.specs.declared.coord_core.stores.Store.{Store}
use Rattle.engine_runs.proofs.attempt_machines.BeginLemmas.{viewed, where_taken}
use Rattle.store.specs.snap_journal.Journals.{snapshots_in}
use Rattle.engine_runs.proofs.rollback.Attempts.{goes_so}
use Rattle.engine_runs.proofs.rollback.Refusals.{is_full, no_place}
use Rattle.engine_runs.proofs.rollback.Restarted.{begins_kept}
use Rattle.engine_runs.specs.rollback.Returning.{BaseView, Begins, Cluster, RestartsFrom, IsBaseBehind, IsAnyMachineOf, Setting, StartsSaving, StoreView, is_restart, restarts}
use Rattle.engine_runs.proofs.rollback.next_attempts.next_attempt.Goals as goal

pub missing_restarts-requires : goal.missing_restarts-requires
missing_restarts-requires g c =
    begins_kept c.deref.result.now c.deref-2.result.now
    (subst (λ (es : List Entry). Begins es c.deref-2.result.now) (sym c.deref.ensures.value) (subst (λ (es : List Entry). Begins c.args.restarts.now.stored.items es) (sym c.deref-2.ensures.value) c.requires.first))

pub returns-in-Err-store_behind-clause-refused : goal.returns-in-Err-store_behind-clause-refused
returns-in-Err-store_behind-clause-refused g c =
    is_full _ _ _ _ _ _ c.in-Ok.base.number c.args.trace.now.now.coordinator.saving.store_end _ c.in-Err-store_behind.ensures.full.0
    (no_place (IsAnyMachineOf g.P.Program.meaning) c.args.trace.now c.in_ok-failures.failures c.in_ok-failures.ensures c.in-Err-store_behind.ensures.full.1) c.in-Ok.ensures.well.0 c.in-Ok.ensures.well.1

pub returns-clause-start : goal.returns-clause-start
returns-clause-start g c =
    let made = c.in-Ok-attempt_from.ensures in
    let store = c.in-Ok-store_behind.ensures in
    let view = store_view c.in-Ok-store_behind.store in
    subst
    (λ (s : Option StoreView).
    (st : Setting) × (base : BaseView) × (before : Cluster) × StartsSaving (IsAnyMachineOf g.P.Program.meaning) c.in-Ok-attempt_from.next.machines.items c.args.placed.now.places.now.run.engine s c.args.trace.now.now.next c.args.trace.now.now.left st base before)
    (sym (viewed c.args.placed.now.places.now.run.window c.in-Ok-attempt_from.next.store c.in-Ok-store_behind.store (made.store ∙ c.store_where.ensures)))
    (made.start view store.vertices store.edges store.newest)

pub returns-clause-newest : goal.returns-clause-newest
returns-clause-newest g c =
    where_taken (λ (s : Store). s.newest + 1 < 2 ^ 32) c.args.placed.now.places.now.run.window c.in-Ok-attempt_from.next.store c.in-Ok-store_behind.store (c.in-Ok-attempt_from.ensures.store ∙ c.store_where.ensures)
    (subst (λ (n : ℕ). n + 1 < 2 ^ 32) (sym c.in-Ok-store_behind.ensures.newest) c.in-Ok.ensures.number)

pub returns-clause-short : goal.returns-clause-short
returns-clause-short g c =
    where_taken (λ (s : Store). s.length < 2 ^ 32) c.args.placed.now.places.now.run.window c.in-Ok-attempt_from.next.store c.in-Ok-store_behind.store (c.in-Ok-attempt_from.ensures.store ∙ c.store_where.ensures)
    c.in-Ok-store_behind.ensures.short

pub returns-clause-back : goal.returns-clause-back
returns-clause-back g c = λ told start order st o runs known has.
    let meaning = g.P.Program.meaning in
    let header = c.args.journal.now.header in
    let bodies = snapshots_in g.D.Disk.past c.args.journal.now in
    let failures = c.in_ok-failures.failures in
    let missing = c.in_ok-missing.missing.items in
    let shared = shared_of st c.args.trace.now.failures in
    let lacks : filter is_restart c.args.restarts.now.stored.items ++ missing ≡ filter is_restart c.args.restarts.now.front.items ++ restarts failures c.next.result =
    subst (λ (es : List Entry). filter is_restart es ++ missing ≡ filter is_restart c.args.restarts.now.front.items ++ restarts failures c.next.result) c.deref.ensures.value
    (subst (λ (es : List Entry). filter is_restart c.deref.result.now ++ missing ≡ filter is_restart es ++ restarts failures c.next.result) c.deref-2.ensures.value c.in_ok-missing.ensures.lacks) in
    let behind : IsBaseBehind shared header bodies missing c.in-Ok.base =
    subst (λ (es : List Entry). IsBaseBehind shared header bodies es c.in-Ok.base) c.deref-3.ensures.value (c.in-Ok.ensures.base told shared runs.placed.graph runs.program_is known.was.keeps.good) in
    let next = c.in-Ok-attempt_from.next in
    let made = c.in-Ok-attempt_from.ensures in
    let room = c.in-Ok-store_behind.ensures in
    let places = c.args.placed.now.places.now in
    let view = store_view c.in-Ok-store_behind.store in
    let lost = made.lost in
    subst (λ (es : List Entry). RestartsFrom meaning c.args.trace.now next.machines.items places.run.engine (option_map store_view next.store) es c.args.lost.now next.lost.items c.args.restarts.now.front.items next.front.items st o known.was.events known.was.cluster) (sym made.order)
    (subst (λ (s : Option StoreView). RestartsFrom meaning c.args.trace.now next.machines.items places.run.engine s c.in-Ok.base.order.items c.args.lost.now next.lost.items c.args.restarts.now.front.items next.front.items st o known.was.events known.was.cluster)
    (sym (viewed places.run.window next.store c.in-Ok-store_behind.store (made.store ∙ c.store_where.ensures)))
    (goes_so meaning c.args.placed.now.graph.now (meaning c.args.placed.now.program) places c.args.trace.now header start bodies c.args.lost.now c.args.restarts.now.stored.items c.args.restarts.now.front.items order st o runs known has failures c.next.result
    (c.in_ok-failures.ensures st o known.was.events known.was.cluster known.was.now) (c.next.ensures st o known.was.events known.was.cluster known.was.now) missing c.in_ok-missing.ensures.alone lacks c.in-Ok.base behind next.machines.items
    (λ to. made.stand st o known.was.events known.was.cluster known.was.now to) view room.vertices room.edges room.newest room.place
    next.front.items next.lost.items lost.0 made.front lost.1 (λ to. lost.2 st o known.was.events known.was.cluster known.was.now to)))

-- The next attempt goes on from the start.
use Rattle.std.proofs.Common.{◌≡◌, ◌*◌, ◌+◌, ◌++◌, ◌<◌, ◌^◌, ◌∙◌, List, [], Option, ap, filter, length, refl, subst, sym, ℕ}
use Rattle.std.specs.Prelude.{IfSome, option_map}
use Rattle.cluster_laws.specs.cluster_runs.Recorded.{shared_of}
use Rattle.coordinator.specs.coord_core.Stores.{store_view}
use Rattle.engine_runs.proofs.rollback.Attempts.{goes_so}
use Rattle.engine_runs.specs.attempt_machines.Beginning.{if_taken}
use Rattle.graph_core.specs.DataGraph.{DataGraph, size}
use Rattle.gl_base.specs.declared.snapshots.Base.{Base}
use Rattle.coordinator.specs.declared.coord_core.stores.Store.{Store}
use Rattle.engine_runs.proofs.rollback.Restarted.{begins_kept}
use Rattle.engine_runs.specs.rollback.Returning.{BaseView, Begins, Cluster, RestartsFrom, IsAnyMachineOf, IsBaseBehind, Setting, StartsSaving, StoreView, is_restart, restarts}
use Rattle.engine_runs.specs.unstored.Inner.Going.{AreRestartsAlone}
use Rattle.gl_base.specs.declared.entries.Entry.{Entry}
use Rattle.engine_runs.proofs.rollback.unstored.attempt_at_start.Goals as goal

-- a store of the base, which nobody has
abbrev no_store : DataGraph → Base → ℕ → StoreView
no_store g base long = record { vertices = size g; edges = length g.edges; newest = base.number; store_end = long }

pub missing_restarts-requires : goal.missing_restarts-requires
missing_restarts-requires g c =
    begins_kept c.deref.result.now c.deref-2.result.now (subst (λ (es : List Entry). Begins es c.deref-2.result.now) (sym (c.deref.ensures.value ∙ c.requires.stored)) (c.deref-2.result.now, refl))

pub returns-clause-start : goal.returns-clause-start
returns-clause-start g c =
    let made = c.in-Ok-attempt_from.ensures in
    let graph = c.args.placed.now.graph.now in
    let places = c.args.placed.now.places.now in
    subst
    (λ (s : Option StoreView).
    (st : Setting) × (base : BaseView) × (before : Cluster) × StartsSaving (IsAnyMachineOf g.P.Program.meaning) c.in-Ok-attempt_from.next.machines.items places.run.engine s c.args.trace.now.now.next c.args.trace.now.now.left st base before)
    (ap (λ (w : Option ℕ). if_taken w (no_store graph c.in-Ok.base 0)) c.requires.window ∙ sym (ap (option_map store_view) made.store))
    (made.start (no_store graph c.in-Ok.base 0) refl refl refl)

pub returns-clause-newest : goal.returns-clause-newest
returns-clause-newest g c = subst (λ (s : Option Store). IfSome s (λ x. x.newest + 1 < 2 ^ 32)) (sym c.in-Ok-attempt_from.ensures.store) tt

pub returns-clause-short : goal.returns-clause-short
returns-clause-short g c = subst (λ (s : Option Store). IfSome s (λ x. x.length < 2 ^ 32)) (sym c.in-Ok-attempt_from.ensures.store) tt

pub returns-clause-alone : goal.returns-clause-alone
returns-clause-alone g c =
    subst AreRestartsAlone (sym (c.in-Ok-attempt_from.ensures.order ∙ c.in-Ok.ensures.order ∙ c.deref-3.ensures.value)) c.in_ok-missing.ensures.alone

pub returns-clause-back : goal.returns-clause-back
returns-clause-back g c = λ header order st o of runs known has.
    let meaning = g.P.Program.meaning in
    let trace = c.args.trace.now in
    let lost_now = c.args.lost.now in
    let stored = c.args.restarts.now.stored.items in
    let front = c.args.restarts.now.front.items in
    let failures = c.in_ok-failures.failures in
    let missing = c.in_ok-missing.missing.items in
    let shared = shared_of st trace.failures in
    let lacks : filter is_restart stored ++ missing ≡ filter is_restart front ++ restarts failures c.next.result =
    subst (λ (es : List Entry). filter is_restart es ++ missing ≡ filter is_restart front ++ restarts failures c.next.result) c.deref.ensures.value
    (subst (λ (es : List Entry). filter is_restart c.deref.result.now ++ missing ≡ filter is_restart es ++ restarts failures c.next.result) c.deref-2.ensures.value c.in_ok-missing.ensures.lacks) in
    let behind : IsBaseBehind shared header [] missing c.in-Ok.base =
    subst (λ (es : List Entry). IsBaseBehind shared header [] es c.in-Ok.base) c.deref-3.ensures.value (c.in-Ok.ensures.base header shared runs.placed.graph runs.program_is of) in
    let next = c.in-Ok-attempt_from.next in
    let made = c.in-Ok-attempt_from.ensures in
    let lost = made.lost in
    let places = c.args.placed.now.places.now in
    let graph = c.args.placed.now.graph.now in
    let nothing = no_store graph c.in-Ok.base (trace.now.coordinator.saving.store_end + 16 * failures) in
    let failures_are = c.in_ok-failures.ensures st o known.was.events known.was.cluster known.was.now in
    subst (λ (es : List Entry). RestartsFrom meaning trace next.machines.items places.run.engine (option_map store_view next.store) es lost_now next.lost.items front next.front.items st o known.was.events known.was.cluster) (sym made.order)
    (subst (λ (s : Option StoreView). RestartsFrom meaning trace next.machines.items places.run.engine s c.in-Ok.base.order.items lost_now next.lost.items front next.front.items st o known.was.events known.was.cluster)
    (ap (λ (w : Option ℕ). if_taken w nothing) c.requires.window ∙ sym (ap (option_map store_view) made.store))
    (goes_so meaning graph (meaning c.args.placed.now.program) places trace header [] [] lost_now stored front order st o runs known has failures c.next.result
    failures_are (c.next.ensures st o known.was.events known.was.cluster known.was.now) missing c.in_ok-missing.ensures.alone lacks c.in-Ok.base behind next.machines.items
    (λ to. made.stand st o known.was.events known.was.cluster known.was.now to) nothing refl refl refl refl
    next.front.items next.lost.items lost.0 made.front lost.1 (λ to. lost.2 st o known.was.events known.was.cluster known.was.now to)))

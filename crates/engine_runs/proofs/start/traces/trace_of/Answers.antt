-- The machines that were made begin an attempt, and the call where it can open.
use Rattle.std.proofs.Common.{List, Option, subst, sym, ℕ, ◌+◌, ◌<◌, ◌^◌, ◌∙◌}
use Rattle.cluster_laws.specs.cluster_core.Recovering.{going_on}
use Rattle.cluster_laws.specs.cluster_model.Events.{recovers}
use Rattle.gl_base.specs.declared.jobs.FailureAt.{FailureAt}
use Rattle.cluster_step.proofs.trace.Going.{opens_call}
use Rattle.cluster_step.specs.clusters.Clusters.{BaseView, Cluster, IsSavingClusterOf, StartsSaving, StoreView}
use Rattle.cluster_step.specs.trace.Traces.{OpensCall}
use Rattle.engine_runs.proofs.attempt_machines.BeginLemmas.{viewed, where_taken}
use Rattle.engine_runs.proofs.start.TraceLemmas.{opens_so, starts_call, starts_some}
use Rattle.engine_runs.specs.attempt_machines.Beginning.{if_taken}
use Rattle.engine_runs.specs.start.Inner.Openings.{base_with}
use Rattle.engine_runs.specs.start.Starting.{IsAnyMachineOf, Setting, opening_from, placed_owner}
use Rattle.coordinator.specs.coord_core.Stores.{store_view}
use Rattle.coordinator.specs.declared.coord_core.stores.Store.{Store}
use Rattle.placed_machines.proofs.LawLemmas.{attempt_begins}
use Rattle.placement.proofs.places.OwnerLemmas.{owner_low}
use Rattle.engine_runs.proofs.start.traces.trace_of.Goals as goal

pub new-requires-clause-start : goal.new-requires-clause-start
new-requires-clause-start g c =
    let meaning = g.P.Program.meaning in
    let graph = c.args.placed.now.graph.now in
    let places = c.args.placed.now.places.now in
    let run = places.run in
    let colours = places.colours.items in
    let owner = placed_owner places.of.items places.owner.items in
    let store = c.store_of-store.result in
    subst
    (λ (s : Option StoreView).
    (st : Setting) × (view : BaseView) × (before : Cluster) × StartsSaving (IsAnyMachineOf meaning) c.in_ok-machines.machines.items run.engine s c.args.opening.now.next c.tickets_from-left.result st view before)
    (sym (viewed run.window c.store_where.result store c.store_where.ensures))
    (starts_some meaning graph (meaning c.args.placed.now.program) owner colours run c.args.opening.now.base c.deref.result.now store c.store_of-store.ensures.store c.in_ok-machines.machines.items c.in_ok-machines.ensures.stand
    c.args.opening.now.next c.tickets_from-left.result
    (attempt_begins graph (meaning c.args.placed.now.program) owner colours run c.args.opening.now.base c.deref.result.now c.args.opening.now.next c.tickets_from-left.result store.length c.store_of-store.ensures.graph
    (owner_low graph run.machines places.of.items places.owner.items c.requires.places.each c.requires.places.atoms c.requires.places.owners) c.requires.places.colours c.requires.base))

pub new-requires-clause-newest : goal.new-requires-clause-newest
new-requires-clause-newest g c =
    where_taken (λ (s : Store). s.newest + 1 < 2 ^ 32) c.args.placed.now.places.now.run.window c.store_where.result c.store_of-store.result c.store_where.ensures
    (subst (λ (n : ℕ). n + 1 < 2 ^ 32) (sym c.store_of-store.ensures.store.newest) c.requires.number)

pub new-requires-clause-length : goal.new-requires-clause-length
new-requires-clause-length g c =
    where_taken (λ (s : Store). s.length < 2 ^ 32) c.args.placed.now.places.now.run.window c.store_where.result c.store_of-store.result c.store_where.ensures
    (subst (λ (n : ℕ). n < 2 ^ 32) (sym c.store_of-store.ensures.store.length_is) c.requires.short)

pub returns-clause-opened : goal.returns-clause-opened
returns-clause-opened g c = λ st resumed kept runs can.
    let meaning = g.P.Program.meaning in
    let graph = c.args.placed.now.graph.now in
    let program = meaning c.args.placed.now.program in
    let places = c.args.placed.now.places.now in
    let run = places.run in
    let owner = placed_owner places.of.items places.owner.items in
    let store = c.store_of-store.result in
    let base = c.args.opening.now.base in
    let made = c.in_ok-trace.ensures in
    let failures = c.args.failures.now in
    let opening = opening_from st resumed (base_with kept base) c.args.budget in
    let starts = starts_call meaning graph program owner places.colours.items run base c.deref.result.now store c.store_of-store.ensures.store c.in_ok-machines.machines.items c.in_ok-machines.ensures.stand
    run.machines (c.deref.ensures.value ∙ c.in_ok-serials.ensures.items_if_clones_equal (λ y is. is)) st failures resumed kept c.args.opening.now.next c.tickets_from-left.result c.args.budget runs can c.tickets_from-left.ensures.all in
    let taken : Option StoreView = if_taken run.window (store_view store) in
    let began = subst (λ (s : Option StoreView). (st : Setting) (view : BaseView) (before : Cluster) →
    StartsSaving (IsAnyMachineOf meaning) c.in_ok-machines.machines.items run.engine s c.args.opening.now.next c.tickets_from-left.result st view before →
    IsSavingClusterOf (IsAnyMachineOf meaning) (going_on st view.numbers view.number) c.in_ok-cluster.cluster (recovers st view before))
    (viewed run.window c.store_where.result store c.store_where.ensures) c.in_ok-cluster.ensures.began in
    let opens = opens_call (IsAnyMachineOf meaning) c.in_ok-machines.machines.items run.engine taken c.args.opening.now.next c.tickets_from-left.result c.in_ok-cluster.cluster began failures st opening starts in
    opens_so meaning c.in_ok-trace.trace st failures resumed (base_with kept base) c.args.budget
    (subst (λ p. OpensCall (IsAnyMachineOf meaning) p c.in_ok-trace.trace.failures st opening) (sym made.start)
    (subst (λ (fs : List FailureAt). OpensCall (IsAnyMachineOf meaning) c.in_ok-cluster.cluster fs st opening) (sym (made.failures ∙ c.in_ok-listed.ensures.items)) opens))
    (λ o opened. made.begun st o opened)

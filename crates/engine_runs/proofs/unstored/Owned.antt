-- A run without a store, by whatever owners the placement gives.
use Rattle.std.proofs.Common.{◌≡◌, ℕ, ◌<◌, ◌≤◌, ◌+◌, ◌*◌, ◌∙◌, ◌⊎◌, Bool, List, [], ◌∷◌, ap, arith, false, inl, inr, length, refl, subst, subst₂, sym}
use Rattle.call_laws.proofs.call_budgets.Stretches.{made_fewer}
use Rattle.call_laws.specs.attempts.EngineCalls.{made_of}
use Rattle.cluster_step.proofs.trace.Calling.{makes_call}
use Rattle.engine_runs.proofs.Owners.{HasOwner, with_owner}
use Rattle.engine_runs.proofs.unstored.Again.{first_in}
use Rattle.engine_runs.specs.Calls.{AreSnapLines, Cluster, TraceView, AnyMachine, PauseGives}
use Rattle.engine_runs.specs.Runs.{ArePlacedFor, BoundsSteps, HasTraceOf, IsEndAt, IsPlacement, IsRunBy, RunLists, Shared, lists_of, owned_shared}
use Rattle.engine_runs.specs.answers.Unstored.{HasRestartsFirst, IsUnstoredRun}
use Rattle.engine_runs.specs.declared.answers.runs.StoredEnd.{StoredEnd}
use Rattle.engine_runs.specs.declared.answers.runs.StoredEnd.TheVariants as end
use Rattle.engine_runs.specs.declared.answers.runs.MachinePlan.{MachinePlan}
use Rattle.engine_runs.specs.declared.answers.runs.StoredRun.{StoredRun}
use Rattle.engine_runs.specs.unstored.Inner.Going.{AreRestartsAlone, CallOpening, EndsCallUnstored, GivesUnstored, GoesOnUnstored, HasBegunUnstored, Header, IsAnyMachineOf, IsHeaderOf, IsKnownAt, IsRunAt, Setting, StoredCall}
use Rattle.gl_base.specs.declared.jobs.FailureAt.{FailureAt}
use Rattle.gl_base.specs.declared.numbers.Vertex.{Vertex}
use Rattle.graph_atoms.specs.declared.atom_gather.cuts.Cut.{Cut}
use Rattle.graph_core.specs.DataGraph.{DataGraph, IsDataGraph, size}
use Rattle.cluster_laws.specs.cluster_runs.Recorded.{shared_of}
use Rattle.placed_machines.specs.Beginning.{placed_owner}
use Rattle.placed_machines.specs.declared.placing.Places.{Places}
use Rattle.store.specs.declared.snap_journal.faults.JournalFault.{JournalFault}
use Rattle.store.specs.declared.snap_journal.faults.JournalFault.TheVariants as fault
use Rattle.store.specs.declared.store_format.faults.StoreFault.{StoreFault}
use Rattle.update_api.specs.Updates.{Update}

-- ---- the ends

-- as the pause of a call whose end is not saved gives it
gives_so : {P : Type 0} (meaning : P → Update) (v : TraceView (AnyMachine P)) (st : Setting) (o : CallOpening) (c : Cluster) (how : StoredEnd) → GivesUnstored meaning v st c how → PauseGives false meaning v [] st o c how
gives_so meaning v st o c end.Finished gives = inr (refl, gives)
gives_so meaning v st o c (end.Spent left) gives = gives
gives_so meaning v st o c (end.Full stored bytes) gives = absurd gives
gives_so meaning v st o c end.DiskFault gives = tt

-- ---- the run

module _ {P : Type 0} (meaning : P → Update) (g : DataGraph) (program : Update) (cut : Cut) (plan : MachinePlan) (failures : List FailureAt) (call later : StoredCall P) (how : StoredEnd)
    (graph : IsDataGraph g) (placed : ArePlacedFor g cut plan call.places)
    (one : (owner other : ℕ → ℕ) → IsPlacement g cut plan.run.machines owner → IsPlacement g cut plan.run.machines other → (v : ℕ) → v < size g → owner v ≡ other v)
    (begun : (header : Header) (st : Setting) → IsHeaderOf g header → header.machines ≡ plan.run.machines → IsRunAt g program call.places st → HasBegunUnstored meaning call header plan.run.budget st)
    (began : call.trace.failures ≡ failures) (goes : GoesOnUnstored meaning g program call later) (ends : EndsCallUnstored meaning later how) where
  -- beside a store for these machines and this graph, which nobody has
  abbrev header : Header
  header = record { machines = plan.run.machines; algorithm = 1; directed = 0; source = 0; n = size g; m = length g.edges; digest = record { 0 = [] } }

  pub has : (owner : ℕ → ℕ) → IsPlacement g cut plan.run.machines owner → HasOwner g program call.places owner failures
  has owner placement = with_owner g program cut plan call.places owner failures graph placed (one owner (placed_owner call.places.of.items call.places.owner.items) placement placed.placement)

  failures_later : later.trace.failures ≡ failures
  failures_later = goes.same.failures ∙ began

  module _ (owner : ℕ → ℕ) (placement : IsPlacement g cut plan.run.machines owner) where
    abbrev st : Setting
    st = (has owner placement).st

    pub starts : HasBegunUnstored meaning call header plan.run.budget st
    starts = begun header st (record { n = refl; m = refl }) refl (has owner placement).runs

    abbrev o : CallOpening
    o = starts.opening

    pub there : IsRunAt g program later.places st
    there = subst (λ (p : Places). IsRunAt g program p st) (sym goes.same.places) (has owner placement).runs

    known : IsKnownAt meaning later.trace later header [] [] st o
    known = goes.known header st o (has owner placement).runs starts.known

    gives : GivesUnstored meaning later.trace st known.was.cluster how
    gives = ends header st o known

    pub at : IsEndAt meaning later header [] [] st o how
    at = record {
      lines = subst (AreSnapLines (shared_of st later.trace.failures) 1 []) (sym goes.can.snapshots) tt;
      paused = later.trace;
      known = known;
      failures = refl;
      now = known.was.now;
      gives = subst (λ (saves : Bool). PauseGives saves meaning later.trace [] st o known.was.cluster how) (sym goes.can.saves) (gives_so meaning later.trace st o known.was.cluster how gives);
    }

    -- what it is
    pub run_owned : (run : StoredRun) →
        ((program : Update) (header : Header) (st : Setting) (o : CallOpening) → IsRunAt g program later.places st → (at : IsEndAt meaning later header [] [] st o how) → o.resumed ≡ false → GivesUnstored meaning at.paused st at.known.was.cluster how →
        HasRestartsFirst run.order.items → IsUnstoredRun (shared_of st failures) st.machines o.first.left run) →
        ((program : Update) (header : Header) (start added : List (List ℕ)) (st : Setting) (o : CallOpening) → IsRunAt g program later.places st → (at : IsEndAt meaning later header start added st o how) →
        HasTraceOf failures st o at.known.was.events at.known.was.cluster (lists_of run)) →
        IsUnstoredRun (owned_shared g program owner failures) plan.run.machines plan.run.budget run
    unfolding at
    run_owned run ran trace =
        let listed = trace program header [] [] st o there at in
        let again : HasRestartsFirst run.order.items =
        first_in st failures o.kept o.base o.first known.was.events known.was.cluster (lists_of run) o.resumed listed.0 listed.1 (subst AreRestartsAlone (sym known.base) goes.can.restarts) in
        subst (λ (s : Shared). IsUnstoredRun s plan.run.machines plan.run.budget run) (has owner placement).shared_is
        (subst₂ (λ (m b : ℕ). IsUnstoredRun (shared_of st failures) m b run) ((has owner placement).runs.placed.machines ∙ placed.are.many) starts.tickets
        (ran program header st o there at starts.resumed_is gives again))

    -- which machines ran
    pub run_by : (lists : RunLists) →
        ((program : Update) (header : Header) (start added : List (List ℕ)) (st : Setting) (o : CallOpening) → IsRunAt g program later.places st → (at : IsEndAt meaning later header start added st o how) →
        HasTraceOf failures st o at.known.was.events at.known.was.cluster lists) →
        IsRunBy g cut program plan failures lists
    unfolding at
    run_by lists trace = record {
      places = call.places;
      placed = placed;
      setting = st;
      runs = (has owner placement).runs;
      opening = o;
      events = known.was.events;
      cluster = known.was.cluster;
      trace = trace program header [] [] st o there at;
    }

    -- it spends no budget that is enough
    pub never_spent : (bound : ℕ) → BoundsSteps g program bound → (1 + length failures) * bound ≤ plan.run.budget → (left : Vertex) → how ≡ end.Spent left → ⊥
    never_spent bound steps enough left is =
        let spends : GivesUnstored meaning later.trace st known.was.cluster (end.Spent left) = subst (GivesUnstored meaning later.trace st known.was.cluster) is gives in
        let makes = makes_call (IsAnyMachineOf meaning) later.trace st o known.was.events known.was.cluster known.was.now in
        let spent = spends.0.1 st o known.was.events known.was.cluster known.was.now makes.0 makes.1 in
        let many : length later.trace.failures ≡ length failures = ap (length {A = FailureAt}) failures_later in
        let bounds : BoundsSteps st.graph st.program bound = subst₂ (λ (k : DataGraph) (p : Update). BoundsSteps k p bound) (sym (has owner placement).runs.placed.graph) (sym (has owner placement).runs.program_is) steps in
        less (length (made_of makes.0)) o.first.left plan.run.budget ((1 + length failures) * bound) ((1 + length later.trace.failures) * bound) spent.0 starts.tickets enough (ap (λ (n : ℕ). (1 + n) * bound) many)
        (made_fewer (shared_of st later.trace.failures) bound bounds makes.0 makes.1.is.is spent.1.0 spent.1.2)
      where
        less : (made left budget bounded other : ℕ) → made ≡ left → left ≡ budget → bounded ≤ budget → other ≡ bounded → made < other → ⊥
        less made left budget bounded other is left_is enough same few = omega arith

    -- only memory may be wanting as its lists are gathered
    pub only_memory : (why : JournalFault) (other : StoreFault) →
        (why ≡ fault.NoMemory) ⊎ ((why ≡ fault.BadStore other) × ((program : Update) (header : Header) (start added : List (List ℕ)) (st : Setting) (o : CallOpening) → IsRunAt g program later.places st → IsEndAt meaning later header start added st o how → ⊥)) →
        why ≡ fault.NoMemory
    only_memory why other (inl none) = none
    only_memory why other (inr unlike) = absurd (unlike.1 program header [] [] st o there at)

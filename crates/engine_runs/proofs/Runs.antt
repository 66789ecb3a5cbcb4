-- A run with a store, from its beginning to its end.
use Rattle.std.proofs.Common.{◌≡◌, ◌≤◌, ◌<◌, ◌^◌, ◌*◌, ◌+◌, ◌/◌, ◌++◌, ◌∙◌, ◌⊎◌, ℕ, subst₂, Bool, Err, IfErr, IfOk, List, Ok, Result, ap, false, inl, inr, length, refl, subst, sym, true, true≢false, arith}
use Rattle.graph_atoms.specs.declared.atom_gather.cuts.Cut.{Cut}
use Rattle.gl_base.specs.declared.entries.Entry.{Entry}
use Rattle.gl_base.specs.declared.jobs.FailureAt.{FailureAt}
use Rattle.gl_base.specs.declared.numbers.Vertex.{Vertex}
use Rattle.call_laws.specs.attempts.EngineCalls.{made_of}
use Rattle.call_laws.proofs.call_budgets.Stretches.{made_fewer}
use Rattle.cluster_step.proofs.trace.Calling.{makes_call}
use Rattle.cluster_laws.specs.cluster_model.Working.{half_window}
use Rattle.recovery.specs.Journals.{records_size}
use Rattle.engine_runs.proofs.Sizes.{never_needs}
use Rattle.graph_core.specs.DataGraph.{DataGraph, IsDataGraph, size}
use Rattle.placed_machines.specs.Beginning.{placed_owner}
use Rattle.placed_machines.specs.declared.placing.Places.{Places}
use Rattle.store.specs.snap_journal.Disks.{Rose}
use Rattle.store.specs.declared.snap_journal.faults.JournalFault.{JournalFault}
use Rattle.store.specs.declared.snap_journal.faults.JournalFault.TheVariants as fault
use Rattle.store.specs.declared.store_format.faults.StoreFault.{StoreFault}
use Rattle.engine_runs.specs.declared.answers.runs.StoredEnd.{StoredEnd}
use Rattle.engine_runs.specs.declared.answers.runs.StoredEnd.TheVariants as end
use Rattle.engine_runs.specs.declared.answers.runs.StoredPlan.{StoredPlan}
use Rattle.engine_runs.specs.declared.answers.runs.StoredRun.{StoredRun}
use Rattle.placed_machines.proofs.RunLemmas.{stored_with}
use Rattle.engine_runs.proofs.Owners.{HasOwner, end_at, kept_good, run_named, with_owner}
use Rattle.engine_runs.specs.Calls.{CallOpening, DiskPast, EndsBy, EndsCall, Header, IsCallAt, IsCallEnded, IsAnyMachineOf, IsNotRefused, IsRunAt, StoppedRunErrorCause, JournalState, KeepsCall, KeepsToBounds, Setting, orders_behind, shared_of, snapshots_in, stored_order}
use Rattle.engine_runs.specs.Runs.{ArePlacedFor, BoundsSteps, HasCallBegun, HasTraceOf, HasRoomForRun, half_of, IsEndAt, IsFinishedOrNoMemory, IsGoodStore, IsPlacement, IsRunBy, IsRunSo, IsStoredRun, RunErrorCause, BeginErrorCause, KeepsByOwner, KeepsGood, RunLists, Shared, machine_plan, owned_shared}
use Rattle.engine_runs.specs.declared.calls.StoredCall.{StoredCall}
use Rattle.update_api.specs.Updates.{Update}

module _ {D P : Type 0} (meaning : P → Update) (past : D → DiskPast) (g : DataGraph) (program : Update) (cut : Cut) (plan : StoredPlan) (failures : List FailureAt) (journal mid after : JournalState D) (call later : StoredCall P) (resumed : Bool)
    (graph : IsDataGraph g) (placed : ArePlacedFor g cut (machine_plan plan) call.places)
    (one : (owner other : ℕ → ℕ) → IsPlacement g cut plan.run.machines owner → IsPlacement g cut plan.run.machines other → (v : ℕ) → v < size g → owner v ≡ other v)
    (begun : (st : Setting) → IsRunAt g program call.places st → IsGoodStore (shared_of st failures) journal.header (snapshots_in past journal) → HasCallBegun meaning past call journal mid resumed plan.run.budget st)
    (same : later.trace.failures ≡ failures) (header : after.header ≡ journal.header) where
  abbrev bodies : List (List ℕ)
  bodies = snapshots_in past journal

  has : (owner : ℕ → ℕ) → IsPlacement g cut plan.run.machines owner → HasOwner g program call.places owner failures
  has owner placement = with_owner g program cut (machine_plan plan) call.places owner failures graph placed (one owner (placed_owner call.places.of.items call.places.owner.items) placement placed.placement)

  abbrev starts : (owner : ℕ → ℕ) (placement : IsPlacement g cut plan.run.machines owner) → IsGoodStore (owned_shared g program owner failures) journal.header bodies → HasCallBegun meaning past call journal mid resumed plan.run.budget (has owner placement).st
  starts owner placement good =
      begun (has owner placement).st (has owner placement).runs (subst (λ (s : Shared). IsGoodStore s journal.header bodies) (sym (has owner placement).shared_is) good)

  -- snapshots are taken, with the plan's window
  windowed : (owner : ℕ → ℕ) (placement : IsPlacement g cut plan.run.machines owner) → ((has owner placement).st.stored ≡ true) × ((has owner placement).st.window ≡ plan.window)
  windowed owner placement = stored_with (has owner placement).st plan.window ((has owner placement).runs.window ∙ placed.window)

  shared_later : (owner : ℕ → ℕ) (placement : IsPlacement g cut plan.run.machines owner) → shared_of (has owner placement).st later.trace.failures ≡ owned_shared g program owner failures
  shared_later owner placement = ap (λ (fs : List FailureAt). shared_of (has owner placement).st fs) same ∙ (has owner placement).shared_is

  -- what crashes leave, wherever it stopped
  pub keeps_owner : KeepsCall meaning past g program call mid later after → KeepsByOwner past g program cut plan.run.machines failures journal after
  keeps_owner keeps owner placement good =
      let start : HasCallBegun meaning past call journal mid resumed plan.run.budget (has owner placement).st = starts owner placement good in
      let at : IsCallAt meaning past later after bodies (past journal.disk) (has owner placement).st start.opening = keeps bodies (past journal.disk) (has owner placement).st start.opening (has owner placement).runs start.at in (
        orders_behind (stored_order bodies) at.added,
        kept_good meaning past later after bodies (past journal.disk) (has owner placement).st start.opening (owned_shared g program owner failures) journal.header (shared_later owner placement) header at,
      )

  -- what the run is, and what crashes leave, where it has ended
  pub runs_owner : (how : StoredEnd) (run : StoredRun) (count : ℕ) → EndsCall meaning past g program call mid later after how → later.places ≡ call.places → length bodies ≡ count → later.saves_end ≡ plan.saves_end →
      ((program : Update) (header : Header) (start added : List (List ℕ)) (st : Setting) (o : CallOpening) → IsRunAt g program later.places st → IsEndAt meaning later header start added st o how → st.stored ≡ true → IsRunSo later.saves_end st failures o start added run) →
      (owner : ℕ → ℕ) → IsPlacement g cut plan.run.machines owner → IsGoodStore (owned_shared g program owner failures) journal.header bodies →
      (snapshots : List (List Entry)) × IsStoredRun plan.saves_end (owned_shared g program owner failures) plan.run.machines plan.window plan.run.budget count (stored_order bodies) resumed snapshots run
      × KeepsGood (owned_shared g program owner failures) journal.header bodies snapshots (past journal.disk) (past after.disk)
  runs_owner how run count ends places counted saves gathered owner placement good =
      let start : HasCallBegun meaning past call journal mid resumed plan.run.budget (has owner placement).st = starts owner placement good in
      let e : IsCallEnded meaning past later after bodies (past journal.disk) (has owner placement).st start.opening how = ends bodies (past journal.disk) (has owner placement).st start.opening (has owner placement).runs start.at in
      let there : IsRunAt g program later.places (has owner placement).st = subst (λ (p : Places). IsRunAt g program p (has owner placement).st) (sym places) (has owner placement).runs in (
        orders_behind (stored_order bodies) e.at.added,
        run_named plan.saves_end (has owner placement).st failures start.opening bodies e.at.added run (owned_shared g program owner failures) plan.run.machines plan.window plan.run.budget count resumed (has owner placement).shared_is
            ((has owner placement).runs.placed.machines ∙ placed.are.many) (windowed owner placement).1 start.tickets counted start.resumed_is
            (subst (λ (b : Bool). IsRunSo b (has owner placement).st failures start.opening bodies e.at.added run) saves
            (gathered program after.header bodies e.at.added (has owner placement).st start.opening there (end_at meaning past later after bodies (past journal.disk) (has owner placement).st start.opening how e) e.at.taken)),
        kept_good meaning past later after bodies (past journal.disk) (has owner placement).st start.opening (owned_shared g program owner failures) journal.header (shared_later owner placement) header e.at,
      )

  -- which machines ran
  pub run_by : (how : StoredEnd) (lists : RunLists) → EndsCall meaning past g program call mid later after how → later.places ≡ call.places →
      ((program : Update) (header : Header) (start added : List (List ℕ)) (st : Setting) (o : CallOpening) → IsRunAt g program later.places st → (at : IsEndAt meaning later header start added st o how) →
      HasTraceOf failures st o at.known.was.events at.known.was.cluster lists) →
      (owner : ℕ → ℕ) → IsPlacement g cut plan.run.machines owner → IsGoodStore (owned_shared g program owner failures) journal.header bodies → IsRunBy g cut program (machine_plan plan) failures lists
  run_by how lists ends places gathered owner placement good =
      let start : HasCallBegun meaning past call journal mid resumed plan.run.budget (has owner placement).st = starts owner placement good in
      let e : IsCallEnded meaning past later after bodies (past journal.disk) (has owner placement).st start.opening how = ends bodies (past journal.disk) (has owner placement).st start.opening (has owner placement).runs start.at in
      let there : IsRunAt g program later.places (has owner placement).st = subst (λ (p : Places). IsRunAt g program p (has owner placement).st) (sym places) (has owner placement).runs in
      let at : IsEndAt meaning later after.header bodies e.at.added (has owner placement).st start.opening how = end_at meaning past later after bodies (past journal.disk) (has owner placement).st start.opening how e in
      record {
        places = call.places;
        placed = placed;
        setting = (has owner placement).st;
        runs = (has owner placement).runs;
        opening = start.opening;
        events = at.known.was.events;
        cluster = at.known.was.cluster;
        trace = gathered program after.header bodies e.at.added (has owner placement).st start.opening there at;
      }

  -- ---- how it doesn't end

  module _ (stays : later.places ≡ call.places) (owner : ℕ → ℕ) (placement : IsPlacement g cut plan.run.machines owner) (good : IsGoodStore (owned_shared g program owner failures) journal.header bodies) where
    abbrev st : Setting
    st = (has owner placement).st

    abbrev o : CallOpening
    o = (starts owner placement good).opening

    ended : (how : StoredEnd) → EndsCall meaning past g program call mid later after how → IsCallEnded meaning past later after bodies (past journal.disk) st o how
    ended how ends = ends bodies (past journal.disk) st o (has owner placement).runs (starts owner placement good).at

    spends_less : (bound : ℕ) → BoundsSteps g program bound → (1 + length failures) * bound ≤ plan.run.budget → (left : Vertex) → IsCallEnded meaning past later after bodies (past journal.disk) st o (end.Spent left) → ⊥
    spends_less bound steps enough left e =
        let makes = makes_call (IsAnyMachineOf meaning) e.paused st o e.known.was.events e.known.was.cluster e.known.was.now in
        let spent = e.gives.0.1 st o e.known.was.events e.known.was.cluster e.known.was.now makes.0 makes.1 in
        let many : length e.paused.failures ≡ length failures = ap (length {A = FailureAt}) (e.failures ∙ same) in
        let there : BoundsSteps st.graph st.program bound = subst₂ (λ (k : DataGraph) (p : Update). BoundsSteps k p bound) (sym (has owner placement).runs.placed.graph) (sym (has owner placement).runs.program_is) steps in
        less (length (made_of makes.0)) o.first.left plan.run.budget ((1 + length failures) * bound) ((1 + length e.paused.failures) * bound) spent.0 (starts owner placement good).tickets enough (ap (λ (n : ℕ). (1 + n) * bound) many)
        (made_fewer (shared_of st e.paused.failures) bound there makes.0 makes.1.is.is spent.1.0 spent.1.2)
      where
        less : (made left budget bounded other : ℕ) → made ≡ left → left ≡ budget → bounded ≤ budget → other ≡ bounded → made < other → ⊥
        less made left budget bounded other is left_is enough same few = omega arith

    pub never_spent : (how : StoredEnd) → EndsCall meaning past g program call mid later after how → (bound : ℕ) → BoundsSteps g program bound → (1 + length failures) * bound ≤ plan.run.budget → (left : Vertex) → how ≡ end.Spent left → ⊥
    never_spent how ends bound steps enough left is =
        spends_less bound steps enough left (subst (IsCallEnded meaning past later after bodies (past journal.disk) st o) is (ended how ends))

    needs_no_more : HasRoomForRun g plan (length failures) journal.count journal.length → journal.count ≡ length bodies → journal.length ≡ 65 + records_size bodies → later.trace.now.stopped ≡ false → after.failed ≡ false → (stored long : ℕ) →
        IsCallEnded meaning past later after bodies (past journal.disk) st o (end.Full stored long) → ⊥
    needs_no_more room counts lasts running well stored long e =
        let makes = makes_call (IsAnyMachineOf meaning) e.paused st o e.known.was.events e.known.was.cluster e.known.was.now in
        let half : half_of plan.window ≡ half_window st = ap half_of (sym (windowed owner placement).1) in
        let budget : plan.run.budget ≡ o.first.left = sym (starts owner placement good).tickets in
        let many : length failures ≡ length e.paused.failures = sym (ap (length {A = FailureAt}) (e.failures ∙ same)) in
        let machines : plan.run.machines ≡ st.machines = sym ((has owner placement).runs.placed.machines ∙ placed.are.many) in
        let graph_is : g ≡ st.graph = sym (has owner placement).runs.placed.graph in
        never_needs (IsAnyMachineOf meaning) e.paused after.header bodies (bodies ++ e.at.added) later.lost.items later.restarts.stored.items later.restarts.front.items later.order.items st o e.known (past after.disk).now.seen (e.at.stored well) makes.0 makes.1
        (subst (λ (h : ℕ). 0 < h) half room.half)
        (subst (λ (n : ℕ). n + (o.first.left / half_window st + 1) ≤ 4096) counts
        (subst₂ (λ (b h : ℕ). journal.count + (b / h + 1) ≤ 4096) budget half room.few))
        (subst (λ (n : ℕ). n + 16 * (o.first.left + length e.paused.failures + 1) + (o.first.left / half_window st + 1) * (17 + 8 * st.machines + 12 * size st.graph + 12 * length st.graph.edges) ≤ 2 ^ 30) lasts
        (subst₂ (λ (b h : ℕ). journal.length + 16 * (b + length e.paused.failures + 1) + (b / h + 1) * (17 + 8 * st.machines + 12 * size st.graph + 12 * length st.graph.edges) ≤ 2 ^ 30) budget half
        (subst₂ (λ (f m : ℕ). journal.length + 16 * (plan.run.budget + f + 1) + (plan.run.budget / half_of plan.window + 1) * (17 + 8 * m + 12 * size st.graph + 12 * length st.graph.edges) ≤ 2 ^ 30) many machines
        (subst (λ (k : DataGraph). journal.length + 16 * (plan.run.budget + length failures + 1) + (plan.run.budget / half_of plan.window + 1) * (17 + 8 * plan.run.machines + 12 * size k + 12 * length k.edges) ≤ 2 ^ 30) graph_is room.short))))
        (e.gives.3 e.known.was.events e.known.was.cluster e.known.was.now makes.0 makes.1 (e.now.code.stopped ∙ running))

    pub never_full_of : (how : StoredEnd) → EndsCall meaning past g program call mid later after how → HasRoomForRun g plan (length failures) journal.count journal.length → journal.count ≡ length bodies → journal.length ≡ 65 + records_size bodies → later.trace.now.stopped ≡ false →
        (before now : ℕ) → EndsBy after before now how → (stored long : ℕ) → how ≡ end.Full stored long → ⊥
    never_full_of how ends room counts lasts running before now by stored long is =
        needs_no_more room counts lasts running (subst (EndsBy after before now) is by).0 stored long (subst (IsCallEnded meaning past later after bodies (past journal.disk) st o) is (ended how ends))

  -- ---- why it is not refused

  module _ (budget_low : plan.run.budget ≤ 16777216) (machines_low : plan.run.machines < 65535) (failures_low : length failures ≤ 65536) (began : call.trace.failures ≡ failures) (long : mid.length ≡ journal.length) (short : journal.length ≤ 2 ^ 30)
      (owner : ℕ → ℕ) (placement : IsPlacement g cut plan.run.machines owner) (good : IsGoodStore (owned_shared g program owner failures) journal.header bodies) where
    bounded : KeepsToBounds call mid (has owner placement).st (starts owner placement good).opening
    bounded =
        record {
          tickets = below (starts owner placement good).opening.first.left plan.run.budget (starts owner placement good).tickets budget_low;
          failures = subst (λ (fs : List FailureAt). length fs ≤ 65536) (sym began) failures_low;
          machines = subst (λ (n : ℕ). n < 65535) (sym ((has owner placement).runs.placed.machines ∙ placed.are.many)) machines_low;
          bytes = subst (λ (n : ℕ). n ≤ 2 ^ 30) (sym long) short;
        }
      where
        below : (left budget : ℕ) → left ≡ budget → budget ≤ 16777216 → left < 33554432
        below left budget is low = omega arith

    -- as it goes on
    pub never_stopped : {T : Type 0} (r : Result T JournalFault) → ((st : Setting) → IsRunAt g program call.places st → IsNotRefused meaning past call mid st r) → (bad : StoreFault) → r ≡ Err (fault.BadStore bad) → ⊥
    never_stopped r never bad is = never (has owner placement).st (has owner placement).runs bodies (past journal.disk) (starts owner placement good).opening (starts owner placement good).at bounded bad is

    -- as its lists are gathered
    pub never_other : (how : StoredEnd) → EndsCall meaning past g program call mid later after how → later.places ≡ call.places → (why : JournalFault) (other : StoreFault) →
        (why ≡ fault.NoMemory) ⊎ ((why ≡ fault.BadStore other) × ((program : Update) (header : Header) (start added : List (List ℕ)) (st : Setting) (o : CallOpening) → IsRunAt g program later.places st → IsEndAt meaning later header start added st o how → ⊥)) →
        (bad : StoreFault) → why ≡ fault.BadStore bad → ⊥
    never_other how ends places why other (inl none) bad is = no_memory bad (sym none ∙ is)
      where
        no_memory : (bad : StoreFault) → fault.NoMemory ≡ fault.BadStore bad → ⊥
        no_memory bad same = cc
    never_other how ends places why other (inr unlike) bad is =
        let start : HasCallBegun meaning past call journal mid resumed plan.run.budget (has owner placement).st = starts owner placement good in
        let e : IsCallEnded meaning past later after bodies (past journal.disk) (has owner placement).st start.opening how = ends bodies (past journal.disk) (has owner placement).st start.opening (has owner placement).runs start.at in
        let there : IsRunAt g program later.places (has owner placement).st = subst (λ (p : Places). IsRunAt g program p (has owner placement).st) (sym places) (has owner placement).runs in
        unlike.1 program after.header bodies e.at.added (has owner placement).st start.opening there (end_at meaning past later after bodies (past journal.disk) (has owner placement).st start.opening how e)

-- ---- why there is no run

pub not_begun : (told : Type 0) (failed : Bool) (old new : DiskPast) (before now : ℕ) (kept : Type 0) (why : JournalFault) → failed ≡ false → (told → new ≡ old) → BeginErrorCause failed before now why → RunErrorCause told old new before now kept why
not_begun told failed old new before now kept fault.DiskFault well still is = (is, still)
not_begun told failed old new before now kept (fault.BadStore bad) well still is = λ t. inl (still t)
not_begun told failed old new before now kept (fault.Full stored bytes) well still is = absurd is
not_begun told failed old new before now kept fault.Failed well still is = absurd (true≢false (sym is ∙ well))
not_begun told failed old new before now kept fault.NoMemory well still is = λ t. inl (still t)

pub stopped : (told : Type 0) (old new : DiskPast) (before now : ℕ) (kept : Type 0) (why : JournalFault) → (told → kept) → StoppedRunErrorCause why → RunErrorCause told old new before now kept why
stopped told old new before now kept fault.DiskFault keeps is = absurd is
stopped told old new before now kept (fault.BadStore bad) keeps is = λ t. inr (keeps t)
stopped told old new before now kept (fault.Full stored bytes) keeps is = absurd is
stopped told old new before now kept fault.Failed keeps is = absurd is
stopped told old new before now kept fault.NoMemory keeps is = λ t. inr (keeps t)

-- ---- what is so of each run, or of each fault

pub ok_then : {X E : Type 0} (r : Result X E) (P Q : X → Type 0) → ((x : X) → P x → Q x) → IfOk r P → IfOk r Q
ok_then (Ok x) P Q by holds = by x holds
ok_then (Err e) P Q by holds = tt

pub err_then : {X E : Type 0} (r : Result X E) (P Q : E → Type 0) → ((e : E) → P e → Q e) → IfErr r P → IfErr r Q
err_then (Ok x) P Q by holds = tt
err_then (Err e) P Q by holds = by e holds

-- what is so of the fault that is answered
pub err_so : {X E : Type 0} (r : Result X E) (P : E → Type 0) (e : E) {Q : Type 0} → IfErr r P → r ≡ Err e → (P e → Q) → Q
err_so {X} {E} r P e holds is by = by (subst (λ (s : Result X E). IfErr s P) is holds)

-- memory ran out, or the order is of another graph
pub not_gathered : (told : Type 0) (old new : DiskPast) (before now : ℕ) (kept : Type 0) (bad : StoreFault) (other : Type 0) (why : JournalFault) → (told → kept) → (why ≡ fault.NoMemory) ⊎ ((why ≡ fault.BadStore bad) × other) → RunErrorCause told old new before now kept why
not_gathered told old new before now kept bad other why keeps (inl none) = subst (RunErrorCause told old new before now kept) (sym none) (λ t. inr (keeps t))
not_gathered told old new before now kept bad other why keeps (inr is) = subst (RunErrorCause told old new before now kept) (sym is.0) (λ t. inr (keeps t))

-- what ended the run by the counts of faults, told of an earlier count
pub by_earlier : {D : Type 0} (journal : JournalState D) (old mid now : ℕ) (how : StoredEnd) → old ≤ mid → EndsBy journal mid now how → EndsBy journal old now how
by_earlier journal old mid now end.Finished less by = by
by_earlier journal old mid now (end.Spent left) less by = by
by_earlier journal old mid now (end.Full stored bytes) less by = by
by_earlier journal old mid now end.DiskFault less by = (by.0, λ small. above old mid now less (by.1 small))
  where
    above : (old mid now : ℕ) → old ≤ mid → mid < now → old < now
    above old mid now less more = omega (arith, less, more)

-- ---- where it finishes

pub short_first : (long updates records : ℕ) → long + updates + records ≤ 2 ^ 30 → long ≤ 2 ^ 30
short_first long updates records short = omega arith

pub only_begun : (failed : Bool) (before now : ℕ) (why : JournalFault) → failed ≡ false → BeginErrorCause failed before now why → (Rose before now → ⊥) → ((bad : StoreFault) → why ≡ fault.BadStore bad → ⊥) → why ≡ fault.NoMemory
only_begun failed before now fault.DiskFault well is none good = absurd (none is)
only_begun failed before now (fault.BadStore bad) well is none good = absurd (good bad refl)
only_begun failed before now (fault.Full stored bytes) well is none good = absurd is
only_begun failed before now fault.Failed well is none good = absurd (true≢false (sym is ∙ well))
only_begun failed before now fault.NoMemory well is none good = refl

pub only_stopped : (why : JournalFault) → StoppedRunErrorCause why → ((bad : StoreFault) → why ≡ fault.BadStore bad → ⊥) → why ≡ fault.NoMemory
only_stopped fault.DiskFault is good = absurd is
only_stopped (fault.BadStore bad) is good = absurd (good bad refl)
only_stopped (fault.Full stored bytes) is good = absurd is
only_stopped fault.Failed is good = absurd is
only_stopped fault.NoMemory is good = refl

pub only_gathered : (why : JournalFault) (bad : StoreFault) (other : Type 0) → (why ≡ fault.NoMemory) ⊎ ((why ≡ fault.BadStore bad) × other) → ((bad : StoreFault) → why ≡ fault.BadStore bad → ⊥) → why ≡ fault.NoMemory
only_gathered why bad other (inl none) good = none
only_gathered why bad other (inr is) good = absurd (good bad is.0)

finishes : (how : StoredEnd) → ((left : Vertex) → how ≡ end.Spent left → ⊥) → ((stored long : ℕ) → how ≡ end.Full stored long → ⊥) → (how ≡ end.DiskFault → ⊥) → how ≡ end.Finished
finishes end.Finished spent full fault = refl
finishes (end.Spent left) spent full fault = absurd (spent left refl)
finishes (end.Full stored long) spent full fault = absurd (full stored long refl)
finishes end.DiskFault spent full fault = absurd (fault refl)

pub all_finish : (r : Result StoredRun JournalFault) → IfOk r (λ run. (left : Vertex) → run.end ≡ end.Spent left → ⊥) → IfOk r (λ run. (stored long : ℕ) → run.end ≡ end.Full stored long → ⊥) → IfOk r (λ run. run.end ≡ end.DiskFault → ⊥) →
    IfErr r (λ why. why ≡ fault.NoMemory) → IsFinishedOrNoMemory r
all_finish (Ok run) spent full disk why = finishes run.end spent full disk
all_finish (Err e) spent full disk why = why

-- an end by a fault of the disk tells of one
pub not_by_fault : {D : Type 0} (journal : JournalState D) (before now : ℕ) (how : StoredEnd) → (Rose before now → ⊥) → EndsBy journal before now how → how ≡ end.DiskFault → ⊥
not_by_fault journal before now how none by is = none (subst (EndsBy journal before now) is by).1

-- What the run of a program on an opened store says of the job.
use Rattle.std.proofs.Common.{◌≡◌, ◌≤◌, ◌^◌, inl, inr, ℕ, ◌+◌, ◌*◌, Bool, Some, false, true, List, length, Result, Ok, Err, refl, sym, ◌∙◌, subst, ⊎_elim}
use Rattle.std.specs.Prelude.{All, IfErr, IfOk}
use Rattle.graph_atoms.specs.declared.atom_gather.cuts.Cut.{Cut}
use Rattle.gl_base.specs.declared.entries.Entry.{Entry}
use Rattle.gl_base.specs.declared.jobs.EngineKind.{EngineKind}
use Rattle.gl_base.specs.declared.jobs.FailureAt.{FailureAt}
use Rattle.gl_base.specs.declared.numbers.Vertex.{Vertex}
use Rattle.gl_outside.specs.Disk.{DiskPast}
use Rattle.gl_outside.specs.Faults.{Rose}
use Rattle.graph_core.specs.DataGraph.{DataGraph, size}
use Rattle.job_io.specs.job_config.Jobs.{JobSayings}
use Rattle.placement.specs.plans.Plays.{IsPlacement}
use Rattle.placement.specs.declared.plans.runs.RunPlan.{RunPlan}
use Rattle.graph_text.specs.order_text.Orders.{IsEntryOf}
use Rattle.recovery.specs.Journals.{JournalState, records_size, stored_in, stored_order}
use Rattle.store.specs.snap_journal.Journals.{KnowsStore}
use Rattle.store.specs.declared.snap_journal.faults.JournalFault.{JournalFault}
use Rattle.store.specs.declared.snap_journal.faults.JournalFault.TheVariants as journal
use Rattle.store.specs.declared.store_format.faults.StoreFault.{StoreFault}
use Rattle.store.specs.declared.store_format.header.Header.{Header}
use Rattle.engine_runs.specs.answers.Images.{IsGoodStore, KeepsGood}
use Rattle.engine_runs.specs.answers.Runs.{IsStoredRun}
use Rattle.engine_runs.specs.declared.answers.runs.StoredEnd.{StoredEnd}
use Rattle.engine_runs.specs.declared.answers.runs.StoredEnd.TheVariants as end
use Rattle.engine_runs.specs.declared.answers.runs.StoredRun.{StoredRun}
use Rattle.engine_runs.specs.Calls.{EndsBy}
use Rattle.engine_runs.specs.Runs.{RunErrorCause, owned_shared}
use Rattle.update_api.specs.Updates.{Update}
use Rattle.engine_cli.specs.Inner.Prepares.{IsPrintable}
use Rattle.engine_cli.specs.Inner.Storing.{IsStoreKept, IsNotGood, IsStoreRunFrom, RunStoredErrorCause}
use Rattle.engine_cli.specs.JobRuns.{BoundsSteps, HasRoomForRun, IsRunBy, lists_of, plan_for}

pub IfOk-map : {T E : Type 0} (r : Result T E) (P Q : T → Type 0) → ((x : T) → P x → Q x) → IfOk r P → IfOk r Q
IfOk-map (Ok x) P Q step p = step x p
IfOk-map (Err e) P Q step p = tt

pub IfOk-two : {T E : Type 0} (r : Result T E) (P Q R : T → Type 0) → ((x : T) → P x → Q x → R x) → IfOk r P → IfOk r Q → IfOk r R
IfOk-two (Ok x) P Q R step p q = step x p q
IfOk-two (Err e) P Q R step p q = tt

-- two facts of a value are one
pub IfOk-both : {T E : Type 0} (r : Result T E) (P Q : T → Type 0) → IfOk r P → IfOk r Q → IfOk r (λ x. P x × Q x)
IfOk-both r P Q p q = IfOk-two r P Q (λ x. P x × Q x) (λ x a b. (a, b)) p q

pub IfErr-map : {T E : Type 0} (r : Result T E) (P Q : E → Type 0) → ((e : E) → P e → Q e) → IfErr r P → IfErr r Q
IfErr-map (Ok x) P Q step p = tt
IfErr-map (Err e) P Q step p = step e p

-- what is said of an error, with the error that it is
pub IfErr-is : {T E : Type 0} (r : Result T E) (P R : E → Type 0) → ((e : E) → r ≡ Err e → P e → R e) → IfErr r P → IfErr r R
IfErr-is (Ok x) P R step p = tt
IfErr-is (Err e) P R step p = step e refl p

pub printable-of : {E : Type 0} (r : Result StoredRun E) (g : DataGraph) → IfOk r (λ run. length run.numbers.items ≡ size g) → IfOk r (λ run. All (IsEntryOf g) run.order.items) → IfOk r (IsPrintable g)
printable-of r g numbers entries =
    IfOk-two r (λ run. length run.numbers.items ≡ size g) (λ run. All (IsEntryOf g) run.order.items) (IsPrintable g) (λ run n e. record { numbers = n; entries = e }) numbers entries

-- ---- by the numbers of the job

-- what is said of a program's run by this plan, with these failures, on a store for this header
abbrev pub GoesBy : DataGraph → Cut → Update → Bool → ℕ → Bool → ℕ → List (List ℕ) → DiskPast → DiskPast → StoredRun → RunPlan → List FailureAt → Header → Type 0
GoesBy g cut p saves window resumed count bodies old new run plan failures header =
    (owner : ℕ → ℕ) → IsPlacement g cut plan.machines owner → IsGoodStore (owned_shared g p owner failures) header bodies →
    (snapshots : List (List Entry)) × IsStoredRun saves (owned_shared g p owner failures) plan.machines window plan.budget count (stored_order bodies) resumed snapshots run
    × KeepsGood (owned_shared g p owner failures) header bodies snapshots old new

-- that a graph is placed for it, that it does not spend a budget that is enough, and that it does not fill a store with room for it
abbrev pub PlacedBy : DataGraph → Cut → RunPlan → List FailureAt → Header → Type 0
PlacedBy g cut plan failures header = (owner : ℕ → ℕ) × IsPlacement g cut plan.machines owner

abbrev pub EnoughBy : DataGraph → Cut → Update → List (List ℕ) → StoredRun → RunPlan → List FailureAt → Header → Type 0
EnoughBy g cut p bodies run plan failures header =
    (owner : ℕ → ℕ) → IsPlacement g cut plan.machines owner → IsGoodStore (owned_shared g p owner failures) header bodies →
    (bound : ℕ) → BoundsSteps g p bound → (1 + length failures) * bound ≤ plan.budget → (left : Vertex) → run.end ≡ end.Spent left → ⊥

-- its machines are those of the plan
abbrev pub MachinesBy : DataGraph → Cut → Update → ℕ → EngineKind → List (List ℕ) → StoredRun → RunPlan → List FailureAt → Header → Type 0
MachinesBy g cut p window kind bodies run plan failures header =
    (owner : ℕ → ℕ) → IsPlacement g cut plan.machines owner → IsGoodStore (owned_shared g p owner failures) header bodies →
    IsRunBy g cut p (record { run = plan; engine = kind; window = Some window }) failures (lists_of run)

abbrev pub RoomyBy : DataGraph → Cut → Update → Bool → ℕ → EngineKind → ℕ → ℕ → List (List ℕ) → StoredRun → RunPlan → List FailureAt → Header → Type 0
RoomyBy g cut p saves window kind count long bodies run plan failures header =
    (owner : ℕ → ℕ) → IsPlacement g cut plan.machines owner → IsGoodStore (owned_shared g p owner failures) header bodies →
    HasRoomForRun g (record { run = plan; window = window; engine = kind; saves_end = saves }) (length failures) count long → (stored bytes : ℕ) → run.end ≡ end.Full stored bytes → ⊥

abbrev pub KeepsBy : DataGraph → Cut → Update → List (List ℕ) → DiskPast → DiskPast → RunPlan → List FailureAt → Header → Type 0
KeepsBy g cut p bodies old new plan failures header =
    (owner : ℕ → ℕ) → IsPlacement g cut plan.machines owner → IsGoodStore (owned_shared g p owner failures) header bodies →
    (snapshots : List (List Entry)) × KeepsGood (owned_shared g p owner failures) header bodies snapshots old new

abbrev pub NotGoodBy : DataGraph → Cut → Update → List (List ℕ) → RunPlan → List FailureAt → Header → Type 0
NotGoodBy g cut p bodies plan failures header =
    (owner : ℕ → ℕ) → IsPlacement g cut plan.machines owner → IsGoodStore (owned_shared g p owner failures) header bodies → 65 + records_size bodies ≤ 2 ^ 30 → ⊥

-- how many snapshots and bytes a full store has
abbrev pub FullBy : Header → DiskPast → StoredEnd → Type 0
FullBy header new how =
    (stored bytes : ℕ) → how ≡ end.Full stored bytes → (stored ≡ length (stored_in header new.now.seen)) × (bytes ≡ 65 + records_size (stored_in header new.now.seen))

-- what a journal that did not fail tells of what it has
module _ {D : Type 0} (past : D → DiskPast) (journal : JournalState D) (before now : ℕ) (knows : journal.failed ≡ false → KnowsStore past journal) where
  pub full-by : (how : StoredEnd) → EndsBy journal before now how → FullBy journal.header (past journal.disk) how
  full-by (end.Full s b) by stored bytes same =
      let both = same_full same in (
        sym both.0 ∙ by.1 ∙ (knows by.0).snapshots,
        sym both.1 ∙ by.2 ∙ (knows by.0).bytes,
      )
    where
      same_full : end.Full s b ≡ end.Full stored bytes → (s ≡ stored) × (b ≡ bytes)
      same_full e = (cc, cc)
  full-by end.Finished by stored bytes same = absurd (no same)
    where
      no : end.Finished ≡ end.Full stored bytes → ⊥
      no e = cc
  full-by (end.Spent left) by stored bytes same = absurd (no same)
    where
      no : end.Spent left ≡ end.Full stored bytes → ⊥
      no e = cc
  full-by end.DiskFault by stored bytes same = absurd (no same)
    where
      no : end.DiskFault ≡ end.Full stored bytes → ⊥
      no e = cc

pub fault-by : {D : Type 0} (journal : JournalState D) (before now : ℕ) (how : StoredEnd) → EndsBy journal before now how → how ≡ end.DiskFault → Rose before now
fault-by journal before now how by is =
    let E : StoredEnd → Type 0 = λ e. EndsBy journal before now e in
    let rose : EndsBy journal before now end.DiskFault = subst E is by in
    rose.1

module _ (job : JobSayings) (g : DataGraph) (cut : Cut) (p : Update) (bodies : List (List ℕ)) (old new : DiskPast) (plan : RunPlan) (failures : List FailureAt) (header after : Header)
    (still : after ≡ header) (plan_is : plan ≡ plan_for job) (failures_are : failures ≡ job.failures) where
  -- the same of the job
  of-job : (F : RunPlan → List FailureAt → Header → Type 0) → F plan failures header → F (plan_for job) job.failures header
  of-job F f =
      let A : RunPlan → Type 0 = λ pl. F pl failures header in
      let B : List FailureAt → Type 0 = λ fs. F (plan_for job) fs header in
      subst B failures_are (subst A plan_is f)

  pub run-from : (resumed : Bool) (count long : ℕ) (run : StoredRun) → count ≡ length bodies → long ≡ 65 + records_size bodies → GoesBy g cut p true job.fields.window resumed count bodies old new run plan failures header
      → PlacedBy g cut plan failures header → MachinesBy g cut p job.fields.window job.fields.engine bodies run plan failures header → EnoughBy g cut p bodies run plan failures header
      → RoomyBy g cut p true job.fields.window job.fields.engine count long bodies run plan failures header → FullBy after new run.end → IsStoreRunFrom job g cut p header resumed bodies old new run
  run-from resumed count long run count_is long_is goes placed machines enough roomy full = record {
    goes_on = of-job (GoesBy g cut p true job.fields.window resumed (length bodies) bodies old new run)
        (subst (λ (n : ℕ). GoesBy g cut p true job.fields.window resumed n bodies old new run plan failures header) count_is goes);
    placed = of-job (PlacedBy g cut) placed;
    machines = of-job (MachinesBy g cut p job.fields.window job.fields.engine bodies run) machines;
    enough = of-job (EnoughBy g cut p bodies run) enough;
    roomy = of-job (RoomyBy g cut p true job.fields.window job.fields.engine (length bodies) (65 + records_size bodies) bodies run)
        (subst (λ (l : ℕ). RoomyBy g cut p true job.fields.window job.fields.engine (length bodies) l bodies run plan failures header) long_is
        (subst (λ (n : ℕ). RoomyBy g cut p true job.fields.window job.fields.engine n long bodies run plan failures header) count_is roomy));
    full = subst (λ (h : Header). FullBy h new run.end) still full;
  }

  kept-by : KeepsBy g cut p bodies old new plan failures header → IsStoreKept job g cut p header bodies old new
  kept-by keeps = of-job (KeepsBy g cut p bodies old new) keeps

  not-good-by : NotGoodBy g cut p bodies plan failures header → IsNotGood job g cut p header bodies
  not-good-by not = of-job (NotGoodBy g cut p bodies) not

  pub why-not-stored : (told : Type 0) (before now : ℕ) (fault : JournalFault) → RunErrorCause told old new before now (KeepsBy g cut p bodies old new plan failures header) fault
      → ((why : StoreFault) → fault ≡ journal.BadStore why → told → NotGoodBy g cut p bodies plan failures header) → RunStoredErrorCause told job g cut p header bodies old new before now fault
  why-not-stored told before now journal.DiskFault refused not = refused
  why-not-stored told before now (journal.BadStore why) refused not = λ is. (not-good-by (not why refl is), ⊎_elim (λ same. inl same) (λ keeps. inr (kept-by keeps)) (refused is))
  why-not-stored told before now (journal.Full stored length) refused not = refused
  why-not-stored told before now journal.Failed refused not = refused
  why-not-stored told before now journal.NoMemory refused not = λ is. ⊎_elim (λ same. inl same) (λ keeps. inr (kept-by keeps)) (refused is)

-- From a good store a call that keeps to its bounds is not refused.
use Rattle.std.proofs.Common.{◌≡◌, ◌∙◌, ℕ, Bool, ◌+◌, ◌*◌, ◌≤◌, ◌^◌, List, ◌++◌, Err, Result, ap, length, refl, subst, sym, arith}
use Rattle.std.specs.Prelude.{false, true}
use Rattle.gl_base.specs.declared.jobs.FailureAt.{FailureAt}
use Rattle.engine_runs.specs.declared.append.faults.AppendFault.{AppendFault}
use Rattle.engine_runs.specs.declared.append.faults.AppendFault.TheVariants as append
use Rattle.engine_runs.specs.rollback.Failing.{HaveFailedSince, InEachTrace}
use Rattle.engine_runs.specs.rollback.Returning.{GoBackErrorCause}
use Rattle.engine_runs.specs.start.Starting.{StartErrorCause, restart_room}
use Rattle.cluster_laws.specs.cluster_model.Events.{failures_in}
use Rattle.recovery.specs.Journals.{records_size, stored_in}
use Rattle.store.specs.declared.snap_journal.faults.JournalFault.{JournalFault}
use Rattle.store.specs.declared.snap_journal.faults.JournalFault.TheVariants as fault
use Rattle.store.specs.declared.store_format.faults.StoreFault.{StoreFault}
use Rattle.engine_runs.proofs.Backs.{known_later}
use Rattle.engine_runs.proofs.Bounds.{never_far}
use Rattle.engine_runs.specs.Calls.{CallOpening, DiskPast, Header, IsCallAt, IsAnyMachineOf, IsKnownAt, JournalState, KeepsToBounds, Setting, end_of, end_without, snapshots_in}
use Rattle.engine_runs.specs.Runs.{refused_by}
use Rattle.engine_runs.specs.declared.calls.StoredCall.{StoredCall}
use Rattle.update_api.specs.Updates.{Update}

-- ---- where all go back

-- where a disk tells what it holds, only a store without the room is refused
not_bad : (told full : Type 0) (old new : Bool) (before now : ℕ) (why : JournalFault) (size : ℕ) (bad : StoreFault) → told → (full → ⊥) → GoBackErrorCause told full old new before now why → end_without why size ≡ Err (fault.BadStore bad) → ⊥
not_bad told full old new before now fault.DiskFault size bad tells short is same = cc
not_bad told full old new before now (fault.BadStore why) size bad tells short is same = is.0 tells
not_bad told full old new before now (fault.Full stored bytes) size bad tells short is same = short is.0
not_bad told full old new before now fault.NoMemory size bad tells short is same = cc
not_bad told full old new before now fault.Failed size bad tells short is same = cc

module _ {D P : Type 0} (meaning : P → Update) (past : D → DiskPast) (call later : StoredCall P) (journal after : JournalState D) (start : List (List ℕ)) (first : DiskPast) (st : Setting) (o : CallOpening)
    (failures : later.trace.failures ≡ call.trace.failures) (header : after.header ≡ journal.header) (well : journal.failed ≡ false) (at : IsCallAt meaning past call journal start first st o) (bounds : KeepsToBounds call journal st o)
    (fails : InEachTrace (IsAnyMachineOf meaning) call.trace (HaveFailedSince (IsAnyMachineOf meaning) later.trace (λ a. ⊥))) (restarts : later.restarts ≡ call.restarts) (lost : later.lost.items ≡ call.lost.items) (order : later.order.items ≡ call.order.items)
    (size : ℕ) (size_is : size ≡ journal.length) (stored_size : size ≡ 65 + records_size (snapshots_in past journal)) where
  known : IsKnownAt meaning later.trace later after.header start (start ++ at.added) st o
  known = known_later meaning past call later journal after start first st o failures header well at fails restarts lost order

  bodies_are : stored_in after.header (past journal.disk).now.seen ≡ start ++ at.added
  bodies_are = ap (λ (h : Header). stored_in h (past journal.disk).now.seen) header ∙ at.stored well

  far : 2 ^ 32 ≤ known.was.cluster.coordinator.store_end + 16 * failures_in st known.was.cluster → ⊥
  far =
      never_far (IsAnyMachineOf meaning) later.trace after.header start (start ++ at.added) later.lost.items later.restarts.stored.items later.restarts.front.items later.order.items st o known (past journal.disk).now.seen bodies_are
      (subst (λ (fs : List FailureAt). length fs ≤ 65536) (sym failures) bounds.failures) bounds.machines size
      (stored_size ∙ ap (λ (bs : List (List ℕ)). 65 + records_size bs) (at.stored well)) (subst (λ (n : ℕ). n ≤ 2 ^ 30) (sym size_is) bounds.bytes)

  pub never_back : (told : Type 0) (old new : Bool) (before now : ℕ) (why : JournalFault) (long : ℕ) (bad : StoreFault) → told →
      GoBackErrorCause told (InEachTrace (IsAnyMachineOf meaning) later.trace (λ st o events c. st.stored ≡ true → 2 ^ 32 ≤ c.coordinator.store_end + 16 * failures_in st c)) old new before now why → end_without why long ≡ Err (fault.BadStore bad) → ⊥
  never_back told old new before now why long bad tells is same =
      not_bad told (InEachTrace (IsAnyMachineOf meaning) later.trace (λ st o events c. st.stored ≡ true → 2 ^ 32 ≤ c.coordinator.store_end + 16 * failures_in st c)) old new before now why long bad tells
      (λ over. far (over st o known.was.events known.was.cluster known.was.now at.taken)) is same

-- ---- where a snapshot is added

pub only_unformed : (why : AppendFault) (size : ℕ) (bad : StoreFault) → (why ≡ append.NotInForm → ⊥) → end_of why size ≡ Err (fault.BadStore bad) → ⊥
only_unformed (append.Full stored long) size bad formed same = cc
only_unformed append.DiskFault size bad formed same = cc
only_unformed append.NotInForm size bad formed same = formed refl
only_unformed append.NoMemory size bad formed same = cc

-- ---- as it goes on

pub bounds_on : {D P : Type 0} (call later : StoredCall P) (journal after : JournalState D) (st : Setting) (o : CallOpening) → later.trace.failures ≡ call.trace.failures → after.length ≤ 2 ^ 30 → KeepsToBounds call journal st o → KeepsToBounds later after st o
bounds_on call later journal after st o failures short bounds =
    record { tickets = bounds.tickets; failures = subst (λ (fs : List FailureAt). length fs ≤ 65536) (sym failures) bounds.failures; machines = bounds.machines; bytes = short }

-- ---- as it begins

too_short : (bytes more size long : ℕ) → long ≡ size → bytes ≡ size → long ≤ 2 ^ 30 → more ≤ 16 → 4294967296 ≤ bytes + more → ⊥
too_short bytes more size long long_is bytes_is short few over = omega arith

pub never_begun : {D : Type 0} (past : D → DiskPast) (told : Type 0) (more : ℕ) (old new : JournalState D) (before now : ℕ) (why : JournalFault) (size : ℕ) (bad : StoreFault) → told → more ≤ 16 → (old.failed ≡ false → old.length ≡ 65 + records_size (snapshots_in past old)) → old.length ≤ 2 ^ 30 →
    StartErrorCause past told more old new before now why → refused_by why size ≡ fault.BadStore bad → ⊥
never_begun past told more old new before now fault.DiskFault size bad tells few long short is same = cc
never_begun past told more old new before now (fault.BadStore why) size bad tells few long short is same = is.0 tells
never_begun past told more old new before now (fault.Full stored bytes) size bad tells few long short is same =
    too_short bytes more (65 + records_size (snapshots_in past old)) old.length (long is.0) (is.3 tells) short few is.4
never_begun past told more old new before now fault.Failed size bad tells few long short is same = cc
never_begun past told more old new before now fault.NoMemory size bad tells few long short is same = cc

pub few_more : (resumed : Bool) → restart_room resumed ≤ 16
few_more true = omega arith
few_more false = omega arith

-- ---- the fault that an exit answers

pub same_fault : {T : Type 0} (why bad : JournalFault) → ◌≡◌ {A = Result T JournalFault} (Err why) (Err bad) → why ≡ bad
same_fault why bad e = cc

pub fault_in : {T : Type 0} (r : Result T JournalFault) (y x bad : JournalFault) → r ≡ Err y → y ≡ x → r ≡ Err bad → x ≡ bad
fault_in r y x bad so same is = sym same ∙ same_fault y bad (sym so ∙ is)

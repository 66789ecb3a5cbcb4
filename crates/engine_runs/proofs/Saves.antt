-- A call whose snapshot was added to the store, or was not.
use Rattle.std.proofs.Common.{◌≡◌, ℕ, ◌+◌, ◌++◌, ◌∙◌, true, false, List, [], ◌∷◌, ap, length, refl, subst, sym}
use Rattle.std.specs.Prelude.{IfOk, IfSome, Result}
use Rattle.gl_base.specs.declared.entries.Entry.{Entry}
use Rattle.gl_base.specs.declared.jobs.FailureAt.{FailureAt}
use Rattle.engine_runs.specs.append.Appends.{HasOneMore, IsGoodImage, IsNewestLine, AppendDueErrorCause, NeedsMore, SnapLine}
use Rattle.engine_runs.specs.declared.append.faults.AppendFault.{AppendFault}
use Rattle.engine_runs.specs.declared.append.faults.AppendFault.TheVariants as append
use Rattle.engine_runs.proofs.rollback.Failings.{stayed}
use Rattle.cluster_step.specs.trace.Events.{StaysThere}
use Rattle.recovery.specs.declared.restarts.restarts.Restarts.{Restarts}
use Rattle.recovery.specs.GoodStores.{IsGoodStore}
use Rattle.recovery.specs.Journals.{records_size}
use Rattle.store.specs.snap_journal.Journals.{AllDecodeTo}
use Rattle.engine_runs.specs.declared.answers.runs.StoredEnd.TheVariants as end
use Rattle.engine_runs.proofs.Backs.{ended_here, known_later}
use Rattle.engine_runs.proofs.Going.{fault_there, one_more, still_there}
use Rattle.engine_runs.specs.Calls.{CallOpening, DiskPast, EndsBy, Header, IsCallAt, IsCallEnded, IsAnyMachineOf, IsKnownAt, IsKnownTrace, JournalState, LeavesOnly, NoneReached, Setting, end_of, shared_of, snapshots_in}
use Rattle.engine_runs.specs.declared.calls.StoredCall.{StoredCall}
use Rattle.update_api.specs.Updates.{Update}

pub same_answer : {X E : Type 0} {r s : Result X E} (P : X → Type 0) → r ≡ s → IfOk s P → IfOk r P
same_answer {X} {E} P is holds = subst (λ (t : Result X E). IfOk t P) (sym is) holds

on_off : true ≡ false → ⊥
on_off is = cc

module _ {D P : Type 0} (meaning : P → Update) (past : D → DiskPast) (call later : StoredCall P) (journal after : JournalState D) (failures : later.trace.failures ≡ call.trace.failures) (header : after.header ≡ journal.header) (well : journal.failed ≡ false) where
  module _ (start : List (List ℕ)) (first : DiskPast) (st : Setting) (o : CallOpening) (at : IsCallAt meaning past call journal start first st o) where
    -- what is known of the journal's snapshots
    pub knows : IsKnownAt meaning call.trace call journal.header start (snapshots_in past journal) st o
    knows = subst (λ (bodies : List (List ℕ)). IsKnownAt meaning call.trace call journal.header start bodies st o) (sym (at.stored well)) at.known

    -- it was added
    pub added_one : (line : SnapLine) → later.snapshots.items ≡ call.snapshots.items ++ line ∷ [] → HasOneMore past journal after → IsKnownAt meaning later.trace later after.header start (snapshots_in past after) st o →
        AllDecodeTo after.header (snapshots_in past after) (past after.disk) → IsNewestLine st call.trace.failures (snapshots_in past after) line →
        LeavesOnly (past journal.disk) (past after.disk) (IsGoodImage (shared_of st call.trace.failures) journal.header (snapshots_in past journal)) → IsCallAt meaning past later after start first st o
    added_one line lines more known all is_line moments =
        one_more meaning past call later journal after start first st o failures header well at line lines more known
        (subst (λ (fs : List FailureAt). IsGoodStore (shared_of st fs) after.header (snapshots_in past after)) failures known.was.keeps.good) all is_line moments

  -- it was not
  module _ (stays : StaysThere (IsAnyMachineOf meaning) call.trace later.trace) (restarts : later.restarts ≡ call.restarts) (lost : later.lost.items ≡ call.lost.items) (order : later.order.items ≡ call.order.items) (lines : later.snapshots.items ≡ call.snapshots.items) (before now : ℕ) where
    abbrev Moments : Type 0
    Moments = (start : List (List ℕ)) (lost order : List Entry) (st : Setting) (o : CallOpening) → IsKnownTrace (IsAnyMachineOf meaning) call.trace journal.header start (snapshots_in past journal) lost call.restarts.stored.items call.restarts.front.items order st o →
        LeavesOnly (past journal.disk) (past after.disk) (IsGoodImage (shared_of st call.trace.failures) journal.header (snapshots_in past journal))

    module _ (start : List (List ℕ)) (first : DiskPast) (st : Setting) (o : CallOpening) (at : IsCallAt meaning past call journal start first st o) where
      known_still : IsKnownAt meaning later.trace later after.header start (start ++ at.added) st o
      known_still = known_later meaning past call later journal after start first st o failures header well at
          (stayed (IsAnyMachineOf meaning) call.trace later.trace (λ a. ⊥) stays (λ st o events c is running a none reached. absurd none)) restarts lost order

      unmoved : after ≡ journal → IsCallAt meaning past later after start first st o
      unmoved same = still_there meaning past call later journal after start first st o failures header well at lines (ap (λ (j : JournalState D). past j.disk) same) known_still

      pub not_added : (why : AppendFault) → AppendDueErrorCause (IsAnyMachineOf meaning) call.trace call.restarts journal after before now why → Moments → IsCallAt meaning past later after start first st o
      not_added (append.Full stored long) is moments = unmoved is.2
      not_added append.DiskFault is moments =
          fault_there meaning past call later journal after start first st o failures header well at lines (λ ok. on_off (sym is.0 ∙ ok)) (moments start call.lost.items call.order.items st o (knows start first st o at)) known_still
      not_added append.NotInForm is moments = unmoved is.0
      not_added append.NoMemory is moments = unmoved is

      -- at a full store it is where it paused
      module _ (same : after ≡ journal) (now_at : IsCallAt meaning past later after start first st o) where
        bodies_same : snapshots_in past after ≡ start ++ now_at.added
        bodies_same = now_at.stored (ap (λ (j : JournalState D). j.failed) same ∙ well)

        paused_known : IsKnownAt meaning call.trace later after.header start (start ++ now_at.added) st o
        paused_known =
            let bodies : snapshots_in past journal ≡ start ++ now_at.added = ap (snapshots_in past) (sym same) ∙ bodies_same in
            subst (λ (h : Header). IsKnownAt meaning call.trace later h start (start ++ now_at.added) st o) (sym header)
            (subst (λ (es : List Entry). IsKnownTrace (IsAnyMachineOf meaning) call.trace journal.header start (start ++ now_at.added) es later.restarts.stored.items later.restarts.front.items later.order.items st o) (sym lost)
            (subst (λ (r : Restarts). IsKnownTrace (IsAnyMachineOf meaning) call.trace journal.header start (start ++ now_at.added) call.lost.items r.stored.items r.front.items later.order.items st o) (sym restarts)
            (subst (λ (es : List Entry). IsKnownTrace (IsAnyMachineOf meaning) call.trace journal.header start (start ++ now_at.added) call.lost.items call.restarts.stored.items call.restarts.front.items es st o) (sym order)
            (subst (λ (bs : List (List ℕ)). IsKnownAt meaning call.trace call journal.header start bs st o) bodies (knows start first st o at)))))

        pub full_there : (stored long : ℕ) → stored ≡ length (snapshots_in past after) → long ≡ 65 + records_size (snapshots_in past after) → NoneReached (IsAnyMachineOf meaning) call.trace → NeedsMore (IsAnyMachineOf meaning) call.trace st o →
            IsCallEnded meaning past later after start first st o (end.Full stored long)
        full_there stored long stored_is long_is none needs = record {
          at = now_at;
          paused = call.trace;
          known = paused_known;
          failures = sym failures;
          now = stays st o paused_known.was.events paused_known.was.cluster paused_known.was.now;
          gives = (stored_is ∙ ap (λ (bs : List (List ℕ)). length bs) bodies_same, long_is ∙ ap (λ (bs : List (List ℕ)). 65 + records_size bs) bodies_same, none, needs);
        }

    -- how the run ends then
    pub ends_so : (why : AppendFault) (size : ℕ) → AppendDueErrorCause (IsAnyMachineOf meaning) call.trace call.restarts journal after before now why → Moments →
        (after.failed ≡ false → after.count ≡ length (snapshots_in past after)) → (after.failed ≡ false → after.length ≡ 65 + records_size (snapshots_in past after)) → NoneReached (IsAnyMachineOf meaning) call.trace →
        ((start : List (List ℕ)) (lost order : List Entry) (st : Setting) (o : CallOpening) → IsKnownTrace (IsAnyMachineOf meaning) call.trace journal.header start (snapshots_in past journal) lost call.restarts.stored.items call.restarts.front.items order st o →
        (stored long : ℕ) → why ≡ append.Full stored long → NeedsMore (IsAnyMachineOf meaning) call.trace st o) →
        IfOk (end_of why size) (λ how. IfSome how (λ e. (start : List (List ℕ)) (first : DiskPast) (st : Setting) (o : CallOpening) → IsCallAt meaning past call journal start first st o → IsCallEnded meaning past later after start first st o e))
    ends_so (append.Full stored long) size is moments count bytes none needs = λ start first st o at.
        let ok : after.failed ≡ false = ap (λ (j : JournalState D). j.failed) is.2 ∙ well in
        full_there start first st o at is.2 (unmoved start first st o at is.2) stored long
        (is.0 ∙ ap (λ (j : JournalState D). j.count) (sym is.2) ∙ count ok) (is.1 ∙ ap (λ (j : JournalState D). j.length) (sym is.2) ∙ bytes ok) none (needs start call.lost.items call.order.items st o (knows start first st o at) stored long refl)
    ends_so append.DiskFault size is moments count bytes none needs = λ start first st o at. ended_here meaning past later after start first st o (not_added start first st o at append.DiskFault is moments)
    ends_so append.NotInForm size is moments count bytes none needs = tt
    ends_so append.NoMemory size is moments count bytes none needs = tt

    pub ends_by : (why : AppendFault) (size : ℕ) → AppendDueErrorCause (IsAnyMachineOf meaning) call.trace call.restarts journal after before now why → IfOk (end_of why size) (λ how. IfSome how (EndsBy after before now))
    ends_by (append.Full stored long) size is = (ap (λ (j : JournalState D). j.failed) is.2 ∙ well, is.0 ∙ ap (λ (j : JournalState D). j.count) (sym is.2), is.1 ∙ ap (λ (j : JournalState D). j.length) (sym is.2))
    ends_by append.DiskFault size is = is
    ends_by append.NotInForm size is = tt
    ends_by append.NoMemory size is = tt

-- A call whose machines went back, or could not.
use Rattle.std.proofs.Common.{◌≡◌, ℕ, ◌++◌, Bool, true, false, List, refl, subst, sym}
use Rattle.std.specs.Prelude.{Err, IfOk, IfSome, None, Ok, Option, Result, Some}
use Rattle.gl_base.specs.declared.entries.Entry.{Entry}
use Rattle.gl_base.specs.declared.numbers.MachineNo.{MachineNo}
use Rattle.engine_runs.proofs.rollback.Keepings.{known_on}
use Rattle.engine_runs.specs.rollback.Failing.{HaveFailedSince, InEachTrace}
use Rattle.engine_runs.specs.rollback.Returning.{HasReachedSome, GoBackErrorCause}
use Rattle.cluster_step.proofs.trace.Calling.{low_machine}
use Rattle.recovery.specs.declared.restarts.restarts.Restarts.{Restarts}
use Rattle.cluster_step.specs.declared.drive.pauses.Pause.TheVariants as pause
use Rattle.store.specs.snap_journal.Disks.{Rose}
use Rattle.store.specs.declared.snap_journal.faults.JournalFault.{JournalFault}
use Rattle.store.specs.declared.snap_journal.faults.JournalFault.TheVariants as fault
use Rattle.engine_runs.specs.declared.answers.runs.StoredEnd.{StoredEnd}
use Rattle.engine_runs.specs.declared.answers.runs.StoredEnd.TheVariants as end
use Rattle.engine_runs.proofs.Going.{still_there}
use Rattle.engine_runs.specs.Calls.{CallOpening, TraceView, DiskPast, AnyMachine, Header, IsCallAt, IsCallEnded, IsAnyMachineOf, IsKnownAt, IsKnownTrace, JournalState, PauseMeaning, Setting, snapshots_in}
use Rattle.engine_runs.specs.declared.calls.StoredCall.{StoredCall}
use Rattle.update_api.specs.Updates.{Update}

pub some_reached : {P : Type 0} (meaning : P → Update) (v : TraceView (AnyMachine P)) (header : Header) (start bodies : List (List ℕ)) (lost stored front order : List Entry) (st : Setting) (o : CallOpening)
    (known : IsKnownTrace (IsAnyMachineOf meaning) v header start bodies lost stored front order st o) (m : MachineNo) → PauseMeaning (IsAnyMachineOf meaning) v (pause.Reached m) → HasReachedSome v st known.was.cluster
some_reached meaning v header start bodies lost stored front order st o known m reached =
    (m.0, low_machine (IsAnyMachineOf meaning) v st o known.was.events known.was.cluster known.was.now m.0 reached.0, reached.1 st o known.was.events known.was.cluster known.was.now)

module _ {D P : Type 0} (meaning : P → Update) (past : D → DiskPast) (call later : StoredCall P) (journal after : JournalState D) (start : List (List ℕ)) (first : DiskPast) (st : Setting) (o : CallOpening)
    (failures : later.trace.failures ≡ call.trace.failures) (header : after.header ≡ journal.header) (well : journal.failed ≡ false) (at : IsCallAt meaning past call journal start first st o) where
  abbrev had : List (List ℕ)
  had = start ++ at.added

  -- all went back
  pub gone_back : later.snapshots.items ≡ call.snapshots.items → past after.disk ≡ past journal.disk → (m : MachineNo) → PauseMeaning (IsAnyMachineOf meaning) call.trace (pause.Reached m) →
      ((known : IsKnownAt meaning call.trace call journal.header start (snapshots_in past journal) st o) → HasReachedSome call.trace st known.was.cluster → IsKnownAt meaning later.trace later journal.header start (snapshots_in past journal) st o) →
      IsCallAt meaning past later after start first st o
  gone_back lines disk m reached back =
      let known : IsKnownAt meaning call.trace call journal.header start (snapshots_in past journal) st o =
      subst (λ (bodies : List (List ℕ)). IsKnownAt meaning call.trace call journal.header start bodies st o) (sym (at.stored well)) at.known in
      let now : IsKnownAt meaning later.trace later journal.header start (snapshots_in past journal) st o =
      back known (some_reached meaning call.trace journal.header start (snapshots_in past journal) call.lost.items call.restarts.stored.items call.restarts.front.items call.order.items st o known m reached) in
      still_there meaning past call later journal after start first st o failures header well at lines disk
      (subst (λ (h : Header). IsKnownAt meaning later.trace later h start had st o) (sym header) (subst (λ (bodies : List (List ℕ)). IsKnownAt meaning later.trace later journal.header start bodies st o) (at.stored well) now))

  -- machines may have failed, and the lists are as they were
  pub known_later : InEachTrace (IsAnyMachineOf meaning) call.trace (HaveFailedSince (IsAnyMachineOf meaning) later.trace (λ a. ⊥)) → later.restarts ≡ call.restarts → later.lost.items ≡ call.lost.items → later.order.items ≡ call.order.items →
      IsKnownAt meaning later.trace later after.header start had st o
  known_later fails restarts lost order =
      let known : IsKnownTrace (IsAnyMachineOf meaning) later.trace journal.header start had call.lost.items call.restarts.stored.items call.restarts.front.items call.order.items st o =
      known_on (IsAnyMachineOf meaning) call.trace later.trace failures journal.header start had call.lost.items call.restarts.stored.items call.restarts.front.items call.order.items st o (λ a. ⊥) at.known
      (fails st o at.known.was.events at.known.was.cluster at.known.was.now) in
      let listed : IsKnownAt meaning later.trace later journal.header start had st o =
      subst (λ (es : List Entry). IsKnownTrace (IsAnyMachineOf meaning) later.trace journal.header start had es later.restarts.stored.items later.restarts.front.items later.order.items st o) (sym lost)
      (subst (λ (r : Restarts). IsKnownTrace (IsAnyMachineOf meaning) later.trace journal.header start had call.lost.items r.stored.items r.front.items later.order.items st o) (sym restarts)
      (subst (λ (es : List Entry). IsKnownTrace (IsAnyMachineOf meaning) later.trace journal.header start had call.lost.items call.restarts.stored.items call.restarts.front.items es st o) (sym order) known)) in
      subst (λ (h : Header). IsKnownAt meaning later.trace later h start had st o) (sym header) listed

  -- they didn't go back
  pub not_back : later.snapshots.items ≡ call.snapshots.items → past after.disk ≡ past journal.disk → InEachTrace (IsAnyMachineOf meaning) call.trace (HaveFailedSince (IsAnyMachineOf meaning) later.trace (λ a. ⊥)) → later.restarts ≡ call.restarts → later.lost.items ≡ call.lost.items →
      later.order.items ≡ call.order.items → IsCallAt meaning past later after start first st o
  not_back lines disk fails restarts lost order = still_there meaning past call later journal after start first st o failures header well at lines disk (known_later fails restarts lost order)

-- a fault of the disk ends it where it is
pub ended_here : {D P : Type 0} (meaning : P → Update) (past : D → DiskPast) (call : StoredCall P) (journal : JournalState D) (start : List (List ℕ)) (first : DiskPast) (st : Setting) (o : CallOpening) →
    IsCallAt meaning past call journal start first st o → IsCallEnded meaning past call journal start first st o end.DiskFault
ended_here meaning past call journal start first st o at = record { at = at; paused = call.trace; known = at.known; failures = refl; now = at.known.was.now; gives = tt }

-- ---- why they didn't

pub disk_failed : (told full : Type 0) (old new : Bool) (before now : ℕ) (why : JournalFault) → why ≡ fault.DiskFault → GoBackErrorCause told full old new before now why → (new ≡ true) × Rose before now
disk_failed told full old new before now why same is =
    let there = subst (GoBackErrorCause told full old new before now) same is in
    (there.1, there.2)

-- it ended by a fault of the disk, where it did
pub some_end : (r : Result (Option StoredEnd) JournalFault) (P : StoredEnd → Type 0) (Q : Type 0) → IfOk r (λ how. (how ≡ Some end.DiskFault) × Q) → (Q → P end.DiskFault) → IfOk r (λ how. IfSome how P)
some_end (Ok None) P Q is then = tt
some_end (Ok (Some how)) P Q is then = subst P (sym (same how is.0)) (then is.1)
  where
    same : (how : StoredEnd) → Some how ≡ Some end.DiskFault → how ≡ end.DiskFault
    same how is = cc
some_end (Err e) P Q is then = tt

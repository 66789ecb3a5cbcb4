-- What the parts of the call answer, it answers.
use Rattle.std.proofs.Common.{◌≡◌, ◌∙◌, ℕ, ◌+◌, ◌<◌, List, Err, inl, inr, length, refl, sym, subst}
use Rattle.std.specs.Prelude.{Result}
use Rattle.gl_base.specs.declared.entries.Entry.{Entry}
use Rattle.gl_base.specs.declared.refusals.Refused.{Refused}
use Rattle.gl_base.specs.declared.refusals.Refused.TheVariants as no
use Rattle.gl_base.specs.declared.snapshots.Record.{Record}
use Rattle.cluster_step.specs.trace.Traces.{IsSameAttempt}
use Rattle.cluster_step.specs.trace.Events.{CanHappenInCall, IsEventDisabled}
use Rattle.coordinator.specs.coord_core.Calls.{IsDueOf}
use Rattle.coordinator.specs.declared.coord_core.leading.Due.TheVariants as due
use Rattle.recovery.specs.Journals.{NumbersFit, records_size}
use Rattle.store.specs.snap_journal.Formats.{stored_in}
use Rattle.cluster_step.specs.declared.clusters.events.Event.TheVariants as event
use Rattle.cluster_step.specs.declared.clusters.events.Lead.TheVariants as lead
use Rattle.engine_runs.specs.stores.Stores.{IsKnownTrace}
use Rattle.engine_runs.specs.append.Appends.{AppendFault, CallOpening, TraceView, Header, IsDueWith, IsInForm, AppendDueErrorCause, JournalState, Machine, NeedsMore, Restarts, Setting}
use Rattle.engine_runs.specs.declared.append.faults.AppendFault.TheVariants.{DiskFault, Full, NoMemory, NotInForm}
use Rattle.engine_runs.specs.append.Inner.Storing.{StoreRecordErrorCause, no_record}
use Rattle.engine_runs.proofs.append.Appending.{in_form, needs_more, never_full}

module _ {D M : Type 0} (represents : Setting → ℕ → Machine → M → Type 0) (v : TraceView M) (restarts : Restarts) (old new : JournalState D) (before now : ℕ) where
  -- no record was made
  pub why_no_record : (refused : Refused) → (refused ≡ no.NotNow → IsEventDisabled represents v (event.Lead lead.Record)) → new ≡ old → AppendDueErrorCause represents v restarts old new before now (no_record refused old.count old.length)
  why_no_record no.NotNow cannot same = (refl, refl, same, inl (cannot refl))
  why_no_record no.NoMemory cannot same = same

  -- it was not stored
  pub why_not_stored : (made : Record) → IsDueWith represents v restarts made → (fault : AppendFault) → StoreRecordErrorCause old new before now made fault → AppendDueErrorCause represents v restarts old new before now fault
  why_not_stored made is (Full stored long) (form, (counts, lasts, same, full)) = (counts, lasts, same, inr (made, is, form, full))
  why_not_stored made is DiskFault why = why
  why_not_stored made is NotInForm (same, unformed) = (same, (made, is, unformed))
  why_not_stored made is NoMemory same = same

module _ {M : Type 0} (represents : Setting → ℕ → Machine → M → Type 0) (v : TraceView M) (k : ℕ) (record_due : IsDueOf v.now.coordinator (due.Record k)) (stored long : ℕ) (st : Setting) (o : CallOpening) where
  pub needed_for_record : (refused : Refused) (count many : ℕ) → (refused ≡ no.NotNow → IsEventDisabled represents v (event.Lead lead.Record)) → no_record refused count many ≡ Full stored long → NeedsMore represents v st o
  needed_for_record no.NotNow count many cannot is = λ events c at call makes runs. needs_more represents v st o events c at (cannot refl) k record_due call makes runs
  needed_for_record no.NoMemory count many cannot is = absurd (cc)

-- a record for which the coordinator has room has room in the store
module _ {D M : Type 0} (represents : Setting → ℕ → Machine → M → Type 0) (v : TraceView M) (can : CanHappenInCall represents v (event.Lead lead.Record))
    (header : Header) (start bodies : List (List ℕ)) (lost order : List Entry) (restarts : Restarts) (st : Setting) (o : CallOpening)
    (k : IsKnownTrace represents v header start bodies lost restarts.stored.items restarts.front.items order st o)
    (made : Record) (behind : IsDueWith represents v restarts made) (fits : NumbersFit made)
    (old new : JournalState D) (before now : ℕ) (header_is : old.header ≡ header) (counts : old.count ≡ length bodies) (lasts : old.length ≡ 65 + records_size bodies) where
  pub not_for_want : (fault : AppendFault) (stored long : ℕ) → StoreRecordErrorCause old new before now made fault → fault ≡ Full stored long → ⊥
  not_for_want (Full kept many) stored long (form, (counts_too, lasts_too, same, full)) is =
      never_full represents v can header start bodies lost order restarts st o k made old.count behind fits (subst (λ (h : Header). IsInForm h old.count made) header_is form) old.length counts lasts full
  not_for_want DiskFault stored long why is = absurd (cc)
  not_for_want NotInForm stored long why is = absurd (cc)
  not_for_want NoMemory stored long why is = absurd (cc)

  -- a record that is due is in the form
  pub not_unformed : (bytes : List ℕ) → bodies ≡ stored_in header bytes → o.first.left < 33554432 → (fault : AppendFault) → StoreRecordErrorCause old new before now made fault → fault ≡ NotInForm → ⊥
  not_unformed bytes bodies_are left NotInForm why is =
      why.1 (subst (λ (h : Header). IsInForm h old.count made) (sym header_is) (in_form represents v can header start bodies lost order restarts st o k made old.count behind fits bytes bodies_are left counts))
  not_unformed bytes bodies_are left (Full kept many) why is = absurd (cc)
  not_unformed bytes bodies_are left DiskFault why is = absurd (cc)
  not_unformed bytes bodies_are left NoMemory why is = absurd (cc)

-- where no record was made
pub never_unformed : (refused : Refused) (count many : ℕ) → no_record refused count many ≡ NotInForm → ⊥
never_unformed no.NotNow count many is = absurd (cc)
never_unformed no.NoMemory count many is = absurd (cc)

-- the fault that an exit answers
pub fault_in : {T : Type 0} (r : Result T AppendFault) (y x full : AppendFault) → r ≡ Err y → y ≡ x → r ≡ Err full → x ≡ full
fault_in {T} r y x full is so other = sym so ∙ same_fault (sym is ∙ other)
  where
    same_fault : ◌≡◌ {A = Result T AppendFault} (Err y) (Err full) → y ≡ full
    same_fault e = cc

-- the same attempt, remembered anew
pub same_anew : {M : Type 0} (old mid new : TraceView M) → IsSameAttempt old mid → IsSameAttempt (record mid { since = new.now }) new → IsSameAttempt (record old { since = new.now }) new
same_anew old mid new one other =
    record { start = other.start ∙ one.start; failures = other.failures ∙ one.failures; done = other.done ∙ one.done; since = other.since; many = other.many ∙ one.many; stopped = other.stopped ∙ one.stopped }

-- ---- the same store, told otherwise

module _ {M : Type 0} (represents : Setting → ℕ → Machine → M → Type 0) (v : TraceView M) (start : List (List ℕ)) (lost order : List Entry) (st : Setting) (o : CallOpening) where
  pub known_as : (header other : Header) (bodies others : List (List ℕ)) (stored now_stored front now_front : List Entry) → other ≡ header → others ≡ bodies → now_stored ≡ stored → now_front ≡ front →
      IsKnownTrace represents v header start bodies lost stored front order st o → IsKnownTrace represents v other start others lost now_stored now_front order st o
  known_as header other bodies others stored now_stored front now_front header_is bodies_are stored_is front_is known =
      subst (λ (h : Header). IsKnownTrace represents v h start others lost now_stored now_front order st o) (sym header_is)
      (subst (λ (bs : List (List ℕ)). IsKnownTrace represents v header start bs lost now_stored now_front order st o) (sym bodies_are)
      (subst (λ (es : List Entry). IsKnownTrace represents v header start bodies lost es now_front order st o) (sym stored_is)
      (subst (λ (es : List Entry). IsKnownTrace represents v header start bodies lost stored es order st o) (sym front_is) known)))

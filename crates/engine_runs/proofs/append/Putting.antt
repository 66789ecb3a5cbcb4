-- What a journal answers, the step answers.
use Rattle.std.proofs.Common.{◌≡◌, ◌⊎◌, ℕ, ◌+◌, ◌<◌, ◌^◌, ◌≤◌, ⊎_elim, Bool, true, false, List, Ok, Err, Result, inl, inr, length, sym, subst, ◌∙◌}
use Rattle.std.specs.Prelude.{IfOk, IsTrue, ◌↔◌}
use Rattle.std.proofs.lemmas.Bool.{cases_lt}
use Rattle.gl_base.specs.declared.memory.NoMemory.{NoMemory as WantOfMemory}
use Rattle.gl_base.specs.declared.snapshots.Record.{Record}
use Rattle.engine_runs.specs.append.Appends.{AppendFault, Header, IsInForm, JournalState}
use Rattle.engine_runs.specs.declared.append.faults.AppendFault.TheVariants.{DiskFault, Full, NoMemory, NotInForm}
use Rattle.engine_runs.specs.append.Inner.Storing.{IsFaultOfAppend, FoldErrorCause, PutErrorCause, StoreRecordErrorCause, IsWithRecord, append_fault}
use Rattle.store.specs.snap_journal.Answers.{IsFullFor, JournalAppendErrorCause}
use Rattle.store.specs.snap_journal.Formats.{IsBeforeOrAfter, IsBody, RecordFits, body_bytes}
use Rattle.store.specs.declared.snap_journal.faults.JournalFault.{JournalFault}
use Rattle.store.specs.declared.snap_journal.faults.JournalFault.TheVariants as fault

pub form_at : (header other : Header) (stored count : ℕ) (made : Record) → header ≡ other → stored ≡ count → IsInForm header stored made → IsInForm other count made
form_at header other stored count made header_is stored_is form =
    subst (λ (h : Header). IsInForm h count made) header_is (subst (λ (n : ℕ). IsInForm header n made) stored_is form)

-- whether it is in the form
pub if_form : (header : Header) (stored number : ℕ) (made : Record) (r : Result Bool WantOfMemory) → made.number ≡ number → number ≡ 1 + stored →
    IfOk r (λ yes. IsTrue yes → RecordFits made) → IfOk r (λ yes. IsTrue yes → IsBody header number (body_bytes made)) → IfOk r (λ yes. RecordFits made → IsBody header number (body_bytes made) → IsTrue yes) →
    IfOk r (λ yes. IsTrue yes ↔ IsInForm header stored made)
if_form header stored number made (Ok found) is next fits form taken = (
  (λ so. record { number = is ∙ next; fits = fits so; form = subst (λ (n : ℕ). IsBody header n (body_bytes made)) next (form so) }),
  (λ its. taken its.fits (subst (λ (n : ℕ). IsBody header n (body_bytes made)) (sym next) its.form)),
)
if_form header stored number made (Err e) is next fits form taken = tt

module _ {D : Type 0} (old new : JournalState D) (before now : ℕ) (made : Record) where
  pub why_no_fold : (header : Header) (stored : ℕ) → header ≡ old.header → stored ≡ old.count → new ≡ old → (fault : AppendFault) → FoldErrorCause header stored made fault → StoreRecordErrorCause old new before now made fault
  why_no_fold header stored header_is stored_is same (Full count long) why = absurd why
  why_no_fold header stored header_is stored_is same DiskFault why = absurd why
  why_no_fold header stored header_is stored_is same NotInForm why = (same, λ form. why (form_at old.header header old.count stored made (sym header_is) (sym stored_is) form))
  why_no_fold header stored header_is stored_is same NoMemory why = same

  pub why_not_put : IsInForm old.header old.count made → (fault : AppendFault) → PutErrorCause old new before now made fault → StoreRecordErrorCause old new before now made fault
  why_not_put form (Full count long) why = (form, why)
  why_not_put form DiskFault why = why
  why_not_put form NotInForm why = absurd why
  why_not_put form NoMemory why = why

  pub fault_is : (well : old.failed ≡ false) (fault : JournalFault) → JournalAppendErrorCause (new ≡ old) old.failed new.failed before now old.count old.length (9 + length (body_bytes made)) fault → IsFaultOfAppend fault
  fault_is well (fault.Full stored long) why = tt
  fault_is well fault.DiskFault why = tt
  fault_is well fault.NoMemory why = tt
  fault_is well (fault.BadStore bad) why = absurd why
  fault_is well fault.Failed why = let failed : true ≡ false = sym why.0 ∙ well in absurd (cc)

  pub why_not_added : (well : old.failed ≡ false) (fault : JournalFault) → JournalAppendErrorCause (new ≡ old) old.failed new.failed before now old.count old.length (9 + length (body_bytes made)) fault →
      PutErrorCause old new before now made (append_fault fault)
  why_not_added well (fault.Full stored long) (was, counts, lasts, full, same) = (counts, lasts, same, full)
  why_not_added well fault.DiskFault (was, is, rose) = (is, rose)
  why_not_added well fault.NoMemory same = same
  why_not_added well (fault.BadStore bad) why = absurd why
  why_not_added well fault.Failed why = let failed : true ≡ false = sym why.0 ∙ well in absurd (cc)

pub with_record : (header : Header) (stored : ℕ) (bodies : List (List ℕ)) (made : Record) → IsInForm header stored made → (image : List ℕ) → IsBeforeOrAfter header bodies (body_bytes made) image → IsWithRecord header stored bodies made image
with_record header stored bodies made form image (inl before) = inl before
with_record header stored bodies made form image (inr after) = inr (after, form)

-- where a record was added the store is not longer than it may be
pub stays_short : (r : Result (Unit {0}) JournalFault) (count old new size : ℕ) → r ≡ Ok tt → new ≡ old + size → (IsFullFor count old size → (r ≡ Err (fault.Full count old)) ⊎ (r ≡ Err fault.NoMemory)) → new ≤ 2 ^ 30
stays_short r count old new size is grown full =
    ⊎_elim
    (λ (over : 2 ^ 30 < old + size). absurd (refused (full (inr over))))
    (λ (within : old + size ≤ 2 ^ 30). subst (λ (n : ℕ). n ≤ 2 ^ 30) (sym grown) within)
    (cases_lt (2 ^ 30) (old + size))
  where
    no_fault : (e : JournalFault) → ◌≡◌ {A = Result (Unit {0}) JournalFault} (Ok tt) (Err e) → ⊥
    no_fault e same = cc

    refused : (r ≡ Err (fault.Full count old)) ⊎ (r ≡ Err fault.NoMemory) → ⊥
    refused (inl one) = no_fault (fault.Full count old) (sym is ∙ one)
    refused (inr other) = no_fault fault.NoMemory (sym is ∙ other)

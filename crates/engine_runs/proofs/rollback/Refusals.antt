-- Why all didn't go back.
use Rattle.std.proofs.Common.{◌≡◌, ℕ, ◌+◌, ◌*◌, ◌≤◌, ◌^◌, ◌∙◌, Bool, true, false, ap₂, subst, sym}
use Rattle.cluster_step.proofs.trace.Going.{stored_now}
use Rattle.cluster_laws.specs.cluster_model.Events.{failures_in}
use Rattle.store.specs.snap_journal.Last.{LastErrorCause}
use Rattle.store.specs.declared.snap_journal.faults.JournalFault.{JournalFault}
use Rattle.store.specs.declared.snap_journal.faults.JournalFault.TheVariants as fault
use Rattle.engine_runs.specs.rollback.Failing.{TraceView, InEachTrace, Machine, Setting, newest_setting}
use Rattle.engine_runs.specs.rollback.Returning.{GoBackErrorCause}

-- no last snapshot was read
pub no_last : (told full : Type 0) (old new : Bool) (before now : ℕ) (why : JournalFault) → LastErrorCause told old new before now why → GoBackErrorCause told full old new before now why
no_last told full old new before now fault.DiskFault is = is
no_last told full old new before now (fault.BadStore reason) is = is
no_last told full old new before now (fault.Full stored bytes) is = absurd is
no_last told full old new before now fault.Failed is = is
no_last told full old new before now fault.NoMemory is = is.1 ∙ sym is.0

-- memory is wanting
pub no_memory : (told full : Type 0) (old new : Bool) (before now : ℕ) (why : JournalFault) → why ≡ fault.NoMemory → new ≡ old → GoBackErrorCause told full old new before now why
no_memory told full old new before now why is same = subst (GoBackErrorCause told full old new before now) (sym is) same

-- the store has no place
pub is_full : (told full : Type 0) (old new : Bool) (before now stored bytes : ℕ) (why : JournalFault) → why ≡ fault.Full stored bytes → full → old ≡ false → new ≡ false → GoBackErrorCause told full old new before now why
is_full told full old new before now stored bytes why is no_place one other = subst (GoBackErrorCause told full old new before now) (sym is) (no_place, one, other)

pub no_place : {M : Type 0} (represents : Setting → ℕ → Machine → M → Type 0) (v : TraceView M) (failures : ℕ) → InEachTrace represents v (λ st o events c. failures ≡ failures_in st c) → 2 ^ 32 ≤ v.now.coordinator.saving.store_end + 16 * failures →
    InEachTrace represents v (λ st o events c. st.stored ≡ true → 2 ^ 32 ≤ c.coordinator.store_end + 16 * failures_in st c)
no_place represents v failures are over st o events c is taken =
    let stored : (newest_setting st o events).stored ≡ true = stored_now st o events taken in
    subst (λ (n : ℕ). 2 ^ 32 ≤ n) (ap₂ (λ (n k : ℕ). n + 16 * k) (sym (is.code.coordinator.saving stored).store_end) (are st o events c is)) over

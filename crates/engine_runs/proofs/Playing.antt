-- A call goes on, pause behind pause.
use Rattle.std.proofs.Common.{◌∙◌, ℕ, ◌≤◌, refl, sym, subst}
use Rattle.graph_core.specs.DataGraph.{DataGraph}
use Rattle.store.proofs.snap_journal.AppendLemmas.{rose_after}
use Rattle.engine_runs.specs.declared.answers.runs.StoredEnd.{StoredEnd}
use Rattle.engine_runs.specs.declared.answers.runs.StoredEnd.TheVariants as end
use Rattle.engine_runs.specs.Calls.{DiskPast, EndsBy, EndsCall, IsRunAt, IsSameCall, JournalState, KeepsCall, Setting}
use Rattle.engine_runs.specs.declared.calls.StoredCall.{StoredCall}
use Rattle.update_api.specs.Updates.{Update}

pub same_first : {P : Type 0} (call : StoredCall P) → IsSameCall call call
same_first call = record { places = refl; start = refl; failures = refl; machines = refl; stopped = refl; saves = refl }

pub same_on : {P : Type 0} (first call later : StoredCall P) → IsSameCall first call → IsSameCall call later → IsSameCall first later
same_on first call later one other = record {
  places = other.places ∙ one.places;
  start = other.start ∙ one.start;
  failures = other.failures ∙ one.failures;
  machines = other.machines ∙ one.machines;
  stopped = other.stopped ∙ one.stopped;
  saves = other.saves ∙ one.saves;
}

-- an end that the later part gives is one of the whole
pub by_on : {D : Type 0} (journal : JournalState D) (before mid now : ℕ) (how : StoredEnd) → before ≤ mid → EndsBy journal mid now how → EndsBy journal before now how
by_on journal before mid now end.Finished low by = by
by_on journal before mid now (end.Spent left) low by = by
by_on journal before mid now (end.Full stored bytes) low by = by
by_on journal before mid now end.DiskFault low by = (by.0, rose_after before mid now low by.1)

module _ {D P : Type 0} (meaning : P → Update) (past : D → DiskPast) (g : DataGraph) (program : Update) (call mid later : StoredCall P) (journal among after : JournalState D) (same : IsSameCall call mid)
    (keeps : KeepsCall meaning past g program call journal mid among) where
  placed : (st : Setting) → IsRunAt g program call.places st → IsRunAt g program mid.places st
  placed st runs = subst (λ (places : _). IsRunAt g program places st) (sym same.places) runs

  pub keeps_on : KeepsCall meaning past g program mid among later after → KeepsCall meaning past g program call journal later after
  keeps_on more start first st o runs at = more start first st o (placed st runs) (keeps start first st o runs at)

  pub ends_on : (how : StoredEnd) → EndsCall meaning past g program mid among later after how → EndsCall meaning past g program call journal later after how
  ends_on how more start first st o runs at = more start first st o (placed st runs) (keeps start first st o runs at)

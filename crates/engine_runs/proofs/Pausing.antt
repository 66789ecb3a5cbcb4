-- A call goes on to its next pause, and is led on or ended there.
use Rattle.std.proofs.Common.{◌≡◌, ◌∙◌, ◌+◌, List, ap, inl, inr, length, refl, sym, subst}
use Rattle.std.specs.Prelude.{Err, IfOk, IfSome, None, Ok, Option, Result, Some, false, ◌++◌, ℕ}
use Rattle.gl_base.specs.declared.numbers.Vertex.{Vertex}
use Rattle.cluster_step.specs.trace.Traces.{InEachTrace}
use Rattle.cluster_step.specs.declared.drive.pauses.Pause.TheVariants as pause
use Rattle.graph_core.specs.DataGraph.{DataGraph}
use Rattle.store.specs.declared.snap_journal.faults.JournalFault.{JournalFault}
use Rattle.engine_runs.specs.declared.answers.runs.StoredEnd.{StoredEnd}
use Rattle.engine_runs.specs.declared.answers.runs.StoredEnd.TheVariants as end
use Rattle.engine_runs.proofs.Going.{still_there}
use Rattle.engine_runs.specs.Calls.{CallOpening, DiskPast, EndsCall, Header, IsCallAt, IsAnyMachineOf, IsKnownAt, IsRunAt, IsSameCall, IsTaskIn, JournalState, KeepsCall, PauseMeaning, Setting, snapshots_in}
use Rattle.engine_runs.specs.declared.calls.StoredCall.{StoredCall}
use Rattle.recovery.specs.Journals.{records_size}
use Rattle.update_api.specs.Updates.{Update}

-- what a call answers as its end is so of another
pub ends_from : (r : Result (Option StoredEnd) JournalFault) (A B : StoredEnd → Type 0) → ((how : StoredEnd) → A how → B how) → IfOk r (λ end. IfSome end A) → IfOk r (λ end. IfSome end B)
ends_from (Ok (Some how)) A B to is = to how is
ends_from (Ok None) A B to is = is
ends_from (Err why) A B to is = is

module _ {D P : Type 0} (meaning : P → Update) (past : D → DiskPast) (g : DataGraph) (program : Update) (call mid : StoredCall P) (journal : JournalState D)
    (same : mid ≡ record call { trace = mid.trace }) (attempt : IsSameCall call mid)
    (known : (header : Header) (start bodies : List (List ℕ)) (st : Setting) (o : CallOpening) → IsKnownAt meaning call.trace call header start bodies st o → IsKnownAt meaning mid.trace mid header start bodies st o)
    (well : journal.failed ≡ false) where
  -- it has gone on
  pub on_at : (start : List (List ℕ)) (first : DiskPast) (st : Setting) (o : CallOpening) → IsCallAt meaning past call journal start first st o → IsCallAt meaning past mid journal start first st o
  on_at start first st o at =
      still_there meaning past call mid journal journal start first st o attempt.failures refl well at (ap (λ (c : StoredCall P). c.snapshots.items) same) refl (known journal.header start (start ++ at.added) st o at.known)

  placed : (st : Setting) → IsRunAt g program call.places st → IsRunAt g program mid.places st
  placed st runs = subst (λ (places : _). IsRunAt g program places st) (sym attempt.places) runs

  pub then_keeps : (later : StoredCall P) (after : JournalState D) → KeepsCall meaning past g program mid journal later after → KeepsCall meaning past g program call journal later after
  then_keeps later after keeps start first st o runs at = keeps start first st o (placed st runs) (on_at start first st o at)

  pub then_ends : (later : StoredCall P) (after : JournalState D) (how : StoredEnd) → EndsCall meaning past g program mid journal later after how → EndsCall meaning past g program call journal later after how
  then_ends later after how ends start first st o runs at = ends start first st o (placed st runs) (on_at start first st o at)

  -- the call has ended
  pub finished : PauseMeaning (IsAnyMachineOf meaning) mid.trace pause.Ended → EndsCall meaning past g program call journal mid journal end.Finished
  finished pauses start first st o runs at =
      let now = on_at start first st o at in
      record { at = now; paused = mid.trace; known = now.known; failures = refl; now = now.known.was.now; gives = inl pauses }

  -- nothing is left, and the end is not saved
  pub quiet : call.saves_end ≡ false → PauseMeaning (IsAnyMachineOf meaning) mid.trace pause.Quiet → EndsCall meaning past g program call journal mid journal end.Finished
  quiet unsaved pauses start first st o runs at =
      let now = on_at start first st o at in
      record { at = now; paused = mid.trace; known = now.known; failures = refl; now = now.known.was.now; gives = inr (attempt.saves ∙ unsaved, pauses) }

  -- the store has as many snapshots as may be, and the call needs more of it
  pub full : (stored bytes : ℕ) → stored ≡ length (snapshots_in past journal) → bytes ≡ 65 + records_size (snapshots_in past journal) → PauseMeaning (IsAnyMachineOf meaning) mid.trace pause.Full →
      EndsCall meaning past g program call journal mid journal (end.Full stored bytes)
  full stored bytes count size pauses start first st o runs at =
      let now = on_at start first st o at in
      record {
        at = now;
        paused = mid.trace;
        known = now.known;
        failures = refl;
        now = now.known.was.now;
        gives = (
          count ∙ ap (length {A = List ℕ}) (now.stored well),
          size ∙ ap (λ (bodies : List (List ℕ)). 65 + records_size bodies) (now.stored well),
          pauses.0,
          λ events c is call makes running. pauses.1 st o events c is call makes,
        );
      }

  -- no ticket is left, and this vertex is a task
  pub spent : (left : Vertex) → PauseMeaning (IsAnyMachineOf meaning) mid.trace pause.Spent → InEachTrace (IsAnyMachineOf meaning) mid.trace (λ st o events c. IsTaskIn st c left.0) →
      EndsCall meaning past g program call journal mid journal (end.Spent left)
  spent left pauses task start first st o runs at =
      let now = on_at start first st o at in
      record { at = now; paused = mid.trace; known = now.known; failures = refl; now = now.known.was.now; gives = (pauses, task st o now.known.was.events now.known.was.cluster now.known.was.now) }

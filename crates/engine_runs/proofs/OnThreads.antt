-- What is known of a call whose machines have gone on on threads.
use Rattle.std.proofs.Common.{Err, IfErr, List, Ok, Result, ap, length, refl, subst, subst₂, sym, ◌<◌, ◌∙◌, ◌≡◌, ℕ}
use Rattle.std.specs.Prelude.{false, slice_index_or}
use Rattle.call_laws.specs.whole_calls.Opened.{IsTraceOfCall}
use Rattle.cluster_step.specs.trace.Traces.{IsSameAttempt, IsTraceNow, Machine, TraceGoesOn, as_since}
use Rattle.engine_runs.proofs.Pausing.{on_at}
use Rattle.engine_runs.proofs.Playing.{keeps_on}
use Rattle.engine_runs.proofs.stores.Keeping.{passes_known}
use Rattle.engine_runs.specs.Calls.{AnyMachine, ArePlacesOf, Begins, CallOpening, CanCallGoOn, DiskPast, EndsCall, Header, IsKnownAt, IsKnownTrace, IsSameCall, JournalState, KeepsCall, Setting, TraceView}
use Rattle.engine_runs.specs.declared.answers.runs.StoredEnd.{StoredEnd}
use Rattle.engine_runs.specs.declared.calls.StoredCall.{StoredCall}
use Rattle.engine_runs.specs.stores.Stores.{IsRememberedAt}
use Rattle.gl_base.specs.declared.entries.Entry.{Entry}
use Rattle.gl_base.specs.declared.jobs.FailureAt.{FailureAt}
use Rattle.graph_core.specs.DataGraph.{DataGraph}
use Rattle.placed_machines.specs.declared.placing.Places.{Places}
use Rattle.recovery.specs.declared.restarts.restarts.Restarts.{Restarts}
use Rattle.update_api.specs.Updates.{Update}

-- ---- the trace

module _ {M : Type 0} (represents : Setting → ℕ → Machine → M → Type 0) (old new : TraceView M) (same : IsSameAttempt (record old { since = new.now }) new) (goes : TraceGoesOn represents old new) where
  -- it, as if it remembered where it was
  abbrev from_there : TraceView M
  from_there = record new { since = old.now }

  at_there : IsRememberedAt old from_there
  at_there = record { start = same.start; failures = same.failures; done = same.done; since = refl }

  goes_there : TraceGoesOn represents (as_since from_there) from_there
  goes_there st o events c is =
      let before : IsTraceNow represents old st o events c =
      record {
        setting = is.setting;
        trace = subst (λ (fs : List FailureAt). IsTraceOfCall st fs o.kept o.resumed o.base o.first events c) same.failures is.trace;
        code = is.code;
        done = subst (λ (ds : List ℕ). (a : ℕ) → a < st.machines → (c.machine a).done ≡ slice_index_or ds a 0) same.done is.done;
      }
      in
      let one = goes st o events c before in
      (one.0, one.1, one.2, record { setting = one.3.setting; trace = one.3.trace; code = one.3.code; done = one.3.done })

  pub goes_known : (header : Header) (start bodies : List (List ℕ)) (lost stored front order : List Entry) (st : Setting) (o : CallOpening) →
      IsKnownTrace represents old header start bodies lost stored front order st o → IsKnownTrace represents new header start bodies lost stored front order st o
  goes_known header start bodies lost stored front order st o known =
      let on : IsKnownTrace represents from_there header start bodies lost stored front order st o = passes_known represents old from_there header start bodies lost stored front order st o at_there goes_there known in
      record {
        kept = on.kept;
        was = record {
          events = on.was.events;
          cluster = on.was.cluster;
          now = record { setting = on.was.now.setting; trace = on.was.now.trace; code = on.was.now.code; done = on.was.now.done };
          keeps = on.was.keeps;
          taken = on.was.taken;
        };
        fits = on.fits;
        stored_are = on.stored_are;
        base = on.base;
        front_are = on.front_are;
        count = on.count;
        place = on.place;
      }

-- ---- the call

pub same_threads : {P : Type 0} (call : StoredCall P) (t : TraceView (AnyMachine P)) → IsSameAttempt (record call.trace { since = t.now }) t → IsSameCall call (record call { trace = t })
same_threads call t same = record { places = refl; start = same.start; failures = same.failures; machines = same.many; stopped = same.stopped; saves = refl }

module _ {P : Type 0} (call on : StoredCall P) (same : on ≡ record call { trace = on.trace }) (attempt : IsSameCall call on) where
  pub can_there : {D : Type 0} (g : DataGraph) (journal : JournalState D) → CanCallGoOn g call journal → CanCallGoOn g on journal
  can_there g journal can = record {
    places = subst₂ (λ (n : ℕ) (p : Places). ArePlacesOf g n p) (sym attempt.machines) (sym attempt.places) can.places;
    header = can.header;
    restarts = subst (λ (r : Restarts). Begins r.stored.items r.front.items) (sym (ap (λ (c : StoredCall P). c.restarts) same)) can.restarts;
    well = can.well;
    running = attempt.stopped ∙ can.running;
  }

  -- from where the call began to where it has come on threads
  pub keeps_there : {D : Type 0} (meaning : P → Update) (past : D → DiskPast) (g : DataGraph) (program : Update) (first : StoredCall P) (journal among : JournalState D) → IsSameCall first call → KeepsCall meaning past g program first journal call among →
      ((header : Header) (start bodies : List (List ℕ)) (st : Setting) (o : CallOpening) → IsKnownAt meaning call.trace call header start bodies st o → IsKnownAt meaning on.trace on header start bodies st o) → among.failed ≡ false →
      KeepsCall meaning past g program first journal on among
  keeps_there meaning past g program first journal among one keeps known well =
      keeps_on meaning past g program first call on journal among among one keeps (λ start from st o runs at. on_at meaning past g program call on among same attempt known well start from st o at)

-- a thread had no memory, whatever the fault is called
pub err_always : {X E : Type 0} (r : Result X E) (Q : Type 0) → Q → IfErr r (λ e. Q)
err_always (Ok x) Q so = tt
err_always (Err e) Q so = so

-- an end says where the call has come to
pub keeps_ended : {D P : Type 0} (meaning : P → Update) (past : D → DiskPast) (g : DataGraph) (program : Update) (call later : StoredCall P) (journal after : JournalState D) (how : StoredEnd) → EndsCall meaning past g program call journal later after how →
    KeepsCall meaning past g program call journal later after
keeps_ended meaning past g program call later journal after how ends start first st o runs at = (ends start first st o runs at).at

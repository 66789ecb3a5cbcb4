-- What a run is, with a store or without one, where its call has ended.
use Rattle.std.proofs.Common.{◌≡◌, ℕ, ◌∙◌, Bool, List, [], ◌∷◌, ◌++◌, ap, inl, inr, length, refl, subst, subst₂, sym}
use Rattle.std.proofs.lemmas.List.{append_cancel_left}
use Rattle.std.specs.Prelude.{false, suc, true}
use Rattle.gl_base.specs.declared.entries.Entry.{Entry}
use Rattle.gl_base.specs.declared.jobs.FailureAt.{FailureAt}
use Rattle.call_laws.specs.attempts.Stores.{snapshots_of}
use Rattle.call_laws.specs.call_answers.Answers.{IsRunWithFailures, KeepsToWindow, RunLists, Shared}
use Rattle.call_laws.specs.call_answers.Ends.{SpendsRun}
use Rattle.call_laws.specs.call_answers.Traces.{ListsOfTrace}
use Rattle.engine_runs.specs.finish.Ends.{CallEndMeaning, IsEndedRun}
use Rattle.engine_runs.specs.finish.Gathered.{GathersFrom, IsGathered, gathered_lists}
use Rattle.engine_runs.specs.declared.finish.gathering.CallLists.{CallLists}
use Rattle.cluster_laws.specs.cluster_model.Events as law
use Rattle.graph_core.specs.DataGraph.{DataGraph}
use Rattle.engine_runs.specs.answers.Ends.{RunEndMeaning}
use Rattle.engine_runs.specs.answers.Unstored.{EndsUnstored, HasRestartsFirst, IsUnstoredRun}
use Rattle.engine_runs.specs.declared.answers.runs.SnapLine.{SnapLine}
use Rattle.engine_runs.specs.unstored.Inner.Going.{GivesUnstored}
use Rattle.engine_runs.specs.declared.answers.runs.StoredEnd.{StoredEnd}
use Rattle.engine_runs.specs.declared.answers.runs.StoredEnd.TheVariants as end
use Rattle.engine_runs.specs.Calls.{AreSnapLines, CallOpening, Cluster, Header, IsAnyMachineOf, IsRunAt, PauseGives, Setting, orders_behind, shared_of, stored_order}
use Rattle.engine_runs.specs.Runs.{HasTraceOf, IsEndAt, IsRunSo}
use Rattle.engine_runs.specs.declared.calls.StoredCall.{StoredCall}
use Rattle.update_api.specs.Updates.{Update}

module _ {P : Type 0} (meaning : P → Update) (g : DataGraph) (program : Update) (call : StoredCall P) (header : Header) (start added : List (List ℕ)) (st : Setting) (o : CallOpening) (how : StoredEnd) (runs : IsRunAt g program call.places st) (at : IsEndAt meaning call header start added st o how) where
  abbrev c : Cluster
  c = at.known.was.cluster

  abbrev events : List law.Event
  events = at.known.was.events

  -- the lists are gathered from this course
  pub gathers : GathersFrom g call.places call.order.items call.lost.items st o events c
  gathers = record { graph = runs.placed.graph; owners = runs.placed.owners; base = at.known.base; taken = at.known.was.taken }

  -- and they are its lists
  pub trace_so : (failures : List FailureAt) → call.trace.failures ≡ failures → (lists : CallLists) → IsGathered call.trace.failures st o events c call.lost.items lists → HasTraceOf failures st o events c (gathered_lists call.lost.items lists)
  trace_so failures same lists is = subst (λ (fs : List FailureAt). HasTraceOf fs st o events c (gathered_lists call.lost.items lists)) same (at.now.trace, is.are)

  module _ (failures : List FailureAt) (same : call.trace.failures ≡ failures) (running : call.trace.now.stopped ≡ false) (lists : CallLists) (is : IsGathered call.trace.failures st o events c call.lost.items lists)
      (ended : ListsOfTrace st at.paused.failures o.base o.first events c (gathered_lists call.lost.items lists) → IsEndedRun (IsAnyMachineOf meaning) at.paused start (start ++ added) st o events c (gathered_lists call.lost.items lists)) where
    abbrev found : RunLists
    found = gathered_lists call.lost.items lists

    all : IsEndedRun (IsAnyMachineOf meaning) at.paused start (start ++ added) st o events c found
    all = ended (subst (λ (fs : List FailureAt). ListsOfTrace st fs o.base o.first events c found) (sym at.failures) is.are)

    orders : snapshots_of all.call ≡ orders_behind (stored_order start) added
    orders = sym all.snapshots ∙ ap (orders_behind (stored_order start)) (sym (append_cancel_left start added all.added all.stored))

    shared_is : shared_of st at.paused.failures ≡ shared_of st failures
    shared_is = ap (λ (fs : List FailureAt). shared_of st fs) (at.failures ∙ same)

    ends_by : (takes : st.stored ≡ true) (e : StoredEnd) → PauseGives call.saves_end meaning at.paused (start ++ added) st o c e → CallEndMeaning call.saves_end at.paused st o (length start) all.call found e
    ends_by takes end.Finished (inl ended) = all.finished takes call.saves_end ended
    ends_by takes end.Finished (inr quiet) = subst (λ (saves : Bool). CallEndMeaning saves at.paused st o (length start) all.call found end.Finished) (sym quiet.0) (all.quiet quiet.1)
    ends_by takes (end.Spent left) gives = all.spent_room takes gives.0 left gives.1 call.saves_end
    ends_by takes (end.Full stored bytes) gives =
        subst₂ (λ (n k : ℕ). CallEndMeaning call.saves_end at.paused st o (length start) all.call found (end.Full n k)) (sym gives.0) (sym gives.1)
        (all.full gives.2 (gives.3 events c at.known.was.now all.call all.makes (at.now.code.stopped ∙ running)) call.saves_end)
    ends_by takes end.DiskFault gives = tt

    ends_so : st.stored ≡ true → RunEndMeaning call.saves_end (shared_of st failures) st.machines st.window o.first.left (length start) (stored_order start) (orders_behind (stored_order start) added) all.call.last.struck found how
    ends_so takes =
        subst (λ (s : Shared). RunEndMeaning call.saves_end s st.machines st.window o.first.left (length start) (stored_order start) (orders_behind (stored_order start) added) all.call.last.struck found how) shared_is
        (subst₂ (λ (ks : List Entry) (os : List (List Entry)). RunEndMeaning call.saves_end (shared_of st at.paused.failures) st.machines st.window o.first.left (length start) ks os all.call.last.struck found how) at.known.kept orders (ends_by takes how at.gives))

    pub run_so : st.stored ≡ true → IsRunSo call.saves_end st failures o start added (record { order = lists.order; lost = call.lost; done = lists.done; fired = lists.fired; snapshots = call.snapshots; numbers = lists.numbers; end = how })
    run_so takes = record {
      unanswered = all.call.last.struck;
      is = subst₂ (λ (s : Shared) (ks : List Entry). IsRunWithFailures s st.machines ks o.resumed all.call.last.struck found) shared_is at.known.kept all.is;
      keeps = subst₂ (λ (ks : List Entry) (os : List (List Entry)). KeepsToWindow st.window ks os found) at.known.kept orders (all.keeps takes);
      few = all.few;
      lines = subst (λ (fs : List FailureAt). AreSnapLines (shared_of st fs) (suc (length start)) (orders_behind (stored_order start) added) call.snapshots.items) same at.lines;
      numbers_are = is.numbers;
      ends = ends_so takes;
    }

    -- without a store
    abbrev EndsAlone : Shared → StoredEnd → Type 0
    EndsAlone shared e = EndsUnstored shared o.first.left found e

    alone_by : (e : StoredEnd) → GivesUnstored meaning at.paused st c e → EndsAlone (shared_of st at.paused.failures) e × (all.call.last.struck ≡ 0)
    alone_by end.Finished gives = ((all.quiet gives).finished, (all.quiet gives).answered)
    alone_by (end.Spent left) gives =
        let spends : SpendsRun (shared_of st at.paused.failures) o.first.left left.0 all.call.last.struck found = all.spent gives.0 left gives.1 in
        (subst (λ (n : ℕ). SpendsRun (shared_of st at.paused.failures) o.first.left left.0 n found) spends.answered spends, spends.answered)
    alone_by (end.Full stored bytes) gives = absurd gives
    alone_by end.DiskFault gives = absurd gives

    no_lines : (shared : Shared) (number : ℕ) (lines : List SnapLine) → AreSnapLines shared number [] lines → lines ≡ []
    no_lines shared number [] are = refl
    no_lines shared number (line ∷ lines) are = absurd are

    pub run_alone : start ≡ [] → added ≡ [] → o.resumed ≡ false → GivesUnstored meaning at.paused st c how → HasRestartsFirst lists.order.items →
        IsUnstoredRun (shared_of st failures) st.machines o.first.left (record { order = lists.order; lost = call.lost; done = lists.done; fired = lists.fired; snapshots = call.snapshots; numbers = lists.numbers; end = how })
    run_alone started none resumed gives again =
        let kept : o.kept ≡ [] = at.known.kept ∙ ap stored_order started in
        let ends = alone_by how gives in
        let orders_none : orders_behind (stored_order start) added ≡ [] = ap (orders_behind (stored_order start)) none in
        record {
          is = subst₂ (λ (s : Shared) (n : ℕ). IsRunWithFailures s st.machines [] false n found) shared_is ends.1
              (subst₂ (λ (ks : List Entry) (r : Bool). IsRunWithFailures (shared_of st at.paused.failures) st.machines ks r all.call.last.struck found) kept resumed all.is);
          again = again;
          few = all.few;
          snapshots = no_lines (shared_of st call.trace.failures) (suc (length start)) call.snapshots.items (subst (λ (os : List (List Entry)). AreSnapLines (shared_of st call.trace.failures) (suc (length start)) os call.snapshots.items) orders_none at.lines);
          numbers_are = is.numbers;
          ends = subst (λ (s : Shared). EndsAlone s how) shared_is ends.0;
        }

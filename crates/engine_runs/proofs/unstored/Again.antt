-- In a run without a store all restarts stand before all updates.
use Rattle.std.proofs.Common.{◌≡◌, ℕ, ◌∙◌, true, false, suc, List, [], ◌∷◌, ◌++◌, ap, ap₂, append-nil, filter, map, refl, subst, sym}
use Rattle.std.proofs.lemmas.List.Elements.{filter-append}
use Rattle.std.specs.List.{range_with_len}
use Rattle.std.specs.Prelude.{Bool}
use Rattle.call_laws.proofs.attempts.Opening.{last_begins, opening_begins}
use Rattle.call_laws.proofs.whole_calls.Calling.{the_call}
use Rattle.call_laws.specs.attempts.Entries.{is_restart, is_update}
use Rattle.call_laws.specs.attempts.EngineCalls.{EngineCall, IsEngineCall, last_beginning, opening}
use Rattle.call_laws.specs.call_answers.Traces.{IsMerge, ListsOfTrace, all_logged, machine_logs}
use Rattle.call_laws.specs.whole_calls.Called.{IsCallOf}
use Rattle.call_laws.specs.whole_calls.Opened.{IsTraceOfCall}
use Rattle.cluster_laws.proofs.merged_logs.PartLemmas.{logs_merge, updates_rise}
use Rattle.cluster_laws.specs.cluster_cuts.Goings.{AreUpdatesFrom}
use Rattle.cluster_laws.specs.cluster_model.Clusters.{BaseView, Cluster}
use Rattle.cluster_laws.specs.cluster_model.Events.{Event}
use Rattle.cluster_laws.specs.cluster_runs.Recorded.{shared_of}
use Rattle.cluster_laws.specs.merged_logs.Merges.{logs_of}
use Rattle.engine_runs.proofs.rollback.Restarted.{all_kept}
use Rattle.engine_runs.specs.answers.Unstored.{HasRestartsFirst, RunLists}
use Rattle.engine_runs.specs.unstored.Inner.Going.{AreRestartsAlone, Setting}
use Rattle.gl_base.specs.declared.entries.Entry.{Entry}
use Rattle.gl_base.specs.declared.entries.Entry.TheVariants.{Go, Restart}
use Rattle.gl_base.specs.declared.jobs.FailureAt.{FailureAt}

not_so : false ≡ true → ⊥
not_so is = cc

-- restarts alone have no update
none_made : (entries : List Entry) → AreRestartsAlone entries → filter is_update entries ≡ []
none_made [] are = refl
none_made (Go machine vertex ticket ∷ entries) are = absurd (not_so are.0)
none_made (Restart ticket ∷ entries) are = none_made entries are.1

-- updates have no restart
none_again : (next : ℕ) (made : List Entry) → AreUpdatesFrom next made → filter is_restart made ≡ []
none_again next [] are = refl
none_again next (Go machine vertex ticket ∷ made) are = none_again (suc next) made are.1
none_again next (Restart ticket ∷ made) are = absurd are

all_made : (next : ℕ) (made : List Entry) → AreUpdatesFrom next made → filter is_update made ≡ made
all_made next [] are = refl
all_made next (Go machine vertex ticket ∷ made) are = ap (λ (es : List Entry). Go machine vertex ticket ∷ es) (all_made (suc next) made are.1)
all_made next (Restart ticket ∷ made) are = absurd are

-- restarts, and behind them updates
restarts_first : (front made : List Entry) (next : ℕ) → AreRestartsAlone front → AreUpdatesFrom next made → HasRestartsFirst (front ++ made)
restarts_first front made next alone updates =
    let again : filter is_restart (front ++ made) ≡ front =
    filter-append is_restart front made ∙ ap₂ (λ (xs ys : List Entry). xs ++ ys) (all_kept front alone) (none_again next made updates) ∙ append-nil front in
    let rest : filter is_update (front ++ made) ≡ made =
    filter-append is_update front made ∙ ap₂ (λ (xs ys : List Entry). xs ++ ys) (none_made front alone) (all_made next made updates) in
    sym (ap₂ (λ (xs ys : List Entry). xs ++ ys) again rest)

-- the lists of a course whose newest attempt began with restarts alone
pub first_in : (st : Setting) (failures : List FailureAt) (kept : List Entry) (base : BaseView) (first : Cluster) (events : List Event) (c : Cluster) (lists : RunLists) (resumed : Bool) → IsTraceOfCall st failures kept resumed base first events c →
    ListsOfTrace st failures base first events c lists → AreRestartsAlone c.base.order → HasRestartsFirst lists.order
first_in st failures kept base first events c lists resumed trace are alone =
    let made = the_call st failures kept resumed base first events c trace in
    let call : EngineCall = made.0 in
    let of : IsCallOf st failures kept resumed c call = made.1 in
    let is : IsEngineCall (shared_of st failures) call = of.is in
    let tickets : AreUpdatesFrom (last_beginning call).next call.last.made = (last_begins (shared_of st failures) (opening call) call.failed call.last (opening_begins (shared_of st failures) call is) is.attempts).1.tickets in
    let logs : machine_logs st.machines c ≡ logs_of st.machines call.last.made = ap (λ (log : ℕ → List Entry). map log (range_with_len 0 st.machines)) (λ i. λ m. of.logs m i) in
    let merged : are.merged ≡ call.last.made = logs_merge st.machines call.last.made are.merged (updates_rise (last_beginning call).next call.last.made tickets) of.machines
    (subst (λ (ls : List (List Entry)). IsMerge (all_logged ls) are.merged) logs are.merges) in
    subst HasRestartsFirst (sym (are.order ∙ ap (λ (es : List Entry). c.base.order ++ es) merged)) (restarts_first c.base.order call.last.made (last_beginning call).next alone tickets)

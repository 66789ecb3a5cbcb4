-- The logs of a coherent cluster merge to its order.
use Rattle.std.proofs.Common.{◌≡◌, ℕ, ◌<◌, ◌==◌, ◌&&◌, not, Bool, true, suc, List, [], ◌∷◌, map, sym, subst, ⊎_elim}
use Rattle.std.specs.List.{AllByRecursion, range_with_len}
use Rattle.std.proofs.lemmas.Bool.{and_parts, ltb-true, or_cases}
use Rattle.gl_base.specs.declared.entries.Entry.{Entry}
use Rattle.gl_base.specs.declared.entries.Entry.TheVariants.{Go, Restart}
use Rattle.graph_core.specs.DataGraph.{size}
use Rattle.seq_run.specs.Orders.{all_tasks}
use Rattle.seq_run.specs.States.{GraphState}
use Rattle.cluster_laws.specs.cluster_core.Settings.{IsSetting, Setting}
use Rattle.cluster_laws.specs.cluster_cuts.Goings.{AreUpdatesFrom, IsByOwner}
use Rattle.cluster_laws.specs.merged_logs.Merges.{IsByMachineBelow, IsMerge, all_logged, logs_of}
use Rattle.cluster_laws.proofs.merged_logs.PartLemmas.{logs_merge, updates_rise}
use Rattle.full_scope.specs.FullOrders.{IsFullyValid, IsFullyValidFrom, full_entry, full_tasks_entry}
use Rattle.full_scope.specs.FullStates.{full_start, full_wakes}
use Rattle.full_scope.specs.FullUpdates.{FullUpdate}
use Rattle.full_scope.proofs.WithEach.{full_wakes-within}
use Rattle.full_laws.specs.FullReplays.{IsFullCoherent}
use Rattle.full_laws.specs.FullWorlds.{FullWorld}

module _ (st : Setting) (is : IsSetting st) (p : FullUpdate) where
  -- only vertices are tasks, so each update was made by one of the machines
  all_below : (s : GraphState) (tasks : ℕ → Bool) (next : ℕ) (order : List Entry) → ((u : ℕ) → tasks u ≡ true → u < size st.graph) → IsFullyValidFrom st.graph p s tasks order → AreUpdatesFrom next order → AllByRecursion (IsByOwner st.owner) order → AllByRecursion (IsByMachineBelow st.machines) order
  all_below s tasks next [] low valid tickets owners = tt
  all_below s tasks next (Go machine vertex ticket ∷ order) low valid tickets owners =
      let here : machine.0 < st.machines = subst (λ a. a < st.machines) (sym owners.0) (is.owner vertex.0 (low vertex.0 valid.0)) in
      let entry : Entry = Go machine vertex ticket in (
        here,
        all_below (full_entry st.graph p s entry) (full_tasks_entry st.graph p s tasks entry) (suc next) order
            (λ u task. ⊎_elim
            (λ (woken : full_wakes st.graph p s vertex.0 u ≡ true). full_wakes-within st.graph p s vertex.0 is.graph u woken)
            (λ (old : (tasks u && not (u == vertex.0)) ≡ true). low u (and_parts (tasks u) (not (u == vertex.0)) old).0)
            (or_cases (full_wakes st.graph p s vertex.0 u) (tasks u && not (u == vertex.0)) task))
            valid.1 tickets.1 owners.1,
      )
  all_below s tasks next (Restart ticket ∷ order) low valid tickets owners = absurd tickets

  pub merge_law : (w : FullWorld) (kept : IsFullCoherent st p w) (merged : List Entry) → IsMerge (all_logged (map (λ a. (w.part a).log) (range_with_len 0 st.machines))) merged → (merged ≡ kept.order) × IsFullyValid st.graph p merged
  merge_law w kept merged merge =
      let r = kept.replay in
      let below = all_below (full_start st.graph p) (all_tasks st.graph) 0 kept.order (λ u task. ltb-true u (size st.graph) task) r.valid r.tickets r.owners in
      let logs : IsMerge (all_logged (logs_of st.machines kept.order)) merged = subst (λ f. IsMerge (all_logged (map f (range_with_len 0 st.machines))) merged) (λ k a. r.logs a k) merge in
      let same : merged ≡ kept.order = logs_merge st.machines kept.order merged (updates_rise 0 kept.order r.tickets) below logs in
      (same, subst (IsFullyValid st.graph p) (sym same) r.valid)

-- What holds of the numbers once no task is left.
use Rattle.std.proofs.Common.{◌≡◌, ◌≢◌, ℕ, ◌<◌, ◌==◌, ◌&&◌, Bool, true, false, not, List, [], ◌∷◌, sym, ◌∙◌, subst, ⊎_elim, true≢false, ltb-true, lt-ltb, ne_eqb}
use Rattle.std.proofs.lemmas.Bool.{cases_eq, or_cases, or_parts, and_parts, and_cases}
use Rattle.gl_base.specs.declared.entries.Entry.{Entry}
use Rattle.gl_base.specs.declared.entries.Entry.TheVariants.{Go, Restart}
use Rattle.graph_core.specs.DataGraph.{DataGraph, size, IsDataGraph}
use Rattle.full_scope.specs.FullUpdates.{FullUpdate}
use Rattle.seq_run.specs.States.{GraphState}
use Rattle.seq_run.specs.Orders.{all_tasks, MayCome}
use Rattle.full_scope.specs.FullStates.{full_start, after_full, full_wakes}
use Rattle.full_scope.specs.FullOrders.{full_entry, full_replay, full_replay_from, full_tasks_entry, full_tasks_from, IsFullyFinished, IsFullyValidFrom, IsFullyValid}
use Rattle.full_scope.proofs.WithEach.{full_wakes-within}

-- Good is kept by each update; an update settles its vertex, and each vertex that it doesn't wake stays settled.
module _ (g : DataGraph) (is : IsDataGraph g) (p : FullUpdate) (Good : GraphState → Type 0) (Settled : ℕ → GraphState → Type 0) (goes : (s : GraphState) (v : ℕ) → v < size g → Good s → Good (after_full g p s v)) (settles : (s : GraphState) (v : ℕ) → v < size g → Good s → Settled v (after_full g p s v)) (stays : (s : GraphState) (v w : ℕ) → v < size g → w < size g → Good s → w ≢ v → full_wakes g p s v w ≡ false → Settled w s → Settled w (after_full g p s v)) where
  -- tasks are vertices, and each vertex that is none is settled
  pub record Stands (s : GraphState) (tasks : ℕ → Bool) : Type 0 where
    pub good : Good s
    pub within : (u : ℕ) → tasks u ≡ true → u < size g
    pub settled : (w : ℕ) → w < size g → tasks w ≡ false → Settled w s

  pub all_stand : (s : GraphState) → Good s → Stands s (all_tasks g)
  all_stand s good =
      record {
        good = good;
        within = λ u task. ltb-true u (size g) task;
        settled = λ w within no_task. absurd (true≢false (sym (lt-ltb w (size g) within) ∙ no_task));
      }

  pub step : (s : GraphState) (tasks : ℕ → Bool) (entry : Entry) → MayCome tasks entry → Stands s tasks → Stands (full_entry g p s entry) (full_tasks_entry g p s tasks entry)
  step s tasks (Restart ticket) may st = all_stand s st.good
  step s tasks (Go machine vertex ticket) may st =
      let v = vertex.0 in
      let within = st.within v may in
      record {
        good = goes s v within st.good;
        within = λ u task. ⊎_elim
            (λ (woken : full_wakes g p s v u ≡ true). full_wakes-within g p s v is u woken)
            (λ (was : (tasks u && not (u == v)) ≡ true). st.within u (and_parts (tasks u) (not (u == v)) was).0)
            (or_cases (full_wakes g p s v u) (tasks u && not (u == v)) task);
        settled = λ w w_within no_task.
            let parts = or_parts (full_wakes g p s v w) (tasks w && not (w == v)) no_task in ⊎_elim
            (λ (same : w ≡ v). subst (λ x. Settled x (after_full g p s v)) (sym same) (settles s v within st.good))
            (λ (other : w ≡ v → ⊥). ⊎_elim
            (λ (was_none : tasks w ≡ false). stays s v w within w_within st.good other parts.0 (st.settled w w_within was_none))
            (λ (same : not (w == v) ≡ false). absurd (true≢false (rw (ne_eqb w v other) at same)))
            (and_cases (tasks w) (not (w == v)) parts.1))
            (cases_eq w v);
      }

  rest_stands : (s : GraphState) (tasks : ℕ → Bool) (order : List Entry) → IsFullyValidFrom g p s tasks order → Stands s tasks → Stands (full_replay_from g p s order) (full_tasks_from g p s tasks order)
  rest_stands s tasks [] valid st = st
  rest_stands s tasks (entry ∷ order) valid st =
      rest_stands (full_entry g p s entry) (full_tasks_entry g p s tasks entry) order valid.1 (step s tasks entry valid.0 st)

  -- after any valid order the numbers are good
  pub always_good : (order : List Entry) → IsFullyValid g p order → Good (full_start g p) → Good (full_replay g p order)
  always_good order valid start = (rest_stands (full_start g p) (all_tasks g) order valid (all_stand (full_start g p) start)).good

  -- and once no task is left, each vertex is settled
  pub at_rest : (order : List Entry) → IsFullyValid g p order → IsFullyFinished g p order → Good (full_start g p) → (w : ℕ) → w < size g → Settled w (full_replay g p order)
  at_rest order valid finished start w within =
      (rest_stands (full_start g p) (all_tasks g) order valid (all_stand (full_start g p) start)).settled w within (finished w within)

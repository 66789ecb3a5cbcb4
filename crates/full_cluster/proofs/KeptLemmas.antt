-- What an update leaves at its home, where its numbers were gathered.
use Rattle.std.proofs.Common.{◌≡◌, ℕ, ◌<◌, ◌==◌, ◌&&◌, ◌||◌, not, Bool, true, false, None, Option, Some, unwrap_or, All, List, length, map, slice_index, slice_index_or, sym, ◌∙◌, ap, ap₂, subst, ⊎_elim}
use Rattle.std.proofs.lemmas.Bool.{and_from, and_right, cases_Bool, cond-false, cond-true}
use Rattle.gl_base.specs.declared.entries.Entry.{Entry}
use Rattle.gl_base.specs.declared.scopes.ScopeId.{ScopeId}
use Rattle.graph_core.specs.declared.halves.Half.{Half}
use Rattle.graph_core.specs.DataGraph.{size}
use Rattle.graph_core.specs.HalfRows.{data_half}
use Rattle.graph_core.specs.Halves.{DataHalf, halves_of}
use Rattle.graph_core.proofs.HalvesLaws.{IsHalfAt, each-weaker, halves_are}
use Rattle.update_api.specs.declared.woken.Woken.{Woken}
use Rattle.seq_run.specs.Runs.{AreNumbers}
use Rattle.seq_run.specs.States.{GraphState, is_woken, near_of}
use Rattle.seq_run.proofs.EachOf.{each_is}
use Rattle.cluster_laws.specs.cluster_core.Effects.{is_end}
use Rattle.cluster_laws.specs.cluster_core.Settings.{IsSetting, Setting, is_in_scope, nth_edge}
use Rattle.cluster_laws.proofs.cluster_core.Nearness.{scope_within, scoped_itself, scoped_near}
use Rattle.cluster_laws.proofs.cluster_numbers.EdgeEnds.{ends_near, half_between}
use Rattle.full_scope.specs.FullStates.{AgreeAround, after_full, full_wakes}
use Rattle.full_scope.specs.FullUpdates.{FullUpdate}
use Rattle.full_scope.proofs.WithEach.{after-edge_same, after-vertex_same, full_wakes-same}
use Rattle.full_laws.specs.FullEffects.{its_numbers, lent_full, updated_full, wakes_there}
use Rattle.full_laws.specs.FullParts.{FullPart}
use Rattle.full_laws.specs.Items.{AVertex, AnEdge, IsItem, Item, is_written, keeps, number_in}
use Rattle.full_laws.proofs.FullMaking.{end_is, keeps_edge, near_with, unwritten}
use Rattle.full_cluster.specs.Given.{AreOfScope, HasLists, is_marked}
use Rattle.full_cluster.specs.Inner.Making.{IsMade}
use Rattle.full_cluster.specs.Inner.Rows.{wakes_own}
use Rattle.full_cluster.specs.Written.{state_in}
use Rattle.full_cluster.proofs.FinishLemmas.{own_woken}

-- what was made has the numbers of a state that has the same of all that the update writes
pub made_as : (st : Setting) (is : IsSetting st) (v : ℕ) → v < size st.graph → (a b : GraphState) → ((i : Item) → IsItem st.graph i → is_written st v i ≡ true → number_in a i ≡ number_in b i) → (centre : ℕ) (row : List ℕ) → IsMade st.graph a v centre row → IsMade st.graph b v centre row
made_as st is v low a b same centre row made =
    let all : All (IsHalfAt st.graph is.graph v) (halves_of st.graph v) = each_is (IsHalfAt st.graph is.graph v) (halves_of st.graph v) (halves_are st.graph is.graph v) in
    record {
      own = made.own ∙ same (AVertex v) low (scoped_itself st is v);
      count = made.count;
      near = λ i d inside.
          let h : DataHalf = slice_index_or (halves_of st.graph v) i d in
          let between = half_between st is v h (all i d inside) in
          let scoped : is_in_scope st v h.other ≡ true = scoped_near st is v h.other (ends_near st is h.edge v h.other between.0 between.1) in
          made.near i d inside ∙ same (AVertex h.other) (scope_within st is v h.other low scoped) scoped;
      edge = λ i d inside.
          let h : DataHalf = slice_index_or (halves_of st.graph v) i d in
          let between = half_between st is v h (all i d inside) in
          made.edge i d inside ∙ same (AnEdge h.edge) between.0 (end_is (nth_edge st h.edge) v h.other between.1);
    }

module _ (st : Setting) (is : IsSetting st) (p : FullUpdate) (v me : ℕ) (low : v < size st.graph) (owned : st.owner v ≡ me) (old_numbers old_edges : List ℕ) (old_tasks : List Bool) (part : FullPart) (has : HasLists st me old_numbers old_edges old_tasks part) (f : ℕ → Option ℕ) (scope : AreOfScope st v f)
    (written : List ℕ) (are : (x : ℕ) → x < size st.graph → slice_index written x ≡ unwrap_or (f x) (slice_index old_numbers x)) where
  abbrev s : GraphState
  s = state_in written old_edges

  abbrev lent : GraphState
  lent = lent_full f part

  vertex_same : (x : ℕ) → is_in_scope st v x ≡ true → s.vertex x ≡ lent.vertex x
  vertex_same x scoped =
      let given = scope.inside x scoped in
      are x (scope_within st is v x low scoped) ∙ ap (λ o. unwrap_or o (slice_index old_numbers x)) given.1 ∙ sym (ap (λ o. unwrap_or o 0) given.1)

  edge_same : (e : ℕ) → e < length st.graph.edges → is_end (nth_edge st e) v ≡ true → s.edge e ≡ lent.edge e
  edge_same e inside at = has.numbers_are (AnEdge e) inside (subst (λ a. keeps st a (AnEdge e) ≡ true) owned (keeps_edge st is e v at))

  agree : AgreeAround st.graph s lent v
  agree =
      record {
        own = vertex_same v (scoped_itself st is v);
        near = each-weaker (IsHalfAt st.graph is.graph v) (λ h. near_of s h ≡ near_of lent h)
            (λ h half.
            let between = half_between st is v h half in
            ap₂ (near_with h) (vertex_same h.other (scoped_near st is v h.other (ends_near st is h.edge v h.other between.0 between.1))) (edge_same h.edge between.0 (end_is (nth_edge st h.edge) v h.other between.1)))
            (halves_of st.graph v) (halves_are st.graph is.graph v);
      }

  pub wakes_same : (u : ℕ) → full_wakes st.graph p s v u ≡ full_wakes st.graph p lent v u
  wakes_same u = full_wakes-same st.graph p s lent v agree u

  pub after_same : (i : Item) → IsItem st.graph i → is_written st v i ≡ true → number_in (after_full st.graph p s v) i ≡ number_in (after_full st.graph p lent v) i
  after_same (AVertex x) inside at = after-vertex_same st.graph p s lent v agree x (vertex_same x at)
  after_same (AnEdge e) inside at = after-edge_same st.graph p s lent v agree e (edge_same e inside at)

  -- what was gathered are numbers of the scope alone
  stays : (i : Item) → IsItem st.graph i → keeps st me i ≡ true → is_written st v i ≡ false → number_in s i ≡ part.number i
  stays (AVertex x) inside keep away = are x inside ∙ ap (λ o. unwrap_or o (slice_index old_numbers x)) (scope.outside x away) ∙ has.numbers_are (AVertex x) inside keep
  stays (AnEdge e) inside keep away = has.numbers_are (AnEdge e) inside keep

  left : (numbers edges : List ℕ) → AreNumbers (size st.graph) (after_full st.graph p s v).vertex numbers → AreNumbers (length st.graph.edges) (after_full st.graph p s v).edge edges →
      (i : Item) → IsItem st.graph i → number_in (state_in numbers edges) i ≡ number_in (after_full st.graph p s v) i
  left numbers edges vertices marks (AVertex x) inside = vertices.each x inside
  left numbers edges vertices marks (AnEdge e) inside = marks.each e inside

  numbers_left : (numbers edges : List ℕ) → AreNumbers (size st.graph) (after_full st.graph p s v).vertex numbers → AreNumbers (length st.graph.edges) (after_full st.graph p s v).edge edges →
      (i : Item) → IsItem st.graph i → keeps st me i ≡ true → number_in (state_in numbers edges) i ≡ unwrap_or (its_numbers st (after_full st.graph p lent v) v me i) (part.number i)
  numbers_left numbers edges vertices marks i inside keep = left numbers edges vertices marks i inside ∙ ⊎_elim
      (λ (at : is_written st v i ≡ true).
      after_same i inside at
      ∙ ap (λ o. unwrap_or o (part.number i)) (sym (cond-true (keeps st me i && is_written st v i) (Some (number_in (after_full st.graph p lent v) i)) None (and_from (keeps st me i) (is_written st v i) keep at))))
      (λ (away : is_written st v i ≡ false).
      unwritten st is p s v i away ∙ stays i inside keep away
      ∙ ap (λ o. unwrap_or o (part.number i)) (sym (cond-false (keeps st me i && is_written st v i) (Some (number_in (after_full st.graph p lent v) i)) None (and_right (keeps st me i) (is_written st v i) away))))
      (cases_Bool (is_written st v i))

  tasks_left : (owner : ℕ → ℕ) (woken : Woken) (halves : List Half) (u : ℕ) → st.owner ≡ owner → map data_half halves ≡ halves_of st.graph v →
      ((y : ℕ) → full_wakes st.graph p s v y ≡ is_woken woken (halves_of st.graph v) y) → wakes_own owner me woken halves u ≡ wakes_there st p lent v me u
  tasks_left owner woken halves u owners same wakes =
      own_woken owner me woken u halves
      ∙ (λ k. sym owners k u == me && is_woken woken (same k) u)
      ∙ ap (λ b. st.owner u == me && b) (sym (wakes u) ∙ wakes_same u)

  pub updated_has : (numbers edges : List ℕ) (tasks : List Bool) (sc : ScopeId) (entry : Entry) (owner : ℕ → ℕ) (woken : Woken) (halves : List Half) → st.owner ≡ owner → map data_half halves ≡ halves_of st.graph v →
      ((y : ℕ) → full_wakes st.graph p s v y ≡ is_woken woken (halves_of st.graph v) y) →
      AreNumbers (size st.graph) (after_full st.graph p s v).vertex numbers → AreNumbers (length st.graph.edges) (after_full st.graph p s v).edge edges →
      length tasks ≡ length old_tasks →
      ((u : ℕ) → u < size st.graph → is_marked tasks u ≡ (wakes_own owner me woken halves u || (is_marked old_tasks u && not (u == v)))) →
      HasLists st me numbers edges tasks (updated_full st p me sc v lent entry part)
  updated_has numbers edges tasks sc entry owner woken halves owners same wakes vertices marks long marked =
      record {
        count = vertices.count;
        edge_count = marks.count;
        task_count = long ∙ has.task_count;
        numbers_are = λ i inside keep. numbers_left numbers edges vertices marks i inside keep;
        tasks_are = λ u inside. marked u inside ∙ ap₂ (λ a b. a || (b && not (u == v))) (tasks_left owner woken halves u owners same wakes) (has.tasks_are u inside);
      }

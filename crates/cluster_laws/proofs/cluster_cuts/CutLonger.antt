-- One update more: the cut of the newest snapshot has it where its vertex is not marked.
use Rattle.std.proofs.Common.{◌≡◌, ℕ, suc, ◌<◌, ◌≤◌, Bool, true, false, not, ◌&&◌, ◌||◌, ◌≢◌, List, [], ◌∷◌, ◌++◌, length, ◌==◌, Some, sym, refl, ap, ◌∙◌, subst, ap₂, subst₂, inl, inr, ⊎_elim, le_trans, le_of_eq, le_of_lt, lt-suc_self, ne_of_lt, ne_eqb}
use Rattle.std.specs.List.{AllByRecursion}
use Rattle.std.proofs.lemmas.Bool.{cases_eq, not_from_false, false_from_ne_true}
use Rattle.gl_base.specs.declared.entries.Entry.{Entry}
use Rattle.gl_base.specs.declared.entries.Entry.TheVariants.{Go}
use Rattle.gl_base.specs.declared.numbers.MachineNo.{MachineNo}
use Rattle.graph_core.specs.DataGraph.{size}
use Rattle.graph_core.specs.Halves.{DataHalf, halves_of}
use Rattle.graph_core.proofs.HalvesLaws.{each-weaker, IsHalfAt, halves_are}
use Rattle.update_api.specs.Near.{Near}
use Rattle.seq_run.specs.Orders.{all_tasks, tasks_after_entry, IsValidFrom}
use Rattle.seq_run.specs.States.{GraphState, near_of, new_number, after_update, wakes}
use Rattle.seq_run.proofs.GoingOn.{replay_from-append, tasks_from-append, valid_append}
use Rattle.seq_run.proofs.Waking.{with_number-same, with_number-other}
use Rattle.cluster_laws.specs.cluster_core.Cuts.{updates_of, cut_of, HasMarkedEnd, IsCut}
use Rattle.cluster_laws.specs.cluster_core.Marks.{mark_of}
use Rattle.cluster_laws.specs.cluster_core.Ranges.{set_at}
use Rattle.cluster_laws.specs.cluster_core.Replays.{replay_of, tasks_of}
use Rattle.cluster_laws.specs.cluster_core.Settings.{Setting, IsSetting, is_near, nth_edge}
use Rattle.cluster_laws.specs.cluster_core.Worlds.{World}
use Rattle.cluster_laws.proofs.cluster_core.Basics.{set_at-same, set_at-other}
use Rattle.cluster_laws.proofs.cluster_core.Nearness.{near_turned, near_within}
use Rattle.cluster_laws.proofs.cluster_numbers.EdgeEnds.{IsBetween, end_cases, ends_near, half_between, wakes_near, edge_kept, new_number-same, wakes-same, edge_after-same}
use Rattle.cluster_laws.proofs.cluster_cuts.CutLists.{updates_push-same, updates_push-other, cut_push-in, cut_push-out, cut_same}

module _ (st : Setting) (is : IsSetting st) (w : World) (order : List Entry) (count : ℕ → ℕ) (cut : IsCut st w order count) (machine : MachineNo) (v ticket : ℕ) (within : v < size st.graph) where
  abbrev entry : Entry
  entry = Go machine (record { 0 = v }) ticket

  abbrev longer : List Entry
  longer = order ++ entry ∷ []

  abbrev shown : GraphState
  shown = replay_of st order

  abbrev shown_cut : GraphState
  shown_cut = replay_of st (cut_of count order)

  replay_longer : (es : List Entry) → replay_of st (es ++ entry ∷ []) ≡ after_update st.graph st.program (replay_of st es) v
  replay_longer es = replay_from-append st.graph st.program st.start es (entry ∷ [])

  tasks_longer : (es : List Entry) → tasks_of st (es ++ entry ∷ []) ≡ tasks_after_entry st.graph st.program (replay_of st es) (tasks_of st es) entry
  tasks_longer es = tasks_from-append st.graph st.program st.start (all_tasks st.graph) es (entry ∷ [])

  updates_other : (u : ℕ) → u ≢ v → updates_of u longer ≡ updates_of u order
  updates_other u other = updates_push-other u order machine (record { 0 = v }) ticket (λ same. other (sym same))

  updates_own : updates_of v longer ≡ suc (updates_of v order)
  updates_own = updates_push-same v order machine (record { 0 = v }) ticket refl

  vertex_own : (s : GraphState) → (after_update st.graph st.program s v).vertex v ≡ new_number st.graph st.program s v
  vertex_own s = with_number-same s.vertex v (new_number st.graph st.program s v)

  vertex_other : (s : GraphState) (u : ℕ) → u ≢ v → (after_update st.graph st.program s v).vertex u ≡ s.vertex u
  vertex_other s u other = with_number-other s.vertex v (new_number st.graph st.program s v) u other

  -- ---- the vertex has the mark: the update is not in the cut

  module _ (marked : mark_of st w v ≡ w.begun) where
    pub same_cut : cut_of count longer ≡ cut_of count order
    same_cut = cut_push-out machine (record { 0 = v }) ticket count order (cut.few v within)

    other_low : (u : ℕ) → mark_of st w u < w.begun → u ≢ v
    other_low u low same = ne_of_lt low (ap (mark_of st w) same ∙ marked)

    away_low : (e : ℕ) → mark_of st w (nth_edge st e).from < w.begun → mark_of st w (nth_edge st e).to < w.begun → ((nth_edge st e).from ≢ v) × ((nth_edge st e).to ≢ v)
    away_low e from to = (other_low (nth_edge st e).from from, other_low (nth_edge st e).to to)

    -- who has no marked vertex around it is not woken
    asleep : (u : ℕ) → ((x : ℕ) → is_near st u x ≡ true → mark_of st w x < w.begun) → wakes st.graph st.program shown v u ≡ false
    asleep u around =
        false_from_ne_true (wakes st.graph st.program shown v u) (λ woken.
        ne_of_lt (around v (near_turned st u v ∙ wakes_near st is shown v u woken)) marked)

    not_it : (b : Bool) (u : ℕ) → u ≢ v → (b && not (u == v)) ≡ b
    not_it true u other = not_from_false (u == v) (ne_eqb u v other)
    not_it false u other = refl

    pub longer_marked : IsCut st w longer count
    longer_marked =
        record {
          few = λ u low. ⊎_elim
              (λ (same : u ≡ v). subst (λ x. count x ≤ updates_of x longer) (sym same) (le_trans (cut.few v within) (subst (λ n. updates_of v order ≤ n) (sym updates_own) (le_of_lt (lt-suc_self (updates_of v order))))))
              (λ (other : u ≡ v → ⊥). subst (λ n. count u ≤ n) (sym (updates_other u other)) (cut.few u low))
              (cases_eq u v);
          all = λ u low unmarked. cut.all u low unmarked ∙ sym (updates_other u (other_low u unmarked));
          valid = subst (IsValidFrom st.graph st.program st.start (all_tasks st.graph)) (sym same_cut) cut.valid;
          vertices_saved = λ u low its. cut.vertices_saved u low its ∙ ap (λ es. Some ((replay_of st es).vertex u)) (sym same_cut);
          vertices_else = λ u low unmarked.
              ap (λ es. (replay_of st es).vertex u) same_cut ∙ cut.vertices_else u low unmarked
              ∙ sym (ap (λ (g : GraphState). g.vertex u) (replay_longer order) ∙ vertex_other shown u (other_low u unmarked));
          edges_saved = λ a e x a_low low known saved.
              let its = cut.edges_saved a e x a_low low known saved in
              (ap (λ es. (replay_of st es).edge e) same_cut ∙ its.0, its.1);
          edges_found = cut.edges_found;
          edges_else = λ e low from to.
              ap (λ es. (replay_of st es).edge e) same_cut ∙ cut.edges_else e low from to
              ∙ sym (ap (λ (g : GraphState). g.edge e) (replay_longer order) ∙ edge_kept st is shown v e (away_low e from to));
          tasks = λ u low unmarked around.
              ap (λ es. tasks_of st es u) same_cut ∙ cut.tasks u low unmarked around
              ∙ sym (ap (λ (f : ℕ → Bool). f u) (tasks_longer order) ∙ ap (λ b. b || (tasks_of st order u && not (u == v))) (asleep u around)
              ∙ not_it (tasks_of st order u) u (other_low u unmarked));
          spread = cut.spread;
        }

  -- ---- it has no mark, and no vertex around it has: the cut has the update too

  module _ (unmarked : mark_of st w v < w.begun) (around : (u : ℕ) → is_near st v u ≡ true → mark_of st w u < w.begun) (task : tasks_of st order v ≡ true) where
    abbrev pub one_more : ℕ → ℕ
    one_more = set_at count v (suc (count v))

    more_own : one_more v ≡ suc (count v)
    more_own = set_at-same count v (suc (count v))

    more_other : (u : ℕ) → u ≢ v → one_more u ≡ count u
    more_other u other = set_at-other count v (suc (count v)) u other

    pub longer_cut : cut_of one_more longer ≡ cut_of count order ++ entry ∷ []
    longer_cut =
        cut_push-in machine (record { 0 = v }) ticket one_more order
        (subst₂ (λ m n. m < n) (cut.all v within unmarked) (sym more_own) (lt-suc_self (count v)))
        ∙ ap (λ es. es ++ entry ∷ []) (cut_same one_more count order (λ u. ⊎_elim
        (λ (same : u ≡ v). inr (subst (λ x. (updates_of x order ≤ one_more x) × (updates_of x order ≤ count x)) (sym same) (
          subst₂ (λ m n. m ≤ n) (cut.all v within unmarked) (sym more_own) (le_of_lt (lt-suc_self (count v))),
          le_of_eq (sym (cut.all v within unmarked)),
        )))
        (λ (other : u ≡ v → ⊥). inl (more_other u other))
        (cases_eq u v)))

    cut_shown : replay_of st (cut_of one_more longer) ≡ after_update st.graph st.program shown_cut v
    cut_shown = ap (replay_of st) longer_cut ∙ replay_longer (cut_of count order)

    cut_tasks : tasks_of st (cut_of one_more longer) ≡ tasks_after_entry st.graph st.program shown_cut (tasks_of st (cut_of count order)) entry
    cut_tasks = ap (tasks_of st) longer_cut ∙ tasks_longer (cut_of count order)

    -- around v the cut is as the whole order
    own_same : shown_cut.vertex v ≡ shown.vertex v
    own_same = cut.vertices_else v within unmarked

    ends_low : (e x : ℕ) → e < length st.graph.edges → IsBetween (nth_edge st e) v x → (mark_of st w (nth_edge st e).from < w.begun) × (mark_of st w (nth_edge st e).to < w.begun)
    ends_low e x low between =
        let its = around x (ends_near st is e v x low between) in ⊎_elim
        (λ (z : ((nth_edge st e).from ≡ v) × ((nth_edge st e).to ≡ x)). (subst (λ y. mark_of st w y < w.begun) (sym z.0) unmarked, subst (λ y. mark_of st w y < w.begun) (sym z.1) its))
        (λ (z : ((nth_edge st e).to ≡ v) × ((nth_edge st e).from ≡ x)). (subst (λ y. mark_of st w y < w.begun) (sym z.1) its, subst (λ y. mark_of st w y < w.begun) (sym z.0) unmarked))
        between

    edge_same : (e x : ℕ) → e < length st.graph.edges → IsBetween (nth_edge st e) v x → shown_cut.edge e ≡ shown.edge e
    edge_same e x low between = let both = ends_low e x low between in cut.edges_else e low both.0 both.1

    abbrev near_with : DataHalf → ℕ → ℕ → Near
    near_with h number mark = record { number = number; mark = mark; weight = h.weight; out = h.out; into = h.into }

    near_same : AllByRecursion (λ h. near_of shown_cut h ≡ near_of shown h) (halves_of st.graph v)
    near_same =
        each-weaker (IsHalfAt st.graph is.graph v) (λ h. near_of shown_cut h ≡ near_of shown h)
        (λ h half.
        let between = half_between st is v h half in
        let near = ends_near st is h.edge v h.other between.0 between.1 in
        ap₂ (near_with h) (cut.vertices_else h.other (near_within st is v h.other near).0 (around h.other near)) (edge_same h.edge h.other between.0 between.1))
        (halves_of st.graph v) (halves_are st.graph is.graph v)

    cut_task : tasks_of st (cut_of count order) v ≡ true
    cut_task = cut.tasks v within unmarked around ∙ task

    -- an edge with a marked end is not at v
    away_marked : (e : ℕ) → e < length st.graph.edges → HasMarkedEnd st w e → ((nth_edge st e).from ≢ v) × ((nth_edge st e).to ≢ v)
    away_marked e low end = ⊎_elim
        (λ (at : (x : ℕ) × IsBetween (nth_edge st e) v x).
        let both = ends_low e at.0 low at.1 in
        absurd (⊎_elim (λ (marked : mark_of st w (nth_edge st e).from ≡ w.begun). ne_of_lt both.0 marked) (λ (marked : mark_of st w (nth_edge st e).to ≡ w.begun). ne_of_lt both.1 marked) end))
        (λ (away : ((nth_edge st e).from ≢ v) × ((nth_edge st e).to ≢ v)). away)
        (end_cases (nth_edge st e) v)

    pub longer_unmarked : IsCut st w longer one_more
    longer_unmarked =
        record {
          few = λ u low. ⊎_elim
              (λ (same : u ≡ v). subst (λ x. one_more x ≤ updates_of x longer) (sym same) (le_of_eq (more_own ∙ ap suc (cut.all v within unmarked) ∙ sym updates_own)))
              (λ (other : u ≡ v → ⊥). subst₂ (λ m n. m ≤ n) (sym (more_other u other)) (sym (updates_other u other)) (cut.few u low))
              (cases_eq u v);
          all = λ u low its. ⊎_elim
              (λ (same : u ≡ v). subst (λ x. one_more x ≡ updates_of x longer) (sym same) (more_own ∙ ap suc (cut.all v within unmarked) ∙ sym updates_own))
              (λ (other : u ≡ v → ⊥). more_other u other ∙ cut.all u low its ∙ sym (updates_other u other))
              (cases_eq u v);
          valid = subst (IsValidFrom st.graph st.program st.start (all_tasks st.graph)) (sym longer_cut)
              (valid_append st.graph st.program st.start (all_tasks st.graph) (cut_of count order) (entry ∷ []) cut.valid (cut_task, tt));
          vertices_saved = λ u low marked.
              let other : u ≢ v = λ same. ne_of_lt unmarked (ap (mark_of st w) (sym same) ∙ marked) in
              cut.vertices_saved u low marked ∙ ap Some (sym (ap (λ (g : GraphState). g.vertex u) cut_shown ∙ vertex_other shown_cut u other));
          vertices_else = λ u low its. ⊎_elim
              (λ (same : u ≡ v). subst (λ x. (replay_of st (cut_of one_more longer)).vertex x ≡ (replay_of st longer).vertex x) (sym same)
              (ap (λ (g : GraphState). g.vertex v) cut_shown ∙ vertex_own shown_cut ∙ new_number-same st.graph st.program shown_cut shown v own_same near_same
              ∙ sym (ap (λ (g : GraphState). g.vertex v) (replay_longer order) ∙ vertex_own shown)))
              (λ (other : u ≡ v → ⊥).
              ap (λ (g : GraphState). g.vertex u) cut_shown ∙ vertex_other shown_cut u other ∙ cut.vertices_else u low its
              ∙ sym (ap (λ (g : GraphState). g.vertex u) (replay_longer order) ∙ vertex_other shown u other))
              (cases_eq u v);
          edges_saved = λ a e x a_low low known saved.
              let its = cut.edges_saved a e x a_low low known saved in
              (ap (λ (g : GraphState). g.edge e) cut_shown ∙ edge_kept st is shown_cut v e (away_marked e low its.1) ∙ its.0, its.1);
          edges_found = cut.edges_found;
          edges_else = λ e low from to.
              ap (λ (g : GraphState). g.edge e) cut_shown ∙ edge_after-same st.graph st.program shown_cut shown v e own_same near_same (cut.edges_else e low from to)
              ∙ sym (ap (λ (g : GraphState). g.edge e) (replay_longer order));
          tasks = λ u low its its_around.
              ap (λ (f : ℕ → Bool). f u) cut_tasks
              ∙ ap₂ (λ a b. a || (b && not (u == v))) (wakes-same st.graph st.program shown_cut shown v own_same near_same u) (cut.tasks u low its its_around)
              ∙ sym (ap (λ (f : ℕ → Bool). f u) (tasks_longer order));
          spread = cut.spread;
        }

-- The snapshot update of a vertex leaves the cut as it is.
use Rattle.std.proofs.Common.{◌≡◌, ℕ, ◌<◌, ◌≤◌, true, false, not, ◌&&◌, ◌||◌, ◌≢◌, ◌⊎◌, List, [], ◌∷◌, length, if◌then◌else◌, ◌==◌, Some, sym, refl, ap, ◌∙◌, subst, inl, inr, ⊎_elim, le_antisymm, ne_of_lt, eq-eqb, ne_eqb, eqb-true}
use Rattle.std.proofs.lemmas.Bool.{cases_lt, cases_eq, cases_Bool, and_parts, or_cases, and_from, or_left, or_right, not_from_false, cond-true, cond-false}
use Rattle.gl_base.specs.declared.entries.Entry.{Entry}
use Rattle.gl_base.specs.declared.scopes.ScopeId.{ScopeId}
use Rattle.graph_core.specs.DataGraph.{DataEdge, size}
use Rattle.seq_run.specs.States.{GraphState}
use Rattle.cluster_laws.specs.cluster_core.Copies.{AreCopies}
use Rattle.cluster_laws.specs.cluster_core.Cuts.{cut_of, HasMarkedEnd, IsToBeMarked, IsCut}
use Rattle.cluster_laws.specs.cluster_core.Effects.{ends, is_left, other_end, is_end, saves_edge, save, marked_datum, pends_for, mark_news, marked}
use Rattle.cluster_laws.specs.cluster_core.Marks.{mark_of, names_vertex, vertex_named, MarksHold}
use Rattle.cluster_laws.specs.cluster_core.Messages.{News, Done}
use Rattle.cluster_laws.specs.cluster_core.Parts.{Part}
use Rattle.cluster_laws.specs.cluster_core.Places.{done_near}
use Rattle.cluster_laws.specs.cluster_core.Ranges.{set_at}
use Rattle.cluster_laws.specs.cluster_core.Replays.{replay_of, IsReplay}
use Rattle.cluster_laws.specs.cluster_core.Scopes.{takes_part}
use Rattle.cluster_laws.specs.cluster_core.Settings.{Setting, IsSetting, is_near, nth_edge}
use Rattle.cluster_laws.specs.cluster_core.Worlds.{World, with_part, way}
use Rattle.cluster_laws.proofs.cluster_core.Basics.{set_at-same, set_at-other, set_at-cases, set_at-kept, set_at-here, set_at-there}
use Rattle.cluster_laws.proofs.cluster_core.Nearness.{near_within, owner_takes_part, scoped_near}
use Rattle.cluster_laws.proofs.cluster_numbers.EdgeEnds.{IsBetween, end_cases, edge_fits, ends_near, ends_within}
use Rattle.cluster_laws.proofs.cluster_numbers.NewsMade.{IsMade, mark_made, copy_true, way_told, way_by, reaches_from}
use Rattle.cluster_laws.proofs.cluster_numbers.Passing.{some_same, any-left, any-right, any_one}
use Rattle.cluster_laws.proofs.cluster_cuts.MarkMade.{home_low, home_unmarked, home_newest, mark_here, mark_else, known_same, mark_high, left_low, left_from}
use Rattle.cluster_laws.proofs.cluster_cuts.MarkSteps.{seeded_more}

end_between : (e : DataEdge) (v : ℕ) → is_end e v ≡ true → IsBetween e v (other_end e v)
end_between e v end = ⊎_elim
    (λ (from : e.from ≡ v). inl (from, sym (cond-true (e.from == v) e.to e.from (eq-eqb e.from v from))))
    (λ (not_from : e.from ≡ v → ⊥). ⊎_elim
    (λ (here : (e.from == v) ≡ true). absurd (not_from (eqb-true e.from v here)))
    (λ (there : (e.to == v) ≡ true). inr (eqb-true e.to v there, sym (cond-false (e.from == v) e.to e.from (ne_eqb e.from v not_from))))
    (or_cases (e.from == v) (e.to == v) end))
    (cases_eq e.from v)

between_end : (e : DataEdge) (v x : ℕ) → e.from ≢ e.to → IsBetween e v x → (is_end e v ≡ true) × (other_end e v ≡ x)
between_end e v x apart between = ⊎_elim
    (λ (z : (e.from ≡ v) × (e.to ≡ x)).
    (or_left (e.from == v) (e.to == v) (eq-eqb e.from v z.0), cond-true (e.from == v) e.to e.from (eq-eqb e.from v z.0) ∙ z.1))
    (λ (z : (e.to ≡ v) × (e.from ≡ x)).
    (or_right (e.from == v) (e.to == v) (eq-eqb e.to v z.0), cond-false (e.from == v) e.to e.from (ne_eqb e.from v (λ same. apart (same ∙ sym z.0))) ∙ z.1))
    between

module _ (st : Setting) (is : IsSetting st) (w : World) (s : ScopeId) (v : ℕ) (within : v < size st.graph) (owned : st.owner v ≡ s.home.0) (still : (p : ℕ) → done_near st v (way w p s.home.0) ≡ false) (copies : AreCopies st w) (order : List Entry) (replay : IsReplay st w order) (marks : MarksHold st w) (pends : (w.part s.home.0).pending v ≡ true) (count : ℕ → ℕ) (cut : IsCut st w order count) where
  abbrev own : Part
  own = w.part s.home.0

  abbrev made : Part
  made = marked st s.home.0 s v own

  abbrev new : World
  new = with_part w s.home.0 made

  abbrev news : ℕ → News
  news = mark_news st own v

  abbrev is_made : IsMade st s.home.0 s v news own made
  is_made = mark_made st s.home.0 s v own

  abbrev shown_cut : GraphState
  shown_cut = replay_of st (cut_of count order)

  known_newest : own.known ≡ w.begun
  known_newest = (home_newest st is w s v within owned still copies order replay marks pends).0

  machine_low : s.home.0 < st.machines
  machine_low = home_low st is w s v within owned still copies order replay marks pends

  low_v : mark_of st w v < w.begun
  low_v = subst (λ n. mark_of st w v < n) known_newest (home_unmarked st is w s v within owned still copies order replay marks pends)

  here_v : mark_of st new v ≡ w.begun
  here_v = mark_here st is w s v within owned still copies order replay marks pends

  else_u : (u : ℕ) → u ≢ v → mark_of st new u ≡ mark_of st w u
  else_u = mark_else st is w s v within owned still copies order replay marks pends

  known_still : (b : ℕ) → (new.part b).known ≡ (w.part b).known
  known_still = known_same st is w s v within owned still copies order replay marks pends

  -- what has no mark now had none, and is not v
  low_was : (u : ℕ) → mark_of st new u < w.begun → (u ≢ v) × (mark_of st w u < w.begun)
  low_was u low =
      let other : u ≢ v = λ same. ne_of_lt low (ap (mark_of st new) same ∙ here_v) in
      (other, subst (λ n. n < w.begun) (else_u u other) low)

  -- a mark stays
  marked_now : (u : ℕ) → mark_of st w u ≡ w.begun → mark_of st new u ≡ w.begun
  marked_now u was = ⊎_elim
      (λ (same : u ≡ v). ap (mark_of st new) same ∙ here_v)
      (λ (other : u ≡ v → ⊥). else_u u other ∙ was)
      (cases_eq u v)

  end_now : (e : ℕ) → HasMarkedEnd st w e → HasMarkedEnd st new e
  end_now e end = ⊎_elim
      (λ marked. inl (marked_now (nth_edge st e).from marked))
      (λ marked. inr (marked_now (nth_edge st e).to marked))
      end

  end_at : (e x : ℕ) → IsBetween (nth_edge st e) v x → HasMarkedEnd st new e
  end_at e x between = ⊎_elim
      (λ (z : ((nth_edge st e).from ≡ v) × ((nth_edge st e).to ≡ x)). inl (ap (mark_of st new) z.0 ∙ here_v))
      (λ (z : ((nth_edge st e).to ≡ v) × ((nth_edge st e).from ≡ x)). inr (ap (mark_of st new) z.0 ∙ here_v))
      between

  low_or_marked : (u : ℕ) → u < size st.graph → (mark_of st w u < w.begun) ⊎ (mark_of st w u ≡ w.begun)
  low_or_marked u low = ⊎_elim
      (λ (less : mark_of st w u < w.begun). inl less)
      (λ (high : w.begun ≤ mark_of st w u). inr (le_antisymm (mark_high st is w s v within owned still copies order replay marks pends u low) high))
      (cases_lt (mark_of st w u) w.begun)

  -- ---- what is saved

  own_value : (own.datum v).value ≡ shown_cut.vertex v
  own_value = ap (λ a. ((w.part a).datum v).value) (sym owned) ∙ replay.numbers v within ∙ sym (cut.vertices_else v within low_v)

  vertices_now : (u : ℕ) → u < size st.graph → mark_of st new u ≡ w.begun → (new.part (st.owner u)).saved.vertices u ≡ Some (shown_cut.vertex u)
  vertices_now u low marked = ⊎_elim
      (λ (same : u ≡ v). subst (λ x. (new.part (st.owner x)).saved.vertices x ≡ Some (shown_cut.vertex x)) (sym same)
      (set_at-here (λ (p : Part). p.saved.vertices v) w.part s.home.0 made (st.owner v) owned ∙ set_at-same own.saved.vertices v (Some (own.datum v).value) ∙ ap Some own_value))
      (λ (other : u ≡ v → ⊥).
      set_at-kept (λ (p : Part). p.saved.vertices u) w.part s.home.0 made (set_at-other own.saved.vertices v (Some (own.datum v).value) u other) (st.owner u)
      ∙ cut.vertices_saved u low (sym (else_u u other) ∙ marked))
      (cases_eq u v)

  edge_here : (e x : ℕ) → e < length st.graph.edges → (if saves_edge st own v e then Some (own.edge e) else own.saved.edges e) ≡ Some x → (shown_cut.edge e ≡ x) × HasMarkedEnd st new e
  edge_here e x low saved = ⊎_elim
      (λ (saves : saves_edge st own v e ≡ true).
      let both = and_parts (is_end (nth_edge st e) v) (is_left st own v (other_end (nth_edge st e) v)) saves in
      let y : ℕ = other_end (nth_edge st e) v in
      let between : IsBetween (nth_edge st e) v y = end_between (nth_edge st e) v both.0 in
      let left = left_low st is w s v within owned still copies order replay marks pends y both.1 in
      let value : own.edge e ≡ x = some_same (own.edge e) x (sym (cond-true (saves_edge st own v e) (Some (own.edge e)) (own.saved.edges e) saves) ∙ saved) in
      let same : shown_cut.edge e ≡ (replay_of st order).edge e = ⊎_elim
      (λ (z : ((nth_edge st e).from ≡ v) × ((nth_edge st e).to ≡ y)). cut.edges_else e low (subst (λ u. mark_of st w u < w.begun) (sym z.0) low_v) (subst (λ u. mark_of st w u < w.begun) (sym z.1) left.1))
      (λ (z : ((nth_edge st e).to ≡ v) × ((nth_edge st e).from ≡ y)). cut.edges_else e low (subst (λ u. mark_of st w u < w.begun) (sym z.1) left.1) (subst (λ u. mark_of st w u < w.begun) (sym z.0) low_v))
      between in
      (same ∙ sym (replay.edges e low) ∙ copy_true st is w s v within owned still copies e y low between ∙ value, end_at e y between))
      (λ (none : saves_edge st own v e ≡ false).
      let its = cut.edges_saved s.home.0 e x machine_low low known_newest (sym (cond-false (saves_edge st own v e) (Some (own.edge e)) (own.saved.edges e) none) ∙ saved) in
      (its.0, end_now e its.1))
      (cases_Bool (saves_edge st own v e))

  edges_now : (a e x : ℕ) → a < st.machines → e < length st.graph.edges → (new.part a).known ≡ w.begun → (new.part a).saved.edges e ≡ Some x → (shown_cut.edge e ≡ x) × HasMarkedEnd st new e
  edges_now a e x a_low low known saved = ⊎_elim
      (λ (same : a ≡ s.home.0). edge_here e x low (sym (set_at-here (λ (p : Part). p.saved.edges e) w.part s.home.0 made a same) ∙ saved))
      (λ (other : a ≡ s.home.0 → ⊥).
      let its = cut.edges_saved a e x a_low low (sym (known_still a) ∙ known) (sym (set_at-there (λ (p : Part). p.saved.edges e) w.part s.home.0 made a other) ∙ saved) in
      (its.0, end_now e its.1))
      (cases_eq a s.home.0)

  -- what was saved is saved
  saved_still : (a e x : ℕ) → (w.part a).saved.edges e ≡ Some x → (y : ℕ) × ((new.part a).saved.edges e ≡ Some y)
  saved_still a e x saved = ⊎_elim
      (λ (same : a ≡ s.home.0).
      let is_here : (new.part a).saved.edges e ≡ (if saves_edge st own v e then Some (own.edge e) else own.saved.edges e) = set_at-here (λ (p : Part). p.saved.edges e) w.part s.home.0 made a same in
      ⊎_elim
      (λ (saves : saves_edge st own v e ≡ true). (own.edge e, is_here ∙ cond-true (saves_edge st own v e) (Some (own.edge e)) (own.saved.edges e) saves))
      (λ (none : saves_edge st own v e ≡ false). (x, is_here ∙ cond-false (saves_edge st own v e) (Some (own.edge e)) (own.saved.edges e) none ∙ ap (λ j. (w.part j).saved.edges e) (sym same) ∙ saved))
      (cases_Bool (saves_edge st own v e)))
      (λ (other : a ≡ s.home.0 → ⊥). (x, set_at-there (λ (p : Part). p.saved.edges e) w.part s.home.0 made a other ∙ saved))
      (cases_eq a s.home.0)

  abbrev IsFoundNow : ℕ → Type 0
  IsFoundNow e = (a : ℕ) × (x : ℕ) × (a < st.machines) × ((new.part a).known ≡ w.begun) × ((new.part a).saved.edges e ≡ Some x)

  found_still : (e : ℕ) → e < length st.graph.edges → HasMarkedEnd st w e → IsFoundNow e
  found_still e low end =
      let found = cut.edges_found e low end in
      let now = saved_still found.0 e found.1 found.4 in
      (found.0, now.0, found.2, known_still found.0 ∙ found.3, now.1)

  found_new : (e x : ℕ) → e < length st.graph.edges → IsBetween (nth_edge st e) v x → mark_of st w x < w.begun → IsFoundNow e
  found_new e x low between less =
      let ends = between_end (nth_edge st e) v x (edge_fits st is e low).apart between in
      let left : is_left st own v x ≡ true = left_from st is w s v within owned still copies order replay marks pends x (ends_near st is e v x low between) less in
      let saves : saves_edge st own v e ≡ true =
      and_from (is_end (nth_edge st e) v) (is_left st own v (other_end (nth_edge st e) v)) ends.0 (subst (λ y. is_left st own v y ≡ true) (sym ends.1) left) in (
        s.home.0,
        own.edge e,
        machine_low,
        known_still s.home.0 ∙ known_newest,
        set_at-here (λ (p : Part). p.saved.edges e) w.part s.home.0 made s.home.0 refl ∙ cond-true (saves_edge st own v e) (Some (own.edge e)) (own.saved.edges e) saves,
      )

  found_now : (e : ℕ) → e < length st.graph.edges → HasMarkedEnd st new e → IsFoundNow e
  found_now e low end = ⊎_elim
      (λ (at : (x : ℕ) × IsBetween (nth_edge st e) v x). ⊎_elim
      (λ (less : mark_of st w at.0 < w.begun). found_new e at.0 low at.1 less)
      (λ (marked : mark_of st w at.0 ≡ w.begun). found_still e low (⊎_elim
      (λ (z : ((nth_edge st e).from ≡ v) × ((nth_edge st e).to ≡ at.0)). inr (ap (mark_of st w) z.1 ∙ marked))
      (λ (z : ((nth_edge st e).to ≡ v) × ((nth_edge st e).from ≡ at.0)). inl (ap (mark_of st w) z.1 ∙ marked))
      at.1))
      (low_or_marked at.0 (ends_within st is e v at.0 low at.1).1))
      (λ (away : ((nth_edge st e).from ≢ v) × ((nth_edge st e).to ≢ v)). found_still e low (⊎_elim
      (λ (marked : mark_of st new (nth_edge st e).from ≡ w.begun). inl (sym (else_u (nth_edge st e).from away.0) ∙ marked))
      (λ (marked : mark_of st new (nth_edge st e).to ≡ w.begun). inr (sym (else_u (nth_edge st e).to away.1) ∙ marked))
      end))
      (end_cases (nth_edge st e) v)

  -- ---- who will be marked

  pending_made : (u : ℕ) → (pends_for st own v s.home.0 u || (own.pending u && not (u == v))) ≡ true → made.pending u ≡ true
  pending_made u yes_pends =
      seeded_more st s.home.0 (ends st s.home.0 s v news (record own { datum = set_at own.datum v (marked_datum own v); pending = λ x. pends_for st own v s.home.0 x || (own.pending x && not (x == v)); saved = save st own v })) u yes_pends

  spread_here : (u : ℕ) → is_near st v u ≡ true → mark_of st w u < w.begun → IsToBeMarked st new u
  spread_here u near less =
      let left : is_left st own v u ≡ true = left_from st is w s v within owned still copies order replay marks pends u near less in ⊎_elim
      (λ (same : st.owner u ≡ s.home.0).
      inl (set_at-here (λ (p : Part). p.pending u) w.part s.home.0 made (st.owner u) same
      ∙ pending_made u (or_left (pends_for st own v s.home.0 u) (own.pending u && not (u == v)) (and_from (st.owner u == s.home.0) (is_left st own v u) (eq-eqb (st.owner u) s.home.0 same) left))))
      (λ (other : st.owner u ≡ s.home.0 → ⊥).
      let part : takes_part st v (st.owner u) ≡ true = owner_takes_part st is v u within (scoped_near st is v u near) in
      inr (
        s.home.0,
        ap (vertex_named u) (way_told st is w s v within owned still copies news made is_made (st.owner u) (reaches_from st is w s v within owned still copies news made is_made (st.owner u) part other))
            ∙ any-right (names_vertex u) (way w s.home.0 (st.owner u)) (Done s (news (st.owner u)) ∷ [])
            (any_one (names_vertex u) (Done s (news (st.owner u))) ∙ and_from (st.owner u == st.owner u) (is_left st own v u) (eq-eqb (st.owner u) (st.owner u) refl) left),
      ))
      (cases_eq (st.owner u) s.home.0)

  named_still : (u p q : ℕ) → vertex_named u (way w p q) ≡ true → vertex_named u (way new p q) ≡ true
  named_still u p q named =
      way_by st is w s v within owned still copies news made is_made (λ ms. vertex_named u ms ≡ true) p q
      (λ same yes_told. any-left (names_vertex u) (way w p q) (Done s (news q) ∷ []) named)
      named

  to_be_still : (u : ℕ) → u ≢ v → IsToBeMarked st w u → IsToBeMarked st new u
  to_be_still u other will = ⊎_elim
      (λ (here : (w.part (st.owner u)).pending u ≡ true). inl (set_at-cases (λ (p : Part). p.pending u ≡ true) w.part s.home.0 made (st.owner u)
      (λ same. pending_made u (or_right (pends_for st own v s.home.0 u) (own.pending u && not (u == v))
      (and_from (own.pending u) (not (u == v)) (subst (λ j. (w.part j).pending u ≡ true) same here) (not_from_false (u == v) (ne_eqb u v other)))))
      (λ there. here)))
      (λ (coming : (p : ℕ) × (vertex_named u (way w p (st.owner u)) ≡ true)). inr (coming.0, named_still u coming.0 (st.owner u) coming.1))
      will

  spread_now : (y u : ℕ) → y < size st.graph → mark_of st new y ≡ w.begun → is_near st y u ≡ true → (mark_of st new u ≡ w.begun) ⊎ IsToBeMarked st new u
  spread_now y u low marked near = ⊎_elim
      (λ (same : y ≡ v).
      let near_v : is_near st v u ≡ true = subst (λ x. is_near st x u ≡ true) same near in ⊎_elim
      (λ (less : mark_of st w u < w.begun). inr (spread_here u near_v less))
      (λ (also : mark_of st w u ≡ w.begun). inl (marked_now u also))
      (low_or_marked u (near_within st is v u near_v).0))
      (λ (other : y ≡ v → ⊥). ⊎_elim
      (λ (also : mark_of st w u ≡ w.begun). inl (marked_now u also))
      (λ (will : IsToBeMarked st w u). ⊎_elim
      (λ (same : u ≡ v). inl (ap (mark_of st new) same ∙ here_v))
      (λ (apart : u ≡ v → ⊥). inr (to_be_still u apart will))
      (cases_eq u v))
      (cut.spread y u low (sym (else_u y other) ∙ marked) near))
      (cases_eq y v)

  pub cut_made : IsCut st new order count
  cut_made =
      record {
        few = cut.few;
        all = λ u low less. cut.all u low (low_was u less).1;
        valid = cut.valid;
        vertices_saved = vertices_now;
        vertices_else = λ u low less. cut.vertices_else u low (low_was u less).1;
        edges_saved = edges_now;
        edges_found = found_now;
        edges_else = λ e low from to. cut.edges_else e low (low_was (nth_edge st e).from from).1 (low_was (nth_edge st e).to to).1;
        tasks = λ u low less around. cut.tasks u low (low_was u less).1 (λ x near. (low_was x (around x near)).1);
        spread = spread_now;
      }

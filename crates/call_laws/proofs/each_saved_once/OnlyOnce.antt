-- No two machines that know one snapshot save the same edge for it, and none saves more than the graph has.
use Rattle.std.proofs.Common.{◌≡◌, ◌≢◌, ◌⊎◌, ℕ, max, ◌<◌, ◌≤◌, ◌==◌, true, false, nat_lt, if◌then◌else◌, None, Option, Some, List, ◌∷◌, length, inl, inr, refl, sym, ◌∙◌, ap, subst, ⊎_elim, eq-eqb, eqb-true, le-ltb, lt-ltb, lt_of_le_of_lt, ne_of_lt, ne_eqb, arith}
use Rattle.std.proofs.lemmas.List.{get_or_past}
use Rattle.std.proofs.lemmas.Bool.{and_parts, cases_Bool, cases_eq, cases_lt, cond-false, cond-true, or_cases}
use Rattle.gl_base.specs.declared.entries.Entry.TheVariants.{Go}
use Rattle.gl_base.specs.declared.scopes.ScopeId.{ScopeId}
use Rattle.graph_core.specs.DataGraph.{DataEdge, size}
use Rattle.cluster_laws.specs.cluster_core.Actions.{Action, IsActionStep, MayHappen, after, collects, delivers, hears, sends}
use Rattle.cluster_laws.specs.cluster_core.Actions as act
use Rattle.cluster_laws.specs.cluster_core.Cuts.{IsCut}
use Rattle.cluster_laws.specs.cluster_core.Effects.{admitted, begins, granted, is_end, is_left, marked, nothing_saved, other_end, received, saves_edge, updated}
use Rattle.cluster_laws.specs.cluster_core.Marks.{mark_of}
use Rattle.cluster_laws.specs.cluster_core.Messages.{Ask, Done, Message, Ready, Section}
use Rattle.cluster_laws.specs.cluster_core.Parts.{Part}
use Rattle.cluster_laws.specs.cluster_core.Places.{IsExclusive, done_near}
use Rattle.cluster_laws.specs.cluster_core.Ranges.{set_at}
use Rattle.cluster_laws.specs.cluster_core.Settings.{IsSetting, Setting, is_near, nth_edge}
use Rattle.cluster_laws.specs.cluster_core.Snapshots.{IsConsistent}
use Rattle.cluster_laws.specs.cluster_core.Worlds.{World, way, with_part}
use Rattle.cluster_laws.proofs.cluster_core.Basics.{set_at-cases, set_at-here, set_at-kept, set_at-there}
use Rattle.cluster_laws.proofs.cluster_core.Nearness.{near_within}
use Rattle.cluster_laws.proofs.cluster_numbers.Keeping.{marks_is, updates_is}
use Rattle.cluster_laws.proofs.cluster_numbers.Quiet.{IsQuiet, admitted-quiet, goes_on-quiet, granted-quiet}
use Rattle.cluster_laws.proofs.cluster_cuts.MarkMade.{home_low, home_newest, home_unmarked, left_low}
use Rattle.whole_laws.specs.cluster_whole.Views.{IsMove, IsTurned, MayTurn}

-- no edge is saved by two machines that know one snapshot
abbrev pub SavesOnce : Setting → World → Type 0
SavesOnce st w =
    (a b e x y : ℕ) → a < st.machines → b < st.machines → e < length st.graph.edges → (w.part a).known ≡ (w.part b).known →
    (w.part a).saved.edges e ≡ Some x → (w.part b).saved.edges e ≡ Some y → a ≡ b

-- What machines have saved: an edge one of those that know one snapshot, and vertices and edges of the graph alone.
pub record SavesRight (st : Setting) (w : World) : Type 0 where
  pub once : SavesOnce st w
  pub vertices : (a v x : ℕ) → (w.part a).saved.vertices v ≡ Some x → v < size st.graph
  pub edges : (a e x : ℕ) → (w.part a).saved.edges e ≡ Some x → e < length st.graph.edges

-- what is saved is what was, for the same snapshot, or nothing
abbrev SavesNoMore : Part → Part → Type 0
SavesNoMore old new = ((new.saved ≡ old.saved) × (new.known ≡ old.known)) ⊎ (new.saved ≡ nothing_saved)

-- ---- machines that save no more

quiet_saved : (old new : Part) → IsQuiet old new → SavesNoMore old new
quiet_saved old new quiet = inl (quiet.saved, quiet.known)

none_some : (x : ℕ) → None ≡ Some x → ⊥
none_some x is = cc

max_same : (n k : ℕ) → k ≤ n → max n k ≡ n
max_same n k low = omega arith

-- who hears of a newer snapshot has saved nothing for it
heard_saved : (k : ℕ) (old new : Part) → new.known ≡ max old.known k → new.saved ≡ (if nat_lt old.known k then nothing_saved else old.saved) → SavesNoMore old new
heard_saved k old new known saved =
    ⊎_elim
    (λ (newer : old.known < k). inr (saved ∙ cond-true (nat_lt old.known k) nothing_saved old.saved (lt-ltb old.known k newer)))
    (λ (high : k ≤ old.known). inl (saved ∙ cond-false (nat_lt old.known k) nothing_saved old.saved (le-ltb old.known k high), known ∙ max_same old.known k high))
    (cases_lt old.known k)

received_saved : (st : Setting) (q : ℕ) (m : Message) (part : Part) → SavesNoMore part (received st q m part)
received_saved st q (Ask s v rest) part = quiet_saved part (received st q (Ask s v rest) part) (goes_on-quiet st q s v 0 rest part)
received_saved st q (Ready s) part = inl (refl, refl)
received_saved st q (Done s news) part = heard_saved news.number part (received st q (Done s news) part) refl refl

-- one machine changes
one_part : (w : World) (a : ℕ) (new : Part) → SavesNoMore (w.part a) new → (b : ℕ) → SavesNoMore (w.part b) (set_at w.part a new b)
one_part w a new no_more b =
    set_at-cases (SavesNoMore (w.part b)) w.part a new b
    (λ same. subst (λ (j : ℕ). SavesNoMore (w.part j) new) (sym same) no_more)
    (λ other. inl (refl, refl))

edge_before : (old new : Part) → SavesNoMore old new → (e x : ℕ) → new.saved.edges e ≡ Some x → (old.saved.edges e ≡ Some x) × (new.known ≡ old.known)
edge_before old new (inl same) e x its = (ap (λ (s : Section). s.edges e) (sym same.0) ∙ its, same.1)
edge_before old new (inr none) e x its = absurd (none_some x (ap (λ (s : Section). s.edges e) (sym none) ∙ its))

vertex_before : (old new : Part) → SavesNoMore old new → (v x : ℕ) → new.saved.vertices v ≡ Some x → old.saved.vertices v ≡ Some x
vertex_before old new (inl same) v x its = ap (λ (s : Section). s.vertices v) (sym same.0) ∙ its
vertex_before old new (inr none) v x its = absurd (none_some x (ap (λ (s : Section). s.vertices v) (sym none) ∙ its))

saves_still : (st : Setting) (old new : World) → ((a : ℕ) → SavesNoMore (old.part a) (new.part a)) → SavesRight st old → SavesRight st new
saves_still st old new no_more right =
    record {
      once = λ a b e x y low_a low_b within same one other.
          let its = edge_before (old.part a) (new.part a) (no_more a) e x one in
          let others = edge_before (old.part b) (new.part b) (no_more b) e y other in
          right.once a b e x y low_a low_b within (sym its.1 ∙ same ∙ others.1) its.0 others.0;
      vertices = λ a v x its. right.vertices a v x (vertex_before (old.part a) (new.part a) (no_more a) v x its);
      edges = λ a e x its. right.edges a e x (edge_before (old.part a) (new.part a) (no_more a) e x its).0;
    }

-- the machines have the parts that they had
same_parts : (st : Setting) (old new : World) → new.part ≡ old.part → SavesRight st old → SavesRight st new
same_parts st old new same right = saves_still st old new (λ a. inl (ap (λ (f : ℕ → Part). (f a).saved) same, ap (λ (f : ℕ → Part). (f a).known) same)) right

-- ---- the snapshot update of a vertex

-- what holds of the vertex and of the other end holds of both ends
both_ends : (P : ℕ → Type 0) (e : DataEdge) (v : ℕ) → is_end e v ≡ true → P v → P (other_end e v) → P e.from × P e.to
both_ends P e v end here there =
    ⊎_elim
    (λ (from : e.from ≡ v). (subst P (sym from) here, subst P (cond-true (e.from == v) e.to e.from (eq-eqb e.from v from)) there))
    (λ (off : e.from ≡ v → ⊥). (
      subst P (cond-false (e.from == v) e.to e.from (ne_eqb e.from v off)) there,
      ⊎_elim
          (λ (from : (e.from == v) ≡ true). absurd (off (eqb-true e.from v from)))
          (λ (to : (e.to == v) ≡ true). subst P (sym (eqb-true e.to v to)) here)
          (or_cases (e.from == v) (e.to == v) end),
    ))
    (cases_eq e.from v)

abbrev no_edge : DataEdge
no_edge = record { from = 0; to = 0; weight = 0 }

-- only an edge of the graph is saved: behind them there is none with two ends
edge_within : (st : Setting) → IsSetting st → (part : Part) (v e : ℕ) → saves_edge st part v e ≡ true → e < length st.graph.edges
edge_within st is part v e saves =
    ⊎_elim (λ (low : e < length st.graph.edges). low) (λ (past : length st.graph.edges ≤ e). absurd (none_past past)) (cases_lt e (length st.graph.edges))
  where
    none_past : length st.graph.edges ≤ e → ⊥
    none_past past =
        let is_none : nth_edge st e ≡ no_edge = get_or_past st.graph.edges e no_edge past in
        let both = and_parts (is_end (nth_edge st e) v) (is_left st part v (other_end (nth_edge st e) v)) saves in
        let here : 0 ≡ v = ⊎_elim (λ (from : (0 == v) ≡ true). eqb-true 0 v from) (λ (to : (0 == v) ≡ true). eqb-true 0 v to) (or_cases (0 == v) (0 == v) (subst (λ (x : DataEdge). is_end x v ≡ true) is_none both.0)) in
        let far : other_end (nth_edge st e) v ≡ 0 = ap (λ (x : DataEdge). other_end x v) is_none ∙ cond-true (0 == v) 0 0 (eq-eqb 0 v here) in
        let near = and_parts (is_near st v (other_end (nth_edge st e) v)) (nat_lt (part.datum (other_end (nth_edge st e) v)).mark part.known) both.1 in
        (near_within st is v (other_end (nth_edge st e) v) near.0).1 (sym (far ∙ here))

module _ (st : Setting) (is : IsSetting st) (w : World) (kept : IsConsistent st w) (right : SavesRight st w) (s : ScopeId) (v : ℕ) (within : v < size st.graph) (owned : st.owner v ≡ s.home.0) (still : (p : ℕ) → done_near st v (way w p s.home.0) ≡ false) (pends : (w.part s.home.0).pending v ≡ true) where
  abbrev own : Part
  own = w.part s.home.0

  abbrev made : Part
  made = marked st s.home.0 s v own

  abbrev new : World
  new = with_part w s.home.0 made

  newest : (own.known ≡ w.begun) × (w.acknowledged < w.begun)
  newest = home_newest st is w s v within owned still kept.copies kept.order kept.replay kept.marks pends

  its_cut : IsCut st w kept.order kept.count
  its_cut = kept.cut (lt_of_le_of_lt kept.marks.base newest.1)

  -- an edge is saved now where no end of it had a mark, so no other machine has saved it
  none_before : (b e y : ℕ) → b < st.machines → e < length st.graph.edges → (w.part b).known ≡ own.known → saves_edge st own v e ≡ true → (w.part b).saved.edges e ≡ Some y → ⊥
  none_before b e y low inside same saves there =
      let u : ℕ = other_end (nth_edge st e) v in
      let both = and_parts (is_end (nth_edge st e) v) (is_left st own v u) saves in
      let here : mark_of st w v < w.begun = subst (λ (n : ℕ). mark_of st w v < n) newest.0 (home_unmarked st is w s v within owned still kept.copies kept.order kept.replay kept.marks pends) in
      let far : mark_of st w u < w.begun = (left_low st is w s v within owned still kept.copies kept.order kept.replay kept.marks pends u both.1).1 in
      let ends = both_ends (λ (n : ℕ). mark_of st w n < w.begun) (nth_edge st e) v both.0 here far in
      ⊎_elim
      (λ (from : mark_of st w (nth_edge st e).from ≡ w.begun). ne_of_lt ends.0 from)
      (λ (to : mark_of st w (nth_edge st e).to ≡ w.begun). ne_of_lt ends.1 to)
      (its_cut.edges_saved b e y low inside (same ∙ newest.0) there).1

  -- who has saved an edge that this machine has saved is this machine
  no_other : (b e x y : ℕ) → b < st.machines → e < length st.graph.edges → (w.part b).known ≡ own.known → made.saved.edges e ≡ Some x → (w.part b).saved.edges e ≡ Some y → b ≡ s.home.0
  no_other b e x y low inside same here there =
      ⊎_elim
      (λ (saves : saves_edge st own v e ≡ true). absurd (none_before b e y low inside same saves there))
      (λ (none : saves_edge st own v e ≡ false).
      right.once b s.home.0 e y x low (home_low st is w s v within owned still kept.copies kept.order kept.replay kept.marks pends) inside same there
      (sym (cond-false (saves_edge st own v e) (Some (own.edge e)) (own.saved.edges e) none) ∙ here))
      (cases_Bool (saves_edge st own v e))

  known_same : (b : ℕ) → (new.part b).known ≡ (w.part b).known
  known_same b = set_at-kept (λ (p : Part). p.known) w.part s.home.0 made refl b

  saved_here : (b e x : ℕ) → b ≡ s.home.0 → (new.part b).saved.edges e ≡ Some x → made.saved.edges e ≡ Some x
  saved_here b e x here its = sym (set_at-here (λ (p : Part). p.saved.edges e) w.part s.home.0 made b here) ∙ its

  saved_there : (b e x : ℕ) → b ≢ s.home.0 → (new.part b).saved.edges e ≡ Some x → (w.part b).saved.edges e ≡ Some x
  saved_there b e x off its = sym (set_at-there (λ (p : Part). p.saved.edges e) w.part s.home.0 made b off) ∙ its

  marked_once : SavesOnce st new
  marked_once a b e x y low_a low_b inside same one other =
      let known : (w.part a).known ≡ (w.part b).known = sym (known_same a) ∙ same ∙ known_same b in
      ⊎_elim
      (λ (here : a ≡ s.home.0). ⊎_elim
      (λ (also : b ≡ s.home.0). here ∙ sym also)
      (λ (off : b ≡ s.home.0 → ⊥).
      here ∙ sym (no_other b e x y low_b inside (sym known ∙ ap (λ (j : ℕ). (w.part j).known) here) (saved_here a e x here one) (saved_there b e y off other)))
      (cases_eq b s.home.0))
      (λ (off : a ≡ s.home.0 → ⊥). ⊎_elim
      (λ (here : b ≡ s.home.0).
      no_other a e y x low_a inside (known ∙ ap (λ (j : ℕ). (w.part j).known) here) (saved_here b e y here other) (saved_there a e x off one) ∙ sym here)
      (λ (away : b ≡ s.home.0 → ⊥). right.once a b e x y low_a low_b inside known (saved_there a e x off one) (saved_there b e y away other))
      (cases_eq b s.home.0))
      (cases_eq a s.home.0)

  marked_vertex : (b u x : ℕ) → (new.part b).saved.vertices u ≡ Some x → u < size st.graph
  marked_vertex b u x =
      set_at-cases (λ (p : Part). p.saved.vertices u ≡ Some x → u < size st.graph) w.part s.home.0 made b
      (λ here. set_at-cases (λ (o : Option ℕ). o ≡ Some x → u < size st.graph) own.saved.vertices v (Some (own.datum v).value) u
      (λ same its. subst (λ (n : ℕ). n < size st.graph) (sym same) within)
      (λ other its. right.vertices s.home.0 u x its))
      (λ there its. right.vertices b u x its)

  marked_edge : (b e x : ℕ) → (new.part b).saved.edges e ≡ Some x → e < length st.graph.edges
  marked_edge b e x =
      set_at-cases (λ (p : Part). p.saved.edges e ≡ Some x → e < length st.graph.edges) w.part s.home.0 made b
      (λ here its. ⊎_elim
      (λ (saves : saves_edge st own v e ≡ true). edge_within st is own v e saves)
      (λ (none : saves_edge st own v e ≡ false). right.edges s.home.0 e x (sym (cond-false (saves_edge st own v e) (Some (own.edge e)) (own.saved.edges e) none) ∙ its))
      (cases_Bool (saves_edge st own v e)))
      (λ there its. right.edges b e x its)

  pub marked_right : SavesRight st new
  marked_right = record { once = marked_once; vertices = marked_vertex; edges = marked_edge }

-- ---- each action

module _ (st : Setting) (is : IsSetting st) (w : World) (kept : IsConsistent st w) (apart : IsExclusive st w) (right : SavesRight st w) where
  action_right : (action : Action) → MayHappen st w action → SavesRight st (after st w action)
  action_right (act.Admit a v) may =
      saves_still st w (after st w (act.Admit a v)) (one_part w a (admitted st a v (w.part a)) (quiet_saved (w.part a) (admitted st a v (w.part a)) (admitted-quiet st a v (w.part a)))) right
  action_right (act.Grant a x) may =
      saves_still st w (after st w (act.Grant a x)) (one_part w a (granted st a x (w.part a)) (quiet_saved (w.part a) (granted st a x (w.part a)) (granted-quiet st a x (w.part a)))) right
  action_right (act.Send p q) may =
      let sent : Part = record (w.part p) { out = set_at (w.part p).out q may.behind } in
      subst (λ (ms : List Message). SavesRight st (sends w p q ms)) (sym may.first)
      (saves_still st w (sends w p q (may.message ∷ may.behind)) (one_part w p sent (inl (refl, refl))) right)
  action_right (act.Deliver p q) may =
      subst (λ (ms : List Message). SavesRight st (delivers st w p q ms)) (sym may.first)
      (saves_still st w (delivers st w p q (may.message ∷ may.behind)) (one_part w q (received st q may.message (w.part q)) (received_saved st q may.message (w.part q))) right)
  action_right (act.Update s) may =
      let v : ℕ = may.vertex in
      let next : Part = updated st s.home.0 s v (Go s.home (record { 0 = v }) w.next) (w.part s.home.0) in
      subst (SavesRight st) (sym (updates_is st w s v may.flight))
      (saves_still st w (act.updates st w s (Some v)) (one_part w s.home.0 next (inl (refl, refl))) right)
  action_right (act.Mark s) may =
      let v : ℕ = may.vertex in
      let its = apart.owned s v (may.flight, may.ready) in
      subst (SavesRight st) (sym (marks_is st w s v may.flight))
      (marked_right st is w kept right s v its.0 its.1 (λ p. apart.done s v p (may.flight, may.ready)) may.pending)
  action_right act.Begin may = same_parts st w (after st w act.Begin) refl right
  action_right (act.Hear a) may =
      let next : Part = begins st a may.number (w.part a) in
      subst (λ (ks : List ℕ). SavesRight st (hears st w a ks)) (sym may.first)
      (saves_still st w (hears st w a (may.number ∷ may.behind)) (one_part w a next (heard_saved may.number (w.part a) next refl refl)) right)
  action_right (act.SendSection a) may =
      let told : Part = record (w.part a) { sent = (w.part a).known } in
      saves_still st w (after st w (act.SendSection a)) (one_part w a told (inl (refl, refl))) right
  action_right (act.Collect a) may = subst (λ (ss : List Section). SavesRight st (collects w a ss)) (sym may.first) (same_parts st w (collects w a (may.section ∷ may.behind)) refl right)
  action_right act.Record may = same_parts st w (after st w act.Record) refl right

  turned_right : (mid new : World) → SavesRight st mid → MayTurn mid new → SavesRight st new
  turned_right mid new its turn =
      ⊎_elim
      (λ (same : new ≡ mid). subst (SavesRight st) (sym same) its)
      (λ (t : (a : ℕ) × (part : Part) × IsTurned (mid.part a) part × (new ≡ with_part mid a part)).
      subst (SavesRight st) (sym t.3)
      (saves_still st mid (with_part mid t.0 t.1) (one_part mid t.0 t.1 (inl (ap (λ (p : Part). p.saved) t.2, ap (λ (p : Part). p.known) t.2))) its))
      turn

  pub move_right : (new : World) → IsMove st w new → SavesRight st new
  move_right new move =
      turned_right move.0 new
      (⊎_elim
      (λ (same : move.0 ≡ w). subst (SavesRight st) (sym same) right)
      (λ (acted : (action : Action) × IsActionStep st w action move.0). subst (SavesRight st) (sym acted.1.1) (action_right acted.0 acted.1.0))
      move.1)
      move.2

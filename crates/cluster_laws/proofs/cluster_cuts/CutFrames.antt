-- Steps that leave the cut of the newest snapshot as it is.
use Rattle.std.proofs.Common.{◌≡◌, ℕ, ◌<◌, ◌≤◌, max, Bool, true, ◌||◌, List, [], ◌∷◌, length, nat_lt, Some, sym, refl, ap, ◌∙◌, subst, subst₂, inl, inr, ⊎_elim, le_antisymm, arith, lt-ltb}
use Rattle.std.proofs.lemmas.Bool.{cases_lt, cases_eq, cond-true}
use Rattle.gl_base.specs.declared.entries.Entry.{Entry}
use Rattle.graph_core.specs.DataGraph.{size}
use Rattle.cluster_laws.specs.cluster_core.Actions.{marks}
use Rattle.cluster_laws.specs.cluster_core.Cuts.{HasMarkedEnd, IsToBeMarked, IsCut}
use Rattle.cluster_laws.specs.cluster_core.Effects.{nothing_saved, marked}
use Rattle.cluster_laws.specs.cluster_core.Marks.{mark_of, vertex_named, MarksHold}
use Rattle.cluster_laws.specs.cluster_core.Messages.{Section, Message, Ask, Ready, Done}
use Rattle.cluster_laws.specs.cluster_core.Parts.{Part}
use Rattle.cluster_laws.specs.cluster_core.Settings.{Setting, IsSetting, nth_edge}
use Rattle.cluster_laws.specs.cluster_core.Worlds.{World, way}
use Rattle.cluster_laws.proofs.cluster_core.Basics.{set_at-here, set_at-there}
use Rattle.cluster_laws.proofs.cluster_core.Nearness.{near_within}
use Rattle.cluster_laws.proofs.cluster_numbers.EdgeEnds.{edge_fits}
use Rattle.cluster_laws.proofs.cluster_numbers.Passing.{none_not_some}
use Rattle.cluster_laws.proofs.cluster_numbers.Quiet.{dones}
use Rattle.cluster_laws.proofs.cluster_numbers.QuietWorlds.{IsQuietStep}
use Rattle.cluster_laws.proofs.cluster_cuts.MarkSteps.{IsStillStep, learned, IsLearning, learned_mark, known_rises, known_bounds, saved_kept}

vertex_named-dones : (u : ℕ) (ms : List Message) → vertex_named u (dones ms) ≡ vertex_named u ms
vertex_named-dones u [] = refl
vertex_named-dones u (Ask s c rest ∷ ms) = vertex_named-dones u ms
vertex_named-dones u (Ready s ∷ ms) = vertex_named-dones u ms
vertex_named-dones u (Done s news ∷ ms) = ap (λ b. news.pends u || b) (vertex_named-dones u ms)

-- Marks stay, and so does what was saved for the newest snapshot; who is to be marked still is.
pub record IsCutFrame (st : Setting) (old new : World) : Type 0 where
  pub begun : new.begun ≡ old.begun
  pub marks : (v : ℕ) → v < size st.graph → mark_of st new v ≡ mark_of st old v
  pub saved : (a : ℕ) → a < st.machines → (old.part a).known ≡ old.begun → ((new.part a).known ≡ old.begun) × ((new.part a).saved ≡ (old.part a).saved)
  pub saved_was : (a e x : ℕ) → a < st.machines → (new.part a).known ≡ old.begun → (new.part a).saved.edges e ≡ Some x → ((old.part a).known ≡ old.begun) × ((old.part a).saved.edges e ≡ Some x)
  pub to_be : (u : ℕ) → u < size st.graph → IsToBeMarked st old u → IsToBeMarked st new u

-- the owner of a marked vertex knows the newest snapshot
pub marked_known : (st : Setting) → IsSetting st → (w : World) → MarksHold st w → (v : ℕ) → v < size st.graph → mark_of st w v ≡ w.begun → (w.part (st.owner v)).known ≡ w.begun
marked_known st is w marks v within marked =
    le_antisymm (marks.known (st.owner v) (is.owner v within)).1 (subst (λ n. n ≤ (w.part (st.owner v)).known) marked (marks.marks v within).1)

module _ (st : Setting) (is : IsSetting st) (old new : World) (frame : IsCutFrame st old new) (marks : MarksHold st old) where
  mark_was : (v : ℕ) → v < size st.graph → mark_of st new v ≡ new.begun → mark_of st old v ≡ old.begun
  mark_was v within marked = sym (frame.marks v within) ∙ marked ∙ frame.begun

  mark_now : (v : ℕ) → v < size st.graph → mark_of st old v ≡ old.begun → mark_of st new v ≡ new.begun
  mark_now v within marked = frame.marks v within ∙ marked ∙ sym frame.begun

  low_was : (v : ℕ) → v < size st.graph → mark_of st new v < new.begun → mark_of st old v < old.begun
  low_was v within low = subst₂ (λ m n. m < n) (frame.marks v within) frame.begun low

  end_was : (e : ℕ) → e < length st.graph.edges → HasMarkedEnd st new e → HasMarkedEnd st old e
  end_was e low end = ⊎_elim
      (λ marked. inl (mark_was (nth_edge st e).from (edge_fits st is e low).from marked))
      (λ marked. inr (mark_was (nth_edge st e).to (edge_fits st is e low).to marked))
      end

  end_now : (e : ℕ) → e < length st.graph.edges → HasMarkedEnd st old e → HasMarkedEnd st new e
  end_now e low end = ⊎_elim
      (λ marked. inl (mark_now (nth_edge st e).from (edge_fits st is e low).from marked))
      (λ marked. inr (mark_now (nth_edge st e).to (edge_fits st is e low).to marked))
      end

  pub cut_framed : (order : List Entry) (count : ℕ → ℕ) → IsCut st old order count → IsCut st new order count
  cut_framed order count cut =
      record {
        few = cut.few;
        all = λ v within low. cut.all v within (low_was v within low);
        valid = cut.valid;
        vertices_saved = λ v within marked.
            let was = mark_was v within marked in
            ap (λ (x : Section). x.vertices v) (frame.saved (st.owner v) (is.owner v within) (marked_known st is old marks v within was)).1 ∙ cut.vertices_saved v within was;
        vertices_else = λ v within low. cut.vertices_else v within (low_was v within low);
        edges_saved = λ a e x a_low low known saved.
            let was = frame.saved_was a e x a_low (known ∙ frame.begun) saved in
            let its = cut.edges_saved a e x a_low low was.0 was.1 in
            (its.0, end_now e low its.1);
        edges_found = λ e low end.
            let found = cut.edges_found e low (end_was e low end) in
            let kept = frame.saved found.0 found.2 found.3 in
            (found.0, found.1, found.2, kept.0 ∙ sym frame.begun, ap (λ (x : Section). x.edges e) kept.1 ∙ found.4);
        edges_else = λ e low from to.
            cut.edges_else e low (low_was (nth_edge st e).from (edge_fits st is e low).from from) (low_was (nth_edge st e).to (edge_fits st is e low).to to);
        tasks = λ v within low around. cut.tasks v within (low_was v within low) (λ u near. low_was u (near_within st is v u near).0 (around u near));
        spread = λ v u within marked near.
            let inside = (near_within st is v u near).0 in ⊎_elim
            (λ (also : mark_of st old u ≡ old.begun). inl (mark_now u inside also))
            (λ (will : IsToBeMarked st old u). inr (frame.to_be u inside will))
            (cut.spread v u within (mark_was v within marked) near);
      }

-- ---- which steps are such

pub still_frame : (st : Setting) (old new : World) → IsStillStep old new → ((u p q : ℕ) → vertex_named u (way old p q) ≡ true → vertex_named u (way new p q) ≡ true) → IsCutFrame st old new
still_frame st old new step named =
    record {
      begun = step.begun;
      marks = λ v within. step.marks (st.owner v) v;
      saved = λ a low known. (step.known a ∙ known, step.saved a);
      saved_was = λ a e x low known saved. (sym (step.known a) ∙ known, ap (λ (y : Section). y.edges e) (sym (step.saved a)) ∙ saved);
      to_be = λ u within will. ⊎_elim
          (λ (here : (old.part (st.owner u)).pending u ≡ true). inl (ap (λ (f : ℕ → Bool). f u) (step.pending (st.owner u)) ∙ here))
          (λ (coming : (p : ℕ) × (vertex_named u (way old p (st.owner u)) ≡ true)). inr (coming.0, named u coming.0 (st.owner u) coming.1))
          will;
    }

pub quiet_named : (old new : World) → IsQuietStep old new → (u p q : ℕ) → vertex_named u (way old p q) ≡ true → vertex_named u (way new p q) ≡ true
quiet_named old new step u p q named =
    sym (vertex_named-dones u (way new p q)) ∙ ap (vertex_named u) (step.news p q) ∙ vertex_named-dones u (way old p q) ∙ named

-- a machine that learns of a snapshot
module _ (st : Setting) (w : World) (marks : MarksHold st w) (a k : ℕ) (new : Part) (learning : IsLearning st a k (w.part a) new) (low : k ≤ w.begun) (link : ℕ → ℕ → List Message) (orders : ℕ → List ℕ) where
  abbrev world : World
  world = learned w a new link orders

  above_max : (n x j b : ℕ) → n ≡ max x j → n ≡ b → x < b → x < j
  above_max n x j b eq same less = omega arith

  learned_was : (b e x : ℕ) → b < st.machines → (world.part b).known ≡ w.begun → (world.part b).saved.edges e ≡ Some x → ((w.part b).known ≡ w.begun) × ((w.part b).saved.edges e ≡ Some x)
  learned_was b e x within known saved = ⊎_elim
      (λ (less : (w.part b).known < w.begun). ⊎_elim
      (λ (same : b ≡ a).
      let new_known : new.known ≡ w.begun = sym (set_at-here (λ (p : Part). p.known) w.part a new b same) ∙ known in
      let newer_one : (w.part a).known < k = above_max new.known (w.part a).known k w.begun learning.known new_known (subst (λ j. (w.part j).known < w.begun) same less) in
      let nothing : new.saved ≡ nothing_saved = learning.saved ∙ cond-true (nat_lt (w.part a).known k) nothing_saved (w.part a).saved (lt-ltb (w.part a).known k newer_one) in
      absurd (none_not_some x (ap (λ (y : Section). y.edges e) (sym nothing) ∙ sym (set_at-here (λ (p : Part). p.saved.edges e) w.part a new b same) ∙ saved)))
      (λ (other : b ≡ a → ⊥). (sym (set_at-there (λ (p : Part). p.known) w.part a new b other) ∙ known, sym (set_at-there (λ (p : Part). p.saved.edges e) w.part a new b other) ∙ saved))
      (cases_eq b a))
      (λ (newest : w.begun ≤ (w.part b).known).
      let was : (w.part b).known ≡ w.begun = le_antisymm (marks.known b within).1 newest in
      (was, ap (λ (y : Section). y.edges e) (sym (saved_kept st w marks a k new learning low link orders b was)) ∙ saved))
      (cases_lt (w.part b).known w.begun)

  pub learned_frame : ((u : ℕ) → u < size st.graph → IsToBeMarked st w u → IsToBeMarked st world u) → IsCutFrame st w world
  learned_frame to_be =
      record {
        begun = refl;
        marks = λ v within. learned_mark st w marks a k new learning low link orders v;
        saved = λ b within known. (
          le_antisymm (known_bounds st w marks a k new learning low link orders b within).1
              (subst (λ n. n ≤ (world.part b).known) known (known_rises st w marks a k new learning low link orders b)),
          saved_kept st w marks a k new learning low link orders b known,
        );
        saved_was = learned_was;
        to_be = to_be;
      }

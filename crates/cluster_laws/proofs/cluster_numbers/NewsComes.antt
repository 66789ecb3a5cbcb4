-- News are received: the copies stay true, and the numbers those of the order.
use Rattle.std.proofs.Common.{◌≡◌, ℕ, true, false, ◌||◌, ◌≢◌, ◌⊎◌, List, ◌∷◌, ◌++◌, is_some, ◌==◌, Option, sym, refl, ap, ◌∙◌, subst, ap₂, subst₂, inl, inr, ⊎_elim, ne_eqb}
use Rattle.std.specs.List.{AllByRecursion}
use Rattle.std.proofs.lemmas.Bool.{cases_eq, or_cases, or_parts, or_left, or_right, cond-false, false_from_ne_true}
use Rattle.gl_base.specs.declared.entries.Entry.{Entry}
use Rattle.gl_base.specs.declared.scopes.ScopeId.{ScopeId}
use Rattle.gl_base.specs.declared.scopes.Datum.{Datum}
use Rattle.seq_run.specs.Orders.{replay}
use Rattle.cluster_laws.specs.cluster_core.Actions.{delivers}
use Rattle.cluster_laws.specs.cluster_core.Copies.{edge_to_come, from_owner, to_owner, AreCopies}
use Rattle.cluster_laws.specs.cluster_core.Effects.{newer_datum, edge_after, applied}
use Rattle.cluster_laws.specs.cluster_core.Messages.{News, Message, Done}
use Rattle.cluster_laws.specs.cluster_core.Parts.{Part}
use Rattle.cluster_laws.specs.cluster_core.Replays.{IsTask, IsReplay}
use Rattle.cluster_laws.specs.cluster_core.Settings.{Setting, IsSetting, nth_edge}
use Rattle.cluster_laws.specs.cluster_core.Ways.{datum_told, edge_told, edge_changed, vertex_woken, IsNewsFor, IsToldTo}
use Rattle.cluster_laws.specs.cluster_core.Worlds.{World, way}
use Rattle.cluster_laws.proofs.cluster_core.Basics.{set_at-cases, set_at-kept, set_at-here, set_at-there}
use Rattle.cluster_laws.proofs.cluster_core.Taking.{same_way, taken, taken-here, taken-there}
use Rattle.cluster_laws.proofs.cluster_numbers.EdgeEnds.{IsBetween, between_same, shared_ends}
use Rattle.cluster_laws.proofs.cluster_numbers.Told.{edge_not_told}

module _ (st : Setting) (is : IsSetting st) (w : World) (p q : ℕ) (s : ScopeId) (news : News) (behind : List Message) (first : w.link p q ≡ Done s news ∷ behind) (copies : AreCopies st w) where
  abbrev m : Message
  m = Done s news

  abbrev before : World
  before = taken w p q m behind first

  abbrev after_news : Part
  after_news = applied st q s news (w.part q)

  abbrev new : World
  new = delivers st w p q (Done s news ∷ behind)

  told_front : AllByRecursion (IsToldTo st p q) (m ∷ way before p q)
  told_front = subst (AllByRecursion (IsToldTo st p q)) (taken-here w p q m behind first) (copies.told p q)

  pub its_news : IsNewsFor st p q news
  its_news = told_front.0

  way_now : (i j : ℕ) → way new i j ≡ way before i j
  way_now i j = ap (λ ms. before.link i j ++ ms) (set_at-kept (λ (part : Part). part.out j) w.part q after_news refl i)

  pub way_there : (i j : ℕ) → (i ≢ p) ⊎ (j ≢ q) → way new i j ≡ way w i j
  way_there i j other = way_now i j ∙ taken-there w p q m behind first i j other

  pub way_here : way w p q ≡ m ∷ way new p q
  way_here = taken-here w p q m behind first ∙ ap (λ ms. m ∷ ms) (sym (way_now p q))

  -- each datum stays but the copy of the centre here
  pub datum_kept : (b v : ℕ) → (b ≡ q → v ≢ news.centre) → (new.part b).datum v ≡ (w.part b).datum v
  datum_kept b v other = set_at-cases (λ (part : Part). part.datum v ≡ (w.part b).datum v) w.part q after_news b
      (λ same. cond-false (v == news.centre) (newer_datum ((w.part q).datum v) news.datum) ((w.part q).datum v) (ne_eqb v news.centre (other same)) ∙ ap (λ j. (w.part j).datum v) (sym same))
      (λ there. refl)

  -- and so the owners' data stay
  pub owned_kept : (v : ℕ) → (new.part (st.owner v)).datum v ≡ (w.part (st.owner v)).datum v
  owned_kept v = datum_kept (st.owner v) v (λ here same. its_news.apart (sym its_news.centre ∙ ap st.owner (sym same) ∙ here))

  datum_here : (v : ℕ) → datum_told v (way new p q) ((new.part q).datum v) ≡ datum_told v (way w p q) ((w.part q).datum v)
  datum_here v =
      ap (datum_told v (way new p q)) (set_at-here (λ (part : Part). part.datum v) w.part q after_news q refl)
      ∙ ap (λ ms. datum_told v ms ((w.part q).datum v)) (sym way_here)

  datum_to_come : (v a : ℕ) → datum_told v (way new (st.owner v) a) ((new.part a).datum v) ≡ datum_told v (way w (st.owner v) a) ((w.part a).datum v)
  datum_to_come v a = ⊎_elim
      (λ (both : (st.owner v ≡ p) × (a ≡ q)).
      subst₂ (λ i j. datum_told v (way new i j) ((new.part j).datum v) ≡ datum_told v (way w i j) ((w.part j).datum v)) (sym both.0) (sym both.1) (datum_here v))
      (λ (other : (st.owner v ≢ p) ⊎ (a ≢ q)).
      ap₂ (λ ms d. datum_told v ms d) (way_there (st.owner v) a other)
      (datum_kept a v (λ here same. ⊎_elim
      (λ (no : st.owner v ≢ p). no (ap st.owner same ∙ its_news.centre))
      (λ (no : a ≢ q). no here)
      other)))
      (same_way p q (st.owner v) a)

  -- what edge e comes to stays at the owner of either end
  edge_here : (e : ℕ) → edge_told e (way new p q) ((new.part q).edge e) ≡ edge_told e (way w p q) ((w.part q).edge e)
  edge_here e =
      ap (edge_told e (way new p q)) (set_at-here (λ (part : Part). part.edge e) w.part q after_news q refl)
      ∙ ap (λ ms. edge_told e ms ((w.part q).edge e)) (sym way_here)

  untold : (told : Option ℕ) (x : ℕ) → (is_some told ≡ true → ⊥) → edge_after told x ≡ x
  untold told x none = edge_not_told told x (false_from_ne_true (is_some told) none)

  edge_stays : (e x y : ℕ) → IsBetween (nth_edge st e) x y → edge_to_come new e (st.owner x) (st.owner y) ≡ edge_to_come w e (st.owner x) (st.owner y)
  edge_stays e x y between = ⊎_elim
      (λ (both : (st.owner y ≡ p) × (st.owner x ≡ q)).
      subst₂ (λ i j. edge_told e (way new i j) ((new.part j).edge e) ≡ edge_told e (way w i j) ((w.part j).edge e)) (sym both.0) (sym both.1) (edge_here e))
      (λ (other : (st.owner y ≢ p) ⊎ (st.owner x ≢ q)).
      ap₂ (λ ms d. edge_told e ms d) (way_there (st.owner y) (st.owner x) other)
      (set_at-cases (λ (part : Part). part.edge e ≡ (w.part (st.owner x)).edge e) w.part q after_news (st.owner x)
      (λ here. untold (news.edges e) ((w.part q).edge e) (λ some. none_here here other some) ∙ ap (λ j. (w.part j).edge e) (sym here))
      (λ there. refl)))
      (same_way p q (st.owner y) (st.owner x))
    where
      -- the news tell of the edge only where the owner of its other end is p
      none_here : st.owner x ≡ q → (st.owner y ≢ p) ⊎ (st.owner x ≢ q) → is_some (news.edges e) ≡ true → ⊥
      none_here here other some =
          let (u, its, owner) = shared_ends st is news.centre q (nth_edge st e) (its_news.edges e some) in
          ⊎_elim
          (λ (no : st.owner y ≢ p). ⊎_elim
          (λ (w : (x ≡ news.centre) × (y ≡ u)). its_news.apart (sym its_news.centre ∙ ap st.owner (sym w.0) ∙ here))
          (λ (w : (x ≡ u) × (y ≡ news.centre)). no (ap st.owner w.1 ∙ its_news.centre))
          (between_same (nth_edge st e) x y news.centre u between its))
          (λ (no : st.owner x ≢ q). no here)
          other

  from_stays : (e : ℕ) → edge_to_come new e (from_owner st e) (to_owner st e) ≡ edge_to_come w e (from_owner st e) (to_owner st e)
  from_stays e = edge_stays e (nth_edge st e).from (nth_edge st e).to (inl (refl, refl))

  to_stays : (e : ℕ) → edge_to_come new e (to_owner st e) (from_owner st e) ≡ edge_to_come w e (to_owner st e) (from_owner st e)
  to_stays e = edge_stays e (nth_edge st e).to (nth_edge st e).from (inr (refl, refl))

  changed_less : (e i j : ℕ) → edge_changed e (way w i j) ≡ false → edge_changed e (way new i j) ≡ false
  changed_less e i j none = ⊎_elim
      (λ (both : (i ≡ p) × (j ≡ q)).
      let here : edge_changed e (m ∷ way new p q) ≡ false = sym (ap (edge_changed e) way_here) ∙ subst₂ (λ k l. edge_changed e (way w k l) ≡ false) both.0 both.1 none in
      subst₂ (λ k l. edge_changed e (way new k l) ≡ false) (sym both.0) (sym both.1) (or_parts (is_some (news.edges e)) (edge_changed e (way new p q)) here).1)
      (λ (other : (i ≢ p) ⊎ (j ≢ q)). ap (edge_changed e) (way_there i j other) ∙ none)
      (same_way p q i j)

  told_still : (i j : ℕ) → AllByRecursion (IsToldTo st i j) (way new i j)
  told_still i j = ⊎_elim
      (λ (both : (i ≡ p) × (j ≡ q)).
      subst₂ (λ k l. AllByRecursion (IsToldTo st k l) (way new k l)) (sym both.0) (sym both.1)
      (subst (AllByRecursion (IsToldTo st p q)) (sym (way_now p q)) told_front.1))
      (λ (other : (i ≢ p) ⊎ (j ≢ q)). subst (AllByRecursion (IsToldTo st i j)) (sym (way_there i j other)) (copies.told i j))
      (same_way p q i j)

  pub copies_come : AreCopies st new
  copies_come =
      record {
        told = told_still;
        vertices_agree = λ v a within part apart. datum_to_come v a ∙ copies.vertices_agree v a within part apart ∙ sym (owned_kept v);
        edges_agree = λ e within. from_stays e ∙ copies.edges_agree e within ∙ sym (to_stays e);
        one_way = λ e within. ⊎_elim
            (λ none. inl (changed_less e (from_owner st e) (to_owner st e) none))
            (λ none. inr (changed_less e (to_owner st e) (from_owner st e) none))
            (copies.one_way e within);
      }

  -- ---- tasks

  task_here : (u : ℕ) → (new.part q).task u ≡ (news.wakes u || (w.part q).task u)
  task_here u = set_at-here (λ (part : Part). part.task u) w.part q after_news q refl

  task_still : (u : ℕ) → IsTask st w u → IsTask st new u
  task_still u task = ⊎_elim
      (λ (here : (w.part (st.owner u)).task u ≡ true). inl (set_at-cases (λ (part : Part). part.task u ≡ true) w.part q after_news (st.owner u)
      (λ same. or_right (news.wakes u) ((w.part q).task u) (subst (λ j. (w.part j).task u ≡ true) same here)) (λ there. here)))
      (λ (coming : (i : ℕ) × (vertex_woken u (way w i (st.owner u)) ≡ true)). ⊎_elim
      (λ (both : (coming.0 ≡ p) × (st.owner u ≡ q)).
      let some : (news.wakes u || vertex_woken u (way new p q)) ≡ true =
      sym (ap (vertex_woken u) way_here) ∙ subst₂ (λ k l. vertex_woken u (way w k l) ≡ true) both.0 both.1 coming.1 in
      ⊎_elim
      (λ (woken : news.wakes u ≡ true). inl (ap (λ j. (new.part j).task u) both.1 ∙ task_here u ∙ or_left (news.wakes u) ((w.part q).task u) woken))
      (λ (later : vertex_woken u (way new p q) ≡ true). inr (p, subst (λ j. vertex_woken u (way new p j) ≡ true) (sym both.1) later))
      (or_cases (news.wakes u) (vertex_woken u (way new p q)) some))
      (λ (other : (coming.0 ≢ p) ⊎ (st.owner u ≢ q)). inr (coming.0, ap (vertex_woken u) (way_there coming.0 (st.owner u) other) ∙ coming.1))
      (same_way p q coming.0 (st.owner u)))
      task

  task_was : (u : ℕ) → IsTask st new u → IsTask st w u
  task_was u task = ⊎_elim
      (λ (here : (new.part (st.owner u)).task u ≡ true). ⊎_elim
      (λ (same : st.owner u ≡ q). ⊎_elim
      (λ (woken : news.wakes u ≡ true). inr (
        p,
        subst (λ j. vertex_woken u (way w p j) ≡ true) (sym same)
            (ap (vertex_woken u) way_here ∙ or_left (news.wakes u) (vertex_woken u (way new p q)) woken),
      ))
      (λ (was : (w.part q).task u ≡ true). inl (subst (λ j. (w.part j).task u ≡ true) (sym same) was))
      (or_cases (news.wakes u) ((w.part q).task u) (sym (task_here u) ∙ subst (λ j. (new.part j).task u ≡ true) same here)))
      (λ (other : st.owner u ≡ q → ⊥). inl (sym (set_at-there (λ (part : Part). part.task u) w.part q after_news (st.owner u) other) ∙ here))
      (cases_eq (st.owner u) q))
      (λ (coming : (i : ℕ) × (vertex_woken u (way new i (st.owner u)) ≡ true)). inr (
        coming.0,
        ⊎_elim
            (λ (both : (coming.0 ≡ p) × (st.owner u ≡ q)).
            subst₂ (λ k l. vertex_woken u (way w k l) ≡ true) (sym both.0) (sym both.1)
            (ap (vertex_woken u) way_here ∙ or_right (news.wakes u) (vertex_woken u (way new p q)) (subst₂ (λ k l. vertex_woken u (way new k l) ≡ true) both.0 both.1 coming.1)))
            (λ (other : (coming.0 ≢ p) ⊎ (st.owner u ≢ q)). sym (ap (vertex_woken u) (way_there coming.0 (st.owner u) other)) ∙ coming.1)
            (same_way p q coming.0 (st.owner u)),
      ))
      task

  pub replay_comes : (order : List Entry) → IsReplay st w order → IsReplay st new order
  replay_comes order replay =
      record {
        valid = replay.valid;
        logs = λ a. set_at-kept (λ (part : Part). part.log) w.part q after_news refl a ∙ replay.logs a;
        tickets = replay.tickets;
        numbers = λ v within. ap (λ (d : Datum). d.value) (owned_kept v) ∙ replay.numbers v within;
        edges = λ e within. from_stays e ∙ replay.edges e within;
        tasks = λ u within. (λ yes_task. task_still u ((replay.tasks u within).0 yes_task), λ task. (replay.tasks u within).1 (task_was u task));
      }

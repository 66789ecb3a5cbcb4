-- An update that is made while no news of neighbours are on the way is fresh, and the order goes on by it.
use Rattle.std.proofs.Common.{◌≡◌, ℕ, suc, ◌<◌, Bool, true, false, not, ◌&&◌, ◌||◌, ◌≢◌, ◌⊎◌, ◌↔◌, List, [], ◌∷◌, ◌++◌, length, ◌==◌, sym, refl, ap, ◌∙◌, subst, ap₂, subst₂, inl, inr, ⊎_elim, true≢false, append-nil, arith, eq-eqb, ne_eqb}
use Rattle.std.specs.List.{AllByRecursion}
use Rattle.std.proofs.lemmas.List.Elements.{filter-append}
use Rattle.std.proofs.lemmas.Bool.{cases_eq, and_parts, or_cases, and_from, or_parts, or_from, or_left, or_right, not-true, not_from_false, cond-true, cond-false, false_from_ne_true}
use Rattle.std.proofs.lemmas.List.Folds.{list_any-append}
use Rattle.gl_base.specs.declared.entries.Entry.{Entry}
use Rattle.gl_base.specs.declared.entries.Entry.TheVariants.{Go}
use Rattle.gl_base.specs.declared.scopes.ScopeId.{ScopeId}
use Rattle.gl_base.specs.declared.scopes.Datum.{Datum}
use Rattle.graph_core.specs.DataGraph.{size}
use Rattle.graph_core.specs.Halves.{DataHalf, halves_of}
use Rattle.graph_core.proofs.HalvesLaws.{each-append, each-weaker, IsHalfAt, halves_are}
use Rattle.update_api.specs.Near.{Near}
use Rattle.seq_run.specs.Orders.{all_tasks, tasks_after_entry}
use Rattle.seq_run.specs.States.{GraphState, near_of, new_number, after_update, wakes}
use Rattle.seq_run.proofs.GoingOn.{replay_from-append, tasks_from-append, valid_append}
use Rattle.seq_run.proofs.Waking.{with_number-same, with_number-other}
use Rattle.cluster_laws.specs.cluster_core.Actions.{draws}
use Rattle.cluster_laws.specs.cluster_core.Copies.{from_owner, to_owner, agreed, AreCopies}
use Rattle.cluster_laws.specs.cluster_core.Effects.{renewed, news_for, updated, marked_datum, mark_news, marked}
use Rattle.cluster_laws.specs.cluster_core.Messages.{News, Message, Ask, Ready, Done}
use Rattle.cluster_laws.specs.cluster_core.Parts.{Part, lent}
use Rattle.cluster_laws.specs.cluster_core.Places.{done_near}
use Rattle.cluster_laws.specs.cluster_core.Replays.{is_of, ticket_of, entries_of, replay_of, tasks_of, IsTask, IsReplay, IsFresh}
use Rattle.cluster_laws.specs.cluster_core.Scopes.{takes_part}
use Rattle.cluster_laws.specs.cluster_core.Settings.{Setting, IsSetting, is_near, nth_edge}
use Rattle.cluster_laws.specs.cluster_core.Ways.{wakes_vertex, vertex_woken, IsToldTo}
use Rattle.cluster_laws.specs.cluster_core.Worlds.{World, with_part, way}
use Rattle.cluster_laws.proofs.cluster_core.Basics.{set_at-same, set_at-cases, set_at-kept, set_at-here, set_at-there}
use Rattle.cluster_laws.proofs.cluster_core.Nearness.{near_turned, near_within, owner_takes_part, scoped_near}
use Rattle.cluster_laws.proofs.cluster_numbers.EdgeEnds.{IsBetween, end_cases, ends_near, half_between, wakes_near, edge_kept, new_number-same, wakes-same, edge_after-same}
use Rattle.cluster_laws.proofs.cluster_numbers.NewsMade.{renewed-value, copies_by_parts, IsMade, update_made, mark_made, copy_true, way_told, way_by, reaches_from, datum_else, datum_written, edge_else, agreed_here, copies_made}
use Rattle.cluster_laws.proofs.cluster_numbers.Passing.{any-left, any-right, any-either, any_one}
use Rattle.cluster_laws.proofs.cluster_numbers.Told.{datum_told-same}

-- no message wakes a vertex while no news of its neighbours are on the way to its owner
not_woken : (st : Setting) (v p q : ℕ) (ms : List Message) → AllByRecursion (IsToldTo st p q) ms → done_near st v ms ≡ false → vertex_woken v ms ≡ false
not_woken st v p q [] all none = refl
not_woken st v p q (Ask s c rest ∷ ms) all none = not_woken st v p q ms all.1 none
not_woken st v p q (Ready s ∷ ms) all none = not_woken st v p q ms all.1 none
not_woken st v p q (Done s news ∷ ms) all none =
    let parts = or_parts (is_near st v news.centre) (done_near st v ms) none in
    or_from (news.wakes v) (vertex_woken v ms)
    (false_from_ne_true (news.wakes v) (λ woken. true≢false (sym (near_turned st v news.centre ∙ (all.0.wakes v woken).0) ∙ parts.0)))
    (not_woken st v p q ms all.1 parts.1)

-- what lies along a half, with this number at its other end and this mark
abbrev near_with : DataHalf → ℕ → ℕ → Near
near_with h number mark = record { number = number; mark = mark; weight = h.weight; out = h.out; into = h.into }

module _ (st : Setting) (is : IsSetting st) (w : World) (s : ScopeId) (v : ℕ) (within : v < size st.graph) (owned : st.owner v ≡ s.home.0) (still : (p : ℕ) → done_near st v (way w p s.home.0) ≡ false) (copies : AreCopies st w) (order : List Entry) (replay : IsReplay st w order) where
  abbrev own_part : Part
  own_part = w.part s.home.0

  abbrev numbers : GraphState
  numbers = replay_of st order

  -- ---- what is lent is what was replayed

  -- the copy of a neighbour's datum is true
  pub true_datum : (u : ℕ) → is_near st v u ≡ true → own_part.datum u ≡ (w.part (st.owner u)).datum u
  true_datum u near = ⊎_elim
      (λ (same : st.owner u ≡ s.home.0). ap (λ j. (w.part j).datum u) (sym same))
      (λ (other : st.owner u ≡ s.home.0 → ⊥).
      let low = (near_within st is v u near).0 in
      let part : takes_part st u s.home.0 ≡ true =
      subst (λ a. takes_part st u a ≡ true) owned (owner_takes_part st is u v low (scoped_near st is u v (near_turned st u v ∙ near))) in
      sym (datum_told-same st v u (way w (st.owner u) s.home.0) (own_part.datum u) near (still (st.owner u)))
      ∙ copies.vertices_agree u s.home.0 low part (λ same. other (sym same)))
      (cases_eq (st.owner u) s.home.0)

  near_number : (u : ℕ) → is_near st v u ≡ true → (own_part.datum u).value ≡ numbers.vertex u
  near_number u near = ap (λ (d : Datum). d.value) (true_datum u near) ∙ replay.numbers u (near_within st is v u near).0

  own_edge_number : (e x : ℕ) → e < length st.graph.edges → IsBetween (nth_edge st e) v x → own_part.edge e ≡ numbers.edge e
  own_edge_number e x low between = sym (copy_true st is w s v within owned still copies e x low between) ∙ replay.edges e low

  own_number : (own_part.datum v).value ≡ numbers.vertex v
  own_number = ap (λ a. ((w.part a).datum v).value) (sym owned) ∙ replay.numbers v within

  near_same : AllByRecursion (λ h. near_of (lent own_part) h ≡ near_of numbers h) (halves_of st.graph v)
  near_same =
      each-weaker (IsHalfAt st.graph is.graph v) (λ h. near_of (lent own_part) h ≡ near_of numbers h)
      (λ h half.
      let between = half_between st is v h half in
      ap₂ (near_with h) (near_number h.other (ends_near st is h.edge v h.other between.0 between.1)) (own_edge_number h.edge h.other between.0 between.1))
      (halves_of st.graph v) (halves_are st.graph is.graph v)

  pub fresh : IsFresh st numbers own_part v
  fresh = record { own = own_number; near = near_same }

  -- ---- one entry more

  abbrev entry : Entry
  entry = Go s.home (record { 0 = v }) w.next

  abbrev pub longer : List Entry
  longer = order ++ entry ∷ []

  abbrev the_news : ℕ → News
  the_news = news_for st own_part v

  abbrev the_part : Part
  the_part = updated st s.home.0 s v entry own_part

  abbrev is_made : IsMade st s.home.0 s v the_news own_part the_part
  is_made = update_made st is s.home.0 s v entry own_part

  abbrev pub world : World
  world = draws (with_part w s.home.0 the_part)

  replay_longer : replay_of st longer ≡ after_update st.graph st.program numbers v
  replay_longer = replay_from-append st.graph st.program st.start order (entry ∷ [])

  tasks_longer : tasks_of st longer ≡ tasks_after_entry st.graph st.program numbers (tasks_of st order) entry
  tasks_longer = tasks_from-append st.graph st.program st.start (all_tasks st.graph) order (entry ∷ [])

  same_number : new_number st.graph st.program (lent own_part) v ≡ new_number st.graph st.program numbers v
  same_number = new_number-same st.graph st.program (lent own_part) numbers v own_number near_same

  same_wakes : (u : ℕ) → wakes st.graph st.program (lent own_part) v u ≡ wakes st.graph st.program numbers v u
  same_wakes u = wakes-same st.graph st.program (lent own_part) numbers v own_number near_same u

  logs_longer : (a : ℕ) → (world.part a).log ≡ entries_of a longer
  logs_longer a = set_at-cases (λ (part : Part). part.log ≡ entries_of a longer) w.part s.home.0 the_part a
      (λ same. ap (λ l. l ++ entry ∷ []) (ap (λ j. (w.part j).log) (sym same) ∙ replay.logs a)
      ∙ sym (filter-append (is_of a) order (entry ∷ []) ∙ ap (λ l. entries_of a order ++ l) (cond-true (s.home.0 == a) (entry ∷ []) [] (eq-eqb s.home.0 a (sym same)))))
      (λ other. replay.logs a ∙ sym (filter-append (is_of a) order (entry ∷ [])
      ∙ ap (λ l. entries_of a order ++ l) (cond-false (s.home.0 == a) (entry ∷ []) [] (ne_eqb s.home.0 a (λ same. other (sym same)))) ∙ append-nil (entries_of a order)))

  tickets_longer : AllByRecursion (λ entry. ticket_of entry < suc w.next) longer
  tickets_longer =
      each-append (λ entry. ticket_of entry < suc w.next) order (entry ∷ [])
      (each-weaker (λ entry. ticket_of entry < w.next) (λ entry. ticket_of entry < suc w.next) (λ x low. omega (arith, low)) order replay.tickets) (omega arith, tt)

  numbers_longer : (y : ℕ) → y < size st.graph → ((world.part (st.owner y)).datum y).value ≡ (replay_of st longer).vertex y
  numbers_longer y low =
      let new : ℕ = new_number st.graph st.program (lent own_part) v in ⊎_elim
      (λ (same : y ≡ v). subst (λ x. ((world.part (st.owner x)).datum x).value ≡ (replay_of st longer).vertex x) (sym same)
      (ap (λ (d : Datum). d.value) (datum_written st is w s v within owned still copies the_news the_part is_made ∙ set_at-same own_part.datum v (renewed (own_part.datum v) new))
      ∙ renewed-value (own_part.datum v) new ∙ same_number ∙ sym (ap (λ (g : GraphState). g.vertex v) replay_longer ∙ with_number-same numbers.vertex v (new_number st.graph st.program numbers v))))
      (λ (other : y ≡ v → ⊥).
      ap (λ (d : Datum). d.value) (datum_else st is w s v within owned still copies the_news the_part is_made (st.owner y) y (λ same. other))
      ∙ replay.numbers y low ∙ sym (ap (λ (g : GraphState). g.vertex y) replay_longer ∙ with_number-other numbers.vertex v (new_number st.graph st.program numbers v) y other))
      (cases_eq y v)

  edges_longer : (e : ℕ) → e < length st.graph.edges → agreed st world e ≡ (replay_of st longer).edge e
  edges_longer e low = ⊎_elim
      (λ (at : (x : ℕ) × IsBetween (nth_edge st e) v x).
      agreed_here st is w s v within owned still copies the_news the_part is_made e at.0 low at.1
      ∙ edge_after-same st.graph st.program (lent own_part) numbers v e own_number near_same (own_edge_number e at.0 low at.1)
      ∙ sym (ap (λ (g : GraphState). g.edge e) replay_longer))
      (λ (away : ((nth_edge st e).from ≢ v) × ((nth_edge st e).to ≢ v)).
      edge_else st is w s v within owned still copies the_news the_part is_made e (from_owner st e) (to_owner st e) away
      ∙ replay.edges e low ∙ sym (edge_kept st is numbers v e away) ∙ sym (ap (λ (g : GraphState). g.edge e) replay_longer))
      (end_cases (nth_edge st e) v)

  -- ---- tasks

  abbrev wakes_here : ℕ → Bool
  wakes_here u = wakes st.graph st.program (lent own_part) v u

  told_again : (u p q : ℕ) → vertex_woken u (way w p q) ≡ true → vertex_woken u (way world p q) ≡ true
  told_again u p q woken =
      way_by st is w s v within owned still copies the_news the_part is_made (λ ms. vertex_woken u ms ≡ true) p q
      (λ same yes_told. any-left (wakes_vertex u) (way w p q) (Done s (the_news q) ∷ []) woken)
      woken

  -- who is woken is a task here or is told
  woken_task : (u : ℕ) → wakes_here u ≡ true → IsTask st world u
  woken_task u woken = ⊎_elim
      (λ (same : st.owner u ≡ s.home.0).
      inl (set_at-here (λ (part : Part). part.task u) w.part s.home.0 the_part (st.owner u) same
      ∙ or_left (st.owner u == s.home.0 && wakes_here u) (own_part.task u && not (u == v)) (and_from (st.owner u == s.home.0) (wakes_here u) (eq-eqb (st.owner u) s.home.0 same) woken)))
      (λ (other : st.owner u ≡ s.home.0 → ⊥).
      let part : takes_part st v (st.owner u) ≡ true = owner_takes_part st is v u within (scoped_near st is v u (wakes_near st is (lent own_part) v u woken)) in
      inr (
        s.home.0,
        ap (vertex_woken u) (way_told st is w s v within owned still copies the_news the_part is_made (st.owner u) (reaches_from st is w s v within owned still copies the_news the_part is_made (st.owner u) part other))
            ∙ any-right (wakes_vertex u) (way w s.home.0 (st.owner u)) (Done s (the_news (st.owner u)) ∷ [])
            (any_one (wakes_vertex u) (Done s (the_news (st.owner u))) ∙ and_from (st.owner u == st.owner u) (wakes_here u) (eq-eqb (st.owner u) (st.owner u) refl) woken),
      ))
      (cases_eq (st.owner u) s.home.0)

  -- each other task stays one
  kept_task : (u : ℕ) → u ≢ v → IsTask st w u → IsTask st world u
  kept_task u other task = ⊎_elim
      (λ (here : (w.part (st.owner u)).task u ≡ true). inl (set_at-cases (λ (part : Part). part.task u ≡ true) w.part s.home.0 the_part (st.owner u)
      (λ same. or_right (st.owner u == s.home.0 && wakes_here u) (own_part.task u && not (u == v))
      (and_from (own_part.task u) (not (u == v)) (subst (λ j. (w.part j).task u ≡ true) same here) (not_from_false (u == v) (ne_eqb u v other))))
      (λ there. here)))
      (λ (coming : (p : ℕ) × (vertex_woken u (way w p (st.owner u)) ≡ true)). inr (coming.0, told_again u coming.0 (st.owner u) coming.1))
      task

  abbrev IsWokenOrOld : ℕ → Type 0
  IsWokenOrOld u = (wakes_here u ≡ true) ⊎ ((u ≢ v) × IsTask st w u)

  -- and there is no other task
  told_before : (u p : ℕ) → vertex_woken u (way w p (st.owner u)) ≡ true → IsWokenOrOld u
  told_before u p woken =
      inr (
        λ same.
            let here : vertex_woken v (way w p s.home.0) ≡ true = subst₂ (λ x a. vertex_woken x (way w p a) ≡ true) same (ap st.owner same ∙ owned) woken in
            true≢false (sym here ∙ not_woken st v p s.home.0 (way w p s.home.0) (copies.told p s.home.0) (still p)),
        inr (p, woken),
      )

  told_now : (u p : ℕ) → vertex_woken u (way world p (st.owner u)) ≡ true → IsWokenOrOld u
  told_now u p woken =
      way_by st is w s v within owned still copies the_news the_part is_made (λ ms. vertex_woken u ms ≡ true → IsWokenOrOld u) p (st.owner u)
      (λ same yes_told some. ⊎_elim
      (λ (was : vertex_woken u (way w p (st.owner u)) ≡ true). told_before u p was)
      (λ (told : vertex_woken u (Done s (the_news (st.owner u)) ∷ []) ≡ true).
      inl (and_parts (st.owner u == st.owner u) (wakes_here u) (sym (any_one (wakes_vertex u) (Done s (the_news (st.owner u)))) ∙ told)).1)
      (any-either (wakes_vertex u) (way w p (st.owner u)) (Done s (the_news (st.owner u)) ∷ []) some))
      (λ was. told_before u p was)
      woken

  task_from : (u : ℕ) → IsTask st world u → IsWokenOrOld u
  task_from u task = ⊎_elim
      (λ (here : (world.part (st.owner u)).task u ≡ true). ⊎_elim
      (λ (same : st.owner u ≡ s.home.0). ⊎_elim
      (λ (woken : (st.owner u == s.home.0 && wakes_here u) ≡ true). inl (and_parts (st.owner u == s.home.0) (wakes_here u) woken).1)
      (λ (old : (own_part.task u && not (u == v)) ≡ true).
      let both = and_parts (own_part.task u) (not (u == v)) old in
      inr (λ its. true≢false (sym (eq-eqb u v its) ∙ not-true (u == v) both.1), inl (subst (λ j. (w.part j).task u ≡ true) (sym same) both.0)))
      (or_cases (st.owner u == s.home.0 && wakes_here u) (own_part.task u && not (u == v))
      (sym (set_at-here (λ (part : Part). part.task u) w.part s.home.0 the_part (st.owner u) same) ∙ here)))
      (λ (other : st.owner u ≡ s.home.0 → ⊥).
      inr (λ its. other (ap st.owner its ∙ owned), inl (sym (set_at-there (λ (part : Part). part.task u) w.part s.home.0 the_part (st.owner u) other) ∙ here)))
      (cases_eq (st.owner u) s.home.0))
      (λ (coming : (p : ℕ) × (vertex_woken u (way world p (st.owner u)) ≡ true)). told_now u coming.0 coming.1)
      task

  tasks_go_on : (u : ℕ) → u < size st.graph → (tasks_of st longer u ≡ true) ↔ IsTask st world u
  tasks_go_on u low = (
    λ task. ⊎_elim
        (λ (woken : wakes st.graph st.program numbers v u ≡ true). woken_task u (same_wakes u ∙ woken))
        (λ (old : (tasks_of st order u && not (u == v)) ≡ true).
        let both = and_parts (tasks_of st order u) (not (u == v)) old in
        kept_task u (λ its. true≢false (sym (eq-eqb u v its) ∙ not-true (u == v) both.1)) ((replay.tasks u low).0 both.0))
        (or_cases (wakes st.graph st.program numbers v u) (tasks_of st order u && not (u == v)) (sym (ap (λ (f : ℕ → Bool). f u) tasks_longer) ∙ task)),
    λ task. ap (λ (f : ℕ → Bool). f u) tasks_longer ∙ ⊎_elim
        (λ (woken : wakes_here u ≡ true). or_left (wakes st.graph st.program numbers v u) (tasks_of st order u && not (u == v)) (sym (same_wakes u) ∙ woken))
        (λ (old : (u ≢ v) × IsTask st w u). or_right (wakes st.graph st.program numbers v u) (tasks_of st order u && not (u == v))
        (and_from (tasks_of st order u) (not (u == v)) ((replay.tasks u low).1 old.1) (not_from_false (u == v) (ne_eqb u v old.0))))
        (task_from u task),
  )

  pub was_task : own_part.task v ≡ true → tasks_of st order v ≡ true
  was_task task = (replay.tasks v within).1 (inl (ap (λ a. (w.part a).task v) owned ∙ task))

  pub copies_updated : AreCopies st world
  copies_updated = copies_by_parts st (with_part w s.home.0 the_part) world refl refl (copies_made st is w s v within owned still copies the_news the_part is_made)

  pub replay_made : own_part.task v ≡ true → IsReplay st world longer
  replay_made task =
      record {
        valid = valid_append st.graph st.program st.start (all_tasks st.graph) order (entry ∷ []) replay.valid (was_task task, tt);
        logs = logs_longer;
        tickets = tickets_longer;
        numbers = numbers_longer;
        edges = edges_longer;
        tasks = tasks_go_on;
      }

-- ---- a snapshot update changes no number and no task

module _ (st : Setting) (is : IsSetting st) (w : World) (s : ScopeId) (v : ℕ) (within : v < size st.graph) (owned : st.owner v ≡ s.home.0) (still : (p : ℕ) → done_near st v (way w p s.home.0) ≡ false) (copies : AreCopies st w) (order : List Entry) (replay : IsReplay st w order) where
  abbrev mark_part : Part
  mark_part = marked st s.home.0 s v (w.part s.home.0)

  abbrev told : ℕ → News
  told = mark_news st (w.part s.home.0) v

  abbrev mark_is_made : IsMade st s.home.0 s v told (w.part s.home.0) mark_part
  mark_is_made = mark_made st s.home.0 s v (w.part s.home.0)

  abbrev pub marked_world : World
  marked_world = with_part w s.home.0 mark_part

  pub copies_marked : AreCopies st marked_world
  copies_marked = copies_made st is w s v within owned still copies told mark_part mark_is_made

  value_kept : (b y : ℕ) → ((marked_world.part b).datum y).value ≡ ((w.part b).datum y).value
  value_kept b y = set_at-kept (λ (part : Part). (part.datum y).value) w.part s.home.0 mark_part
      (set_at-cases (λ (d : Datum). d.value ≡ ((w.part s.home.0).datum y).value) (w.part s.home.0).datum v (marked_datum (w.part s.home.0) v) y
      (λ same. ap (λ x. ((w.part s.home.0).datum x).value) (sym same)) (λ other. refl))
      b

  edge_number : (e : ℕ) → e < length st.graph.edges → agreed st marked_world e ≡ agreed st w e
  edge_number e low = ⊎_elim
      (λ (at : (x : ℕ) × IsBetween (nth_edge st e) v x).
      agreed_here st is w s v within owned still copies told mark_part mark_is_made e at.0 low at.1 ∙ sym (copy_true st is w s v within owned still copies e at.0 low at.1))
      (λ (away : ((nth_edge st e).from ≢ v) × ((nth_edge st e).to ≢ v)).
      edge_else st is w s v within owned still copies told mark_part mark_is_made e (from_owner st e) (to_owner st e) away)
      (end_cases (nth_edge st e) v)

  woken_same : (u p q : ℕ) → vertex_woken u (way marked_world p q) ≡ vertex_woken u (way w p q)
  woken_same u p q =
      way_by st is w s v within owned still copies told mark_part mark_is_made (λ ms. vertex_woken u ms ≡ vertex_woken u (way w p q)) p q
      (λ same yes_told. list_any-append (wakes_vertex u) (way w p q) (Done s (told q) ∷ []) ∙ or_none (vertex_woken u (way w p q)))
      refl
    where
      or_none : (b : Bool) → (b || false) ≡ b
      or_none true = refl
      or_none false = refl

  task_kept : (b u : ℕ) → (marked_world.part b).task u ≡ (w.part b).task u
  task_kept b u = set_at-kept (λ (part : Part). part.task u) w.part s.home.0 mark_part refl b

  pub replay_marked : IsReplay st marked_world order
  replay_marked =
      record {
        valid = replay.valid;
        logs = λ a. set_at-kept (λ (part : Part). part.log) w.part s.home.0 mark_part refl a ∙ replay.logs a;
        tickets = replay.tickets;
        numbers = λ y low. value_kept (st.owner y) y ∙ replay.numbers y low;
        edges = λ e low. edge_number e low ∙ replay.edges e low;
        tasks = λ u low. (
          λ yes_task. ⊎_elim
              (λ (here : (w.part (st.owner u)).task u ≡ true). inl (task_kept (st.owner u) u ∙ here))
              (λ (coming : (p : ℕ) × (vertex_woken u (way w p (st.owner u)) ≡ true)). inr (coming.0, woken_same u coming.0 (st.owner u) ∙ coming.1))
              ((replay.tasks u low).0 yes_task),
          λ task. (replay.tasks u low).1 (⊎_elim
              (λ (here : (marked_world.part (st.owner u)).task u ≡ true). inl (sym (task_kept (st.owner u) u) ∙ here))
              (λ (coming : (p : ℕ) × (vertex_woken u (way marked_world p (st.owner u)) ≡ true)). inr (coming.0, sym (woken_same u coming.0 (st.owner u)) ∙ coming.1))
              task),
        );
      }

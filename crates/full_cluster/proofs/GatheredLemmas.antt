-- An update on a copy of what was gathered, and what becomes of a machine's lists as it is written.
use Rattle.std.proofs.Common.{◌≡◌, ◌≢◌, ℕ, ◌+◌, ◌<◌, ◌==◌, ◌&&◌, ◌||◌, not, Bool, true, None, Option, Some, unwrap_or, List, length, map, slice_index, slice_set, refl, sym, ◌∙◌, ap, subst, ⊎_elim, eq-eqb, arith}
use Rattle.std.proofs.lemmas.Bool.{cases_eq, eqb-true}
use Rattle.gl_base.specs.declared.entries.Entry.{Entry}
use Rattle.gl_base.specs.declared.numbers.Vertex.{Vertex}
use Rattle.gl_base.specs.declared.scopes.ScopeId.{ScopeId}
use Rattle.graph_core.specs.declared.halves.Half.{Half}
use Rattle.graph_core.specs.DataGraph.{DataGraph, size}
use Rattle.graph_core.specs.HalfRows.{data_half}
use Rattle.graph_core.specs.Halves.{halves_of}
use Rattle.update_api.specs.declared.woken.Woken.{Woken}
use Rattle.seq_run.specs.Runs.{AreNumbers}
use Rattle.seq_run.specs.States.{GraphState, is_woken}
use Rattle.cluster_laws.specs.cluster_core.Settings.{Setting}
use Rattle.full_scope.specs.FullStates.{after_full, full_wakes}
use Rattle.full_scope.specs.FullUpdates.{FullUpdate}
use Rattle.full_laws.specs.FullEffects.{lent_full, updated_full}
use Rattle.full_laws.specs.FullParts.{FullPart}
use Rattle.full_laws.specs.Items.{AVertex, AnEdge, IsItem, Item, is_written, keeps, number_in}
use Rattle.full_cluster.specs.declared.divisions.Division.{Division}
use Rattle.full_cluster.specs.Given.{AreGatheredAt, AreOfScope, HasGathered, HasLists, IsDividedAs, IsSeenList, is_marked, vertex_after}
use Rattle.full_cluster.specs.Owners.{owner_in}
use Rattle.full_cluster.specs.Written.{state_in}
use Rattle.full_cluster.specs.Inner.Making.{IsMade}
use Rattle.full_cluster.specs.Inner.Rows.{ComesFrom, nth_half, wakes_own}
use Rattle.full_cluster.proofs.KeptLemmas.{after_same, made_as, updated_has, wakes_same}
use Rattle.full_cluster.proofs.UpdateLemmas.{edges_left, numbers_left}

-- ---- numbers of others are written

module _ (st : Setting) (me : ℕ) (owner : ℕ → ℕ) (owners : st.owner ≡ owner) (old new edges : List ℕ) (tasks : List Bool) (part : FullPart) (has : HasLists st me old edges tasks part) (long : length new ≡ length old)
    (own : (x : ℕ) → x < length old → owner x ≡ me → slice_index new x ≡ slice_index old x) where
  still : (i : Item) → IsItem st.graph i → keeps st me i ≡ true → number_in (state_in new edges) i ≡ part.number i
  still (AVertex x) inside keep =
      let count = has.count in
      own x (omega (arith, count, inside)) ((λ k. sym owners k x) ∙ eqb-true (st.owner x) me keep) ∙ has.numbers_are (AVertex x) inside keep
  still (AnEdge e) inside keep = has.numbers_are (AnEdge e) inside keep

  pub others_kept : HasLists st me new edges tasks part
  others_kept =
      record {
        count = long ∙ has.count;
        edge_count = has.edge_count;
        task_count = has.task_count;
        numbers_are = λ i inside keep. still i inside keep;
        tasks_are = has.tasks_are;
      }

  by_seen : (o : Option ℕ) (here : ℕ) → ((n : ℕ) → o ≡ Some n → here ≡ n) → here ≡ unwrap_or o here
  by_seen None here it = refl
  by_seen (Some n) here it = it n refl

  pub gathered_there : (v : ℕ) (f : ℕ → Option ℕ) (seen : List (Vertex × ℕ)) → IsSeenList seen f → AreGatheredAt st me v f part →
      ((x : ℕ) → x < length old → owner x ≢ me → slice_index new x ≡ vertex_after seen x (slice_index old x)) → HasGathered f new
  gathered_there v f seen list gathered others x inside =
      let count = has.count in
      let low : x < length old = omega (arith, inside, long) in
      by_seen (f x) (slice_index new x) (λ n is. ⊎_elim
      (λ (mine : st.owner x ≡ me).
      own x low ((λ k. sym owners k x) ∙ mine)
      ∙ has.numbers_are (AVertex x) (omega (arith, low, count)) (eq-eqb (st.owner x) me mine) ∙ sym (gathered.own x n mine is))
      (λ (away : st.owner x ≢ me).
      others x low (λ same. away ((λ k. owners k x) ∙ same)) ∙ list x (slice_index old x) ∙ ap (λ o. unwrap_or o (slice_index old x)) is)
      (cases_eq (st.owner x) me))

-- ---- the update on a copy

module _ (st : Setting) (d : Division) (given : IsDividedAs st d) (p : FullUpdate) (v : ℕ) (low : v < size d.graph.now) (numbers edges : List ℕ) (tasks : List Bool) (part : FullPart) (f : ℕ → Option ℕ) (has : HasLists st (st.owner v) numbers edges tasks part) (scope : AreOfScope st v f) (lent : HasGathered f numbers) where
  abbrev s : GraphState
  s = state_in numbers edges

  low_there : v < size st.graph
  low_there = subst (λ (h : DataGraph). v < size h) (sym given.graph) low

  are : (x : ℕ) → x < size st.graph → slice_index numbers x ≡ unwrap_or (f x) (slice_index numbers x)
  are x inside = let count = has.count in lent x (omega (arith, inside, count))

  same : (i : Item) → IsItem st.graph i → is_written st v i ≡ true → number_in (after_full st.graph p s v) i ≡ number_in (after_full st.graph p (lent_full f part) v) i
  same i inside at = after_same st given.setting p v (st.owner v) low_there refl numbers edges tasks part has f scope numbers are i inside at

  pub made_lent : (centre : ℕ) (row : List ℕ) → IsMade d.graph.now (after_full d.graph.now p s v) v centre row → IsMade st.graph (after_full st.graph p (lent_full f part) v) v centre row
  made_lent centre row made =
      made_as st given.setting v low_there (after_full st.graph p s v) (after_full st.graph p (lent_full f part) v) same centre row
      (subst (λ (h : DataGraph). IsMade h (after_full h p s v) v centre row) (sym given.graph) made)

  pub woken_lent : (woken : Woken) → ((u : ℕ) → full_wakes d.graph.now p s v u ≡ is_woken woken (halves_of d.graph.now v) u) → (u : ℕ) → full_wakes st.graph p (lent_full f part) v u ≡ is_woken woken (halves_of st.graph v) u
  woken_lent woken is u =
      sym (wakes_same st given.setting p v (st.owner v) low_there refl numbers edges tasks part has f scope numbers are u)
      ∙ subst (λ (h : DataGraph). full_wakes h p s v u ≡ is_woken woken (halves_of h v) u) (sym given.graph) (is u)

  -- ---- and it is written

  module _ (centre : ℕ) (row : List ℕ) (made : IsMade st.graph (after_full st.graph p (lent_full f part) v) v centre row) (woken : Woken) (wakes : (u : ℕ) → full_wakes st.graph p (lent_full f part) v u ≡ is_woken woken (halves_of st.graph v) u)
      (halves : List Half) (along : map data_half halves ≡ halves_of d.graph.now v) where
    here : IsMade d.graph.now (after_full d.graph.now p s v) v centre row
    here =
        subst (λ (h : DataGraph). IsMade h (after_full h p s v) v centre row) given.graph
        (made_as st given.setting v low_there (after_full st.graph p (lent_full f part) v) (after_full st.graph p s v) (λ i inside at. sym (same i inside at)) centre row made)

    pub written : (new new_edges : List ℕ) → length new ≡ length numbers → length new_edges ≡ length edges →
        ComesFrom (λ i. (nth_half halves i).other.0) (slice_index row) (length halves) (slice_set numbers v centre) new →
        ComesFrom (λ i. (nth_half halves i).edge.0) (λ i. slice_index row (length halves + i)) (length halves) edges new_edges →
        (new_tasks : List Bool) → length new_tasks ≡ length tasks →
        ((u : ℕ) → u < length tasks → is_marked new_tasks u ≡ (wakes_own (owner_in d.owner.now) (st.owner v) woken halves u || (is_marked tasks u && not (u == v)))) →
        (sc : ScopeId) (entry : Entry) → HasLists st (st.owner v) new new_edges new_tasks (updated_full st p (st.owner v) sc v (lent_full f part) entry part)
    written new new_edges long long_edges comes comes_edges new_tasks long_tasks marked sc entry =
        let count : length numbers ≡ size d.graph.now = has.count ∙ ap size given.graph in
        let edge_count : length edges ≡ length d.graph.now.edges = has.edge_count ∙ ap (λ (h : DataGraph). length h.edges) given.graph in
        let vertices : AreNumbers (size d.graph.now) (after_full d.graph.now p s v).vertex new = numbers_left d.graph.now d.built v halves along p numbers edges low centre row here new count long comes in
        let marks : AreNumbers (length d.graph.now.edges) (after_full d.graph.now p s v).edge new_edges = edges_left d.graph.now d.built v halves along p numbers edges low centre row here new_edges edge_count long_edges comes_edges in
        updated_has st given.setting p v (st.owner v) low_there refl numbers edges tasks part has f scope numbers are new new_edges new_tasks sc entry (owner_in d.owner.now) woken halves given.owners
        (subst (λ (h : DataGraph). map data_half halves ≡ halves_of h v) (sym given.graph) along)
        (λ y. wakes_same st given.setting p v (st.owner v) low_there refl numbers edges tasks part has f scope numbers are y ∙ wakes y)
        (subst (λ (h : DataGraph). AreNumbers (size h) (after_full h p s v).vertex new) (sym given.graph) vertices)
        (subst (λ (h : DataGraph). AreNumbers (length h.edges) (after_full h p s v).edge new_edges) (sym given.graph) marks)
        long_tasks
        (λ u inside. let many = has.task_count in marked u (omega (arith, inside, many)))

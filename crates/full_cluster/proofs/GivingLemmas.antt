-- What is given along the half-edges at a vertex is what the model gives.
use Rattle.std.proofs.Common.{◌≡◌, ◌≢◌, ℕ, ◌<◌, ◌==◌, ◌&&◌, ◌||◌, Bool, true, false, None, Some, unwrap_or, if◌then◌else◌, List, [], ◌∷◌, ◌++◌, length, map, slice_index_or, refl, sym, ◌∙◌, ap, subst, ⊎_elim, inl, inr, eq-eqb, ne_eqb, eqb-true, true≢false, suc, arith}
use Rattle.std.specs.List.{AllByRecursion, list_any}
use Rattle.std.proofs.lemmas.Bool.{and_from, and_parts, cases_Bool, cases_eq, or_cases, or_left, or_right}
use Rattle.std.proofs.lemmas.List.{get_or_default}
use Rattle.std.proofs.lemmas.List.Folds.{list_any-append}
use Rattle.graph_core.specs.Colourings.{joins}
use Rattle.graph_core.specs.DataGraph.{DataEdge}
use Rattle.graph_core.specs.declared.halves.Half.{Half}
use Rattle.graph_core.specs.HalfRows.{data_half}
use Rattle.graph_core.specs.Halves.{DataHalf, halves_of}
use Rattle.graph_core.proofs.HalvesLaws.{IsHalfAt, half_into, half_out, halves_are, has_half_into, has_half_out, none_passes, some_passes}
use Rattle.update_api.specs.declared.woken.Woken.{Woken}
use Rattle.seq_run.specs.Inner.Waking.{is_woken_along}
use Rattle.seq_run.specs.States.{GraphState, is_woken}
use Rattle.cluster_laws.specs.cluster_core.Effects.{is_end}
use Rattle.cluster_laws.specs.cluster_core.Settings.{IsSetting, Setting, is_in_scope, is_near, nth_edge}
use Rattle.cluster_laws.proofs.cluster_core.Nearness.{scoped_near}
use Rattle.cluster_laws.proofs.cluster_numbers.EdgeEnds.{IsBetween, between_joined, ends_near, half_between}
use Rattle.full_scope.specs.FullStates.{after_full, full_wakes}
use Rattle.full_scope.specs.FullUpdates.{FullUpdate}
use Rattle.full_laws.specs.FullEffects.{gift_for}
use Rattle.full_laws.specs.Items.{AVertex, AnEdge, is_written, keeps}
use Rattle.full_laws.proofs.FullMaking.{end_is}
use Rattle.full_cluster.specs.declared.giving.FullGift.{FullGift}
use Rattle.full_cluster.specs.Given.{IsGift, edge_after, is_listed, vertex_after}
use Rattle.full_cluster.specs.Inner.Giving.{IsAdded, IsGivenAlong, leads_to_own, shares_edge}
use Rattle.full_cluster.specs.Inner.Rows.{wakes_own}
use Rattle.full_cluster.proofs.FinishLemmas.{own_woken}

-- ---- one half more

pub none_more : (a : Bool) → (a || false) ≡ a
none_more true = refl
none_more false = refl

pub or_turned : (a b : Bool) → (a || b) ≡ (b || a)
or_turned true true = refl
or_turned true false = refl
or_turned false true = refl
or_turned false false = refl

-- the tests over the halves so far and one more, where that one leads to the machine or not
one_more : (test : Half → Bool) (halves : List Half) (h : Half) → list_any test (halves ++ h ∷ []) ≡ (list_any test halves || test h)
one_more test halves h = list_any-append test halves (h ∷ []) ∙ ap (λ b. list_any test halves || b) (none_more (test h))

no_more : (own before test : Bool) → own ≡ false → (before || (own && test)) ≡ before
no_more true before test not_own = absurd (true≢false not_own)
no_more false before test not_own = none_more before

-- the number that is written last, where that is the number of the place
last : (own before : Bool) (x y n m here : ℕ) → own ≡ true → (x ≡ y → n ≡ m) →
    (if x == y then n else (if before then m else here)) ≡ (if before || (own && x == y) then m else here)
last false before x y n m here is_own same = absurd (true≢false (sym is_own))
last true before x y n m here is_own same = ⊎_elim
    (λ (at : x ≡ y). rw (eq-eqb x y at) (same at ∙ picked before))
    (λ (off : x ≢ y). rw (ne_eqb x y off) (ap (λ b. if b then m else here) (sym (none_more before))))
    (cases_eq x y)
  where
    picked : (b : Bool) → m ≡ (if b || true then m else here)
    picked true = refl
    picked false = refl

last_woken : (own along before : Bool) (at : Bool) → own ≡ true → ((along && at) || before) ≡ (before || ((own && along) && at))
last_woken false along before at is_own = absurd (true≢false (sym is_own))
last_woken true along before at is_own = or_turned (along && at) before

module _ (owner : ℕ → ℕ) (q : ℕ) (woken : Woken) (s : GraphState) where
  pub given_none : (gift : FullGift) → gift.numbers.items ≡ [] → gift.edges.items ≡ [] → gift.wakes.items ≡ [] → IsGivenAlong owner q woken s [] gift
  given_none gift numbers edges wakes =
      record {
        vertices = λ x here. ap (λ pairs. vertex_after pairs x here) numbers;
        edges = λ e here. ap (λ pairs. edge_after pairs e here) edges;
        wakes = λ u. ap (λ list. is_listed list u) wakes;
      }

  -- the next half leads to a vertex of the machine
  pub given_more : (halves : List Half) (h : Half) (old new : FullGift) → (owner h.other.0 == q) ≡ true → IsGivenAlong owner q woken s halves old →
      IsAdded s h (is_woken_along woken h.out) old new → IsGivenAlong owner q woken s (halves ++ h ∷ []) new
  given_more halves h old new is_own is added =
      record {
        vertices = λ x here.
            added.vertices x here
            ∙ ap (λ n. if h.other.0 == x then s.vertex h.other.0 else n) (is.vertices x here)
            ∙ last (owner h.other.0 == q) (leads_to_own owner q halves x) h.other.0 x (s.vertex h.other.0) (s.vertex x) here is_own (ap s.vertex)
            ∙ ap (λ b. if b then s.vertex x else here) (sym (one_more (λ (k : Half). owner k.other.0 == q && k.other.0 == x) halves h));
        edges = λ e here.
            added.edges e here
            ∙ ap (λ n. if h.edge.0 == e then s.edge h.edge.0 else n) (is.edges e here)
            ∙ last (owner h.other.0 == q) (shares_edge owner q halves e) h.edge.0 e (s.edge h.edge.0) (s.edge e) here is_own (ap s.edge)
            ∙ ap (λ b. if b then s.edge e else here) (sym (one_more (λ (k : Half). owner k.other.0 == q && k.edge.0 == e) halves h));
        wakes = λ u.
            added.wakes u
            ∙ ap (λ b. (is_woken_along woken h.out && h.other.0 == u) || b) (is.wakes u)
            ∙ last_woken (owner h.other.0 == q) (is_woken_along woken h.out) (wakes_own owner q woken halves u) (h.other.0 == u) is_own
            ∙ sym (one_more (λ (k : Half). (owner k.other.0 == q && is_woken_along woken k.out) && k.other.0 == u) halves h);
      }

  -- the next half leads elsewhere
  pub given_same : (halves : List Half) (h : Half) (gift : FullGift) → (owner h.other.0 == q) ≡ false → IsGivenAlong owner q woken s halves gift → IsGivenAlong owner q woken s (halves ++ h ∷ []) gift
  given_same halves h gift not_own is =
      record {
        vertices = λ x here.
            is.vertices x here
            ∙ ap (λ b. if b then s.vertex x else here)
            (sym (one_more (λ (k : Half). owner k.other.0 == q && k.other.0 == x) halves h ∙ no_more (owner h.other.0 == q) (leads_to_own owner q halves x) (h.other.0 == x) not_own));
        edges = λ e here.
            is.edges e here
            ∙ ap (λ b. if b then s.edge e else here)
            (sym (one_more (λ (k : Half). owner k.other.0 == q && k.edge.0 == e) halves h ∙ no_more (owner h.other.0 == q) (shares_edge owner q halves e) (h.edge.0 == e) not_own));
        wakes = λ u.
            is.wakes u
            ∙ sym (one_more (λ (k : Half). (owner k.other.0 == q && is_woken_along woken k.out) && k.other.0 == u) halves h
            ∙ ap (λ b. wakes_own owner q woken halves u || b) (and_none (owner h.other.0 == q) (is_woken_along woken h.out) (h.other.0 == u) not_own)
            ∙ none_more (wakes_own owner q woken halves u));
      }
    where
      and_none : (own along at : Bool) → own ≡ false → ((own && along) && at) ≡ false
      and_none true along at not_own = absurd (true≢false not_own)
      and_none false along at not_own = refl

-- ---- the halves at a vertex, by the setting

-- the place of what passes the test
place_of : {X : Type 0} (test : X → Bool) (xs : List X) (d : X) → list_any test xs ≡ true → (k : ℕ) × (k < length xs) × (test (slice_index_or xs k d) ≡ true)
place_of test [] d some = absurd (true≢false (sym some))
place_of test (x ∷ xs) d some = ⊎_elim
    (λ (here : test x ≡ true). (0, omega arith, here))
    (λ (later : list_any test xs ≡ true). let found = place_of test xs d later in (suc found.0, omega arith, found.2))
    (or_cases (test x) (list_any test xs) some)

any_data : (test : DataHalf → Bool) (halves : List Half) → list_any (λ (h : Half). test (data_half h)) halves ≡ list_any test (map data_half halves)
any_data test [] = refl
any_data test (h ∷ halves) = ap (λ b. test (data_half h) || b) (any_data test halves)

same_test : (a b : Bool) → (a ≡ true → b ≡ true) → (b ≡ true → a ≡ true) → a ≡ b
same_test true b there back = sym (there refl)
same_test false true there back = back refl
same_test false false there back = refl

given_or : (a b : Bool) (n m here : ℕ) → a ≡ b → (b ≡ true → n ≡ m) → (if a then n else here) ≡ unwrap_or (if b then Some m else None) here
given_or true true n m here same is = is refl
given_or false false n m here same is = refl
given_or true false n m here same is = absurd (true≢false same)
given_or false true n m here same is = absurd (true≢false (sym same))

module _ (st : Setting) (is : IsSetting st) (v q : ℕ) (away : st.owner v ≢ q) where
  -- an edge of v has a half there
  has_half : (k u : ℕ) (P : DataHalf → Type 0) → k < length st.graph.edges → IsBetween (nth_edge st k) v u → AllByRecursion P (halves_of st.graph v) → (h : DataHalf) × P h × (h.edge ≡ k) × (h.other ≡ u)
  has_half k u P within between all =
      let e : DataEdge = nth_edge st k in
      let at : slice_index_or st.graph.edges k e ≡ e = sym (get_or_default st.graph.edges k (record { from = 0; to = 0; weight = 0 }) e within) in
      ⊎_elim
      (λ (w : (e.from ≡ v) × (e.to ≡ u)).
      (half_out st.graph.directed k e, has_half_out st.graph is.graph k e P within at (subst (λ x. AllByRecursion P (halves_of st.graph x)) (sym w.0) all), refl, w.1))
      (λ (w : (e.to ≡ v) × (e.from ≡ u)).
      (half_into st.graph.directed k e, has_half_into st.graph is.graph k e P within at (subst (λ x. AllByRecursion P (halves_of st.graph x)) (sym w.0) all), refl, w.1))
      between

  -- where an edge leads from v to a vertex of q, some half at v passes a test that all its halves to such a vertex pass
  passes : (test : DataHalf → Bool) (k u : ℕ) → k < length st.graph.edges → IsBetween (nth_edge st k) v u → ((h : DataHalf) → h.edge ≡ k → h.other ≡ u → test h ≡ true) → list_any test (halves_of st.graph v) ≡ true
  passes test k u within between all = ⊎_elim
      (λ (some : list_any test (halves_of st.graph v) ≡ true). some)
      (λ (none : list_any test (halves_of st.graph v) ≡ false).
      let found = has_half k u (λ h. test h ≡ false) within between (none_passes test (halves_of st.graph v) none) in
      absurd (true≢false (sym (all found.0 found.2 found.3) ∙ found.1)))
      (cases_Bool (list_any test (halves_of st.graph v)))

  -- the two ends of an edge of v, where v is not the machine's: the other one is, if the machine keeps the edge
  other_end : (e : DataEdge) → is_end e v ≡ true → (st.owner e.from == q || st.owner e.to == q) ≡ true → (u : ℕ) × IsBetween e v u × (st.owner u ≡ q)
  other_end e at keep = ⊎_elim
      (λ (from : (e.from == v) ≡ true). let is_v = eqb-true e.from v from in
      (e.to, inl (is_v, refl), kept_to e.from e.to is_v keep))
      (λ (to : (e.to == v) ≡ true). let is_v = eqb-true e.to v to in
      (e.from, inr (is_v, refl), kept_from e.from e.to is_v keep))
      (or_cases (e.from == v) (e.to == v) at)
    where
      kept_to : (x y : ℕ) → x ≡ v → (st.owner x == q || st.owner y == q) ≡ true → st.owner y ≡ q
      kept_to x y is_v keep = ⊎_elim
          (λ (mine : (st.owner x == q) ≡ true). absurd (away (sym (ap st.owner is_v) ∙ eqb-true (st.owner x) q mine)))
          (λ (other : (st.owner y == q) ≡ true). eqb-true (st.owner y) q other)
          (or_cases (st.owner x == q) (st.owner y == q) keep)

      kept_from : (x y : ℕ) → y ≡ v → (st.owner x == q || st.owner y == q) ≡ true → st.owner x ≡ q
      kept_from x y is_v keep = ⊎_elim
          (λ (other : (st.owner x == q) ≡ true). eqb-true (st.owner x) q other)
          (λ (mine : (st.owner y == q) ≡ true). absurd (away (sym (ap st.owner is_v) ∙ eqb-true (st.owner y) q mine)))
          (or_cases (st.owner x == q) (st.owner y == q) keep)

  both_test : (h : DataHalf) (u a b : ℕ) → h.other ≡ u → st.owner u ≡ q → a ≡ b → (st.owner h.other == q && a == b) ≡ true
  both_test h u a b at owns same = and_from (st.owner h.other == q) (a == b) (eq-eqb (st.owner h.other) q (ap st.owner at ∙ owns)) (eq-eqb a b same)

  vertices_there : (x : ℕ) → list_any (λ (h : DataHalf). st.owner h.other == q && h.other == x) (halves_of st.graph v) ≡ (keeps st q (AVertex x) && is_written st v (AVertex x))
  vertices_there x =
      let test : DataHalf → Bool = λ h. st.owner h.other == q && h.other == x in
      same_test (list_any test (halves_of st.graph v)) (st.owner x == q && is_in_scope st v x)
      (λ some.
      let found = some_passes (IsHalfAt st.graph is.graph v) test (halves_of st.graph v) some (halves_are st.graph is.graph v) in
      let both = and_parts (st.owner found.0.other == q) (found.0.other == x) found.2 in
      let at = eqb-true found.0.other x both.1 in
      let between = half_between st is v found.0 found.1 in
      and_from (st.owner x == q) (is_in_scope st v x) (subst (λ y. (st.owner y == q) ≡ true) at both.0)
      (subst (λ y. is_in_scope st v y ≡ true) at (scoped_near st is v found.0.other (ends_near st is found.0.edge v found.0.other between.0 between.1))))
      (λ both.
      let parts = and_parts (st.owner x == q) (is_in_scope st v x) both in
      let owns = eqb-true (st.owner x) q parts.0 in
      ⊎_elim
      (λ (own : (x == v) ≡ true). absurd (away (sym (ap st.owner (eqb-true x v own)) ∙ owns)))
      (λ (near : is_near st v x ≡ true).
      let found = place_of (joins v x) st.graph.edges (record { from = 0; to = 0; weight = 0 }) near in
      passes test found.0 x found.1 (between_joined (nth_edge st found.0) v x found.2) (λ h number at. both_test h x h.other x at owns at))
      (or_cases (x == v) (is_near st v x) parts.1))

  edges_there : (e : ℕ) → e < length st.graph.edges → list_any (λ (h : DataHalf). st.owner h.other == q && h.edge == e) (halves_of st.graph v) ≡ (keeps st q (AnEdge e) && is_written st v (AnEdge e))
  edges_there e inside =
      let test : DataHalf → Bool = λ h. st.owner h.other == q && h.edge == e in
      let edge : DataEdge = nth_edge st e in
      same_test (list_any test (halves_of st.graph v)) ((st.owner edge.from == q || st.owner edge.to == q) && is_end edge v)
      (λ some.
      let found = some_passes (IsHalfAt st.graph is.graph v) test (halves_of st.graph v) some (halves_are st.graph is.graph v) in
      let both = and_parts (st.owner found.0.other == q) (found.0.edge == e) found.2 in
      let at = eqb-true found.0.edge e both.1 in
      let between : IsBetween edge v found.0.other = subst (λ k. IsBetween (nth_edge st k) v found.0.other) at (half_between st is v found.0 found.1).1 in
      and_from (st.owner edge.from == q || st.owner edge.to == q) (is_end edge v) (kept edge found.0.other between both.0) (end_is edge v found.0.other between))
      (λ both.
      let parts = and_parts (st.owner edge.from == q || st.owner edge.to == q) (is_end edge v) both in
      let other = other_end edge parts.1 parts.0 in
      passes test e other.0 inside other.1 (λ h number at. both_test h other.0 h.edge e at other.2 number))
    where
      kept : (e : DataEdge) (u : ℕ) → IsBetween e v u → (st.owner u == q) ≡ true → (st.owner e.from == q || st.owner e.to == q) ≡ true
      kept e u between owns = ⊎_elim
          (λ (w : (e.from ≡ v) × (e.to ≡ u)). or_right (st.owner e.from == q) (st.owner e.to == q) (subst (λ y. (st.owner y == q) ≡ true) (sym w.1) owns))
          (λ (w : (e.to ≡ v) × (e.from ≡ u)). or_left (st.owner e.from == q) (st.owner e.to == q) (subst (λ y. (st.owner y == q) ≡ true) (sym w.1) owns))
          between

  -- what was gathered along the halves is what the model gives
  pub gift_is : (p : FullUpdate) (lent : GraphState) (owner : ℕ → ℕ) (woken : Woken) (halves : List Half) (gift : FullGift) → st.owner ≡ owner → map data_half halves ≡ halves_of st.graph v →
      ((u : ℕ) → full_wakes st.graph p lent v u ≡ is_woken woken (halves_of st.graph v) u) → IsGivenAlong owner q woken (after_full st.graph p lent v) halves gift → IsGift st gift (gift_for st p lent v q)
  gift_is p lent owner woken halves gift owners same wakes along =
      record {
        vertices = λ x here inside.
            let lead : leads_to_own owner q halves x ≡ (keeps st q (AVertex x) && is_written st v (AVertex x)) =
            (λ k. leads_to_own (sym owners k) q halves x) ∙ any_data (λ (h : DataHalf). st.owner h.other == q && h.other == x) halves ∙ ap (list_any (λ (h : DataHalf). st.owner h.other == q && h.other == x)) same ∙ vertices_there x in
            along.vertices x here
            ∙ given_or (leads_to_own owner q halves x) (keeps st q (AVertex x) && is_written st v (AVertex x)) ((after_full st.graph p lent v).vertex x) ((after_full st.graph p lent v).vertex x) here lead
            (λ both. refl);
        edges = λ e here inside.
            let share : shares_edge owner q halves e ≡ (keeps st q (AnEdge e) && is_written st v (AnEdge e)) =
            (λ k. shares_edge (sym owners k) q halves e) ∙ any_data (λ (h : DataHalf). st.owner h.other == q && h.edge == e) halves ∙ ap (list_any (λ (h : DataHalf). st.owner h.other == q && h.edge == e)) same ∙ edges_there e inside in
            along.edges e here
            ∙ given_or (shares_edge owner q halves e) (keeps st q (AnEdge e) && is_written st v (AnEdge e)) ((after_full st.graph p lent v).edge e) ((after_full st.graph p lent v).edge e) here share
            (λ both. refl);
        wakes = λ u inside.
            along.wakes u ∙ (λ k. wakes_own (sym owners k) q woken halves u) ∙ own_woken st.owner q woken u halves
            ∙ ap (λ b. st.owner u == q && b) (ap (λ hs. is_woken woken hs u) same ∙ sym (wakes u));
      }

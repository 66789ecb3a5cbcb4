-- Which vertices are near, and which machines take part in a scope.
use Rattle.std.proofs.Common.{◌≡◌, ◌≢◌, ◌⊎◌, ℕ, suc, ◌+◌, ◌-◌, ◌<◌, ◌≤◌, ◌==◌, ◌&&◌, ◌||◌, Bool, true, false, Option, None, Some, List, [], ◌∷◌, refl, sym, ◌∙◌, subst, ⊎_elim, inl, inr, All, arith}
use Rattle.std.proofs.lemmas.Bool.{eq-eqb, eqb-true, and_parts, and_from, or_cases, or_left, or_right, both_ways, false_from_ne_true}
use Rattle.std.proofs.lemmas.List.Elements.{All-head, All-tail}
use Rattle.std.specs.List.{list_any}
use Rattle.graph_core.specs.DataGraph.{DataEdge, size, IsEdge}
use Rattle.graph_core.specs.Colourings.{joins}
use Rattle.cluster_laws.specs.cluster_core.Ranges.{all_passing}
use Rattle.cluster_laws.specs.cluster_core.Settings.{Setting, IsSetting, is_near, is_in_scope}
use Rattle.cluster_laws.specs.cluster_core.Scopes.{own_from, is_found, takes_part, machines_from}
use Rattle.cluster_laws.proofs.cluster_core.Basics.{same_truth, first_passing-some, first_passing-none, all_passing-cons, all_passing-nil}

or_turned : (x y : Bool) → (x || y) ≡ true → (y || x) ≡ true
or_turned x y one = ⊎_elim (λ (is : x ≡ true). or_right y x is) (λ (is : y ≡ true). or_left y x is) (or_cases x y one)

pub joins_turned : (a b : ℕ) (e : DataEdge) → joins a b e ≡ joins b a e
joins_turned a b e =
    same_truth (joins a b e) (joins b a e)
    (or_turned (e.from == a && e.to == b) (e.from == b && e.to == a))
    (or_turned (e.from == b && e.to == a) (e.from == a && e.to == b))

-- an edge that joins two vertices joins them the other way round too
any_turned : (a b : ℕ) (edges : List DataEdge) → list_any (joins a b) edges ≡ list_any (joins b a) edges
any_turned a b [] = refl
any_turned a b (e ∷ edges) =
    let here = joins_turned a b e in
    let rest = any_turned a b edges in
    λ i. here i || rest i

pub near_turned : (st : Setting) (v u : ℕ) → is_near st v u ≡ is_near st u v
near_turned st v u = any_turned v u st.graph.edges

any_edge : (P : DataEdge → Type 0) (test : DataEdge → Bool) (edges : List DataEdge) → All P edges → list_any test edges ≡ true → (e : DataEdge) × P e × (test e ≡ true)
any_edge P test [] all one = absurd (both_ways false refl one)
any_edge P test (e ∷ edges) all one =
    ⊎_elim
    (λ (here : test e ≡ true). (e, All-head P e edges all, here))
    (λ (rest : list_any test edges ≡ true). any_edge P test edges (All-tail P e edges all) rest)
    (or_cases (test e) (list_any test edges) one)

-- the ends of an edge that joins two vertices
joined_ends : (a b : ℕ) (e : DataEdge) → joins a b e ≡ true → ((e.from ≡ a) × (e.to ≡ b)) ⊎ ((e.from ≡ b) × (e.to ≡ a))
joined_ends a b e is =
    ⊎_elim
    (λ (one : (e.from == a && e.to == b) ≡ true).
    let h = and_parts (e.from == a) (e.to == b) one in
    inl (eqb-true e.from a h.0, eqb-true e.to b h.1))
    (λ (one : (e.from == b && e.to == a) ≡ true).
    let h = and_parts (e.from == b) (e.to == a) one in
    inr (eqb-true e.from b h.0, eqb-true e.to a h.1))
    (or_cases (e.from == a && e.to == b) (e.from == b && e.to == a) is)

-- ---- the first lock at a machine, and the next machine

pub is_own : (st : Setting) (v a k x : ℕ) → own_from st v a k ≡ Some x → (k ≤ x) × (x < size st.graph) × (is_in_scope st v x ≡ true) × (st.owner x ≡ a) × ((y : ℕ) → k ≤ y → y < x → is_in_scope st v y ≡ true → st.owner y ≢ a)
is_own st v a k x is =
    let test : ℕ → Bool = λ y. is_in_scope st v y && st.owner y == a in
    let h = first_passing-some test k (size st.graph - k) x is in
    let both = and_parts (is_in_scope st v x) (st.owner x == a) h.2 in (
      h.0,
      omega (arith, h.0, h.1),
      both.0,
      eqb-true (st.owner x) a both.1,
      λ y low high scoped owned. both_ways (test y) (h.3 y low high) (and_from (is_in_scope st v y) (st.owner y == a) scoped (eq-eqb (st.owner y) a owned)),
    )

pub none_own : (st : Setting) (v a k : ℕ) → own_from st v a k ≡ None → (y : ℕ) → k ≤ y → y < size st.graph → is_in_scope st v y ≡ true → st.owner y ≢ a
none_own st v a k is y low high scoped owned =
    let test : ℕ → Bool = λ x. is_in_scope st v x && st.owner x == a in
    both_ways (test y) (first_passing-none test k (size st.graph - k) is y low (omega arith)) (and_from (is_in_scope st v y) (st.owner y == a) scoped (eq-eqb (st.owner y) a owned))

pub next_machine : (st : Setting) (v a b : ℕ) (rest : List ℕ) → machines_from st v a ≡ b ∷ rest → (a ≤ b) × (takes_part st v b ≡ true) × ((c : ℕ) → a ≤ c → c < b → takes_part st v c ≡ false) × (rest ≡ machines_from st v (suc b))
next_machine st v a b rest is =
    let h = all_passing-cons (takes_part st v) a (st.machines - a) b rest is in
    let n : a + (st.machines - a) - suc b ≡ st.machines - suc b = omega (arith, h.0, h.1) in
    (h.0, h.2, h.3, subst (λ (m : ℕ). rest ≡ all_passing (takes_part st v) (suc b) m) n h.4)

pub no_machine : (st : Setting) (v a : ℕ) → machines_from st v a ≡ [] → (c : ℕ) → a ≤ c → c < st.machines → takes_part st v c ≡ false
no_machine st v a is c low high = all_passing-nil (takes_part st v) a (st.machines - a) is c low (omega arith)

module _ (st : Setting) (is : IsSetting st) where
  pub near_edge : (v u : ℕ) → is_near st v u ≡ true → (e : DataEdge) × IsEdge (size st.graph) st.graph.directed e × (joins v u e ≡ true)
  near_edge v u near = any_edge (IsEdge (size st.graph) st.graph.directed) (joins v u) st.graph.edges is.graph.edges near

  pub near_within : (v u : ℕ) → is_near st v u ≡ true → (u < size st.graph) × (v ≢ u)
  near_within v u near =
      let h = near_edge v u near in
      let e : DataEdge = h.0 in
      let edge : IsEdge (size st.graph) st.graph.directed e = h.1 in
      ⊎_elim
      (λ (ends : (e.from ≡ v) × (e.to ≡ u)). (subst (λ (x : ℕ). x < size st.graph) ends.1 edge.to, λ same. edge.apart (ends.0 ∙ same ∙ sym ends.1)))
      (λ (ends : (e.from ≡ u) × (e.to ≡ v)). (subst (λ (x : ℕ). x < size st.graph) ends.0 edge.from, λ same. edge.apart (ends.0 ∙ sym same ∙ sym ends.1)))
      (joined_ends v u e h.2)

  -- no vertex is near to itself
  pub near_other : (v : ℕ) → is_near st v v ≡ false
  near_other v = false_from_ne_true (is_near st v v) (λ near. (near_within v v near).1 refl)

  pub scope_within : (v x : ℕ) → v < size st.graph → is_in_scope st v x ≡ true → x < size st.graph
  scope_within v x within scoped =
      ⊎_elim
      (λ (same : (x == v) ≡ true). subst (λ (y : ℕ). y < size st.graph) (sym (eqb-true x v same)) within)
      (λ (near : is_near st v x ≡ true). (near_within v x near).0)
      (or_cases (x == v) (is_near st v x) scoped)

  -- the owner of a vertex of the scope takes part in it
  pub owner_takes_part : (v x : ℕ) → v < size st.graph → is_in_scope st v x ≡ true → takes_part st v (st.owner x) ≡ true
  owner_takes_part v x within scoped = found (own_from st v (st.owner x) 0) refl
    where
      found : (first : Option ℕ) → own_from st v (st.owner x) 0 ≡ first → is_found first ≡ true
      found (Some y) eq = refl
      found None eq = absurd (none_own st v (st.owner x) 0 eq x (omega arith) (scope_within v x within scoped) scoped refl)

  -- who takes part is one of the machines
  pub part_low : (v a : ℕ) → takes_part st v a ≡ true → a < st.machines
  part_low v a part = low (own_from st v a 0) refl part
    where
      low : (first : Option ℕ) → own_from st v a 0 ≡ first → is_found first ≡ true → a < st.machines
      low (Some y) eq found =
          let h = is_own st v a 0 y eq in
          subst (λ (b : ℕ). b < st.machines) h.3 (is.owner y h.1)
      low None eq found = absurd (both_ways false refl found)

  pub scoped_itself : (v : ℕ) → is_in_scope st v v ≡ true
  scoped_itself v = or_left (v == v) (is_near st v v) (eq-eqb v v refl)

  pub scoped_near : (v u : ℕ) → is_near st v u ≡ true → is_in_scope st v u ≡ true
  scoped_near v u near = or_right (u == v) (is_near st v u) near

-- Which halves a vertex has, and how walks go on.
use Rattle.std.proofs.Common.{◌≡◌, ◌≢◌, ◌⊎◌, ℕ, zero, suc, ◌+◌, ◌<◌, Bool, true, false, not, List, [], ◌∷◌, ◌++◌, length, slice_index_or, Contains, refl, sym, ◌∙◌, ap, subst, add-zero, zero-add, inl, inr, ⊎_elim, true≢false, arith, eq-eqb, ne_eqb}
use Rattle.std.specs.List.{AllByRecursion, list_any}
use Rattle.std.proofs.lemmas.Bool.{cases_Bool, cases_eq, not-true}
use Rattle.graph_core.specs.DataGraph.{DataEdge, DataGraph, size, IsEdge, IsDataGraph}
use Rattle.graph_core.specs.Walks.{Leads, IsWalk}
use Rattle.graph_core.specs.Halves.{DataHalf, half_at, halves_from, halves_of}

-- what holds of each element, over one list after another, by a rule, and by a test that no element passes
pub each-append : {X : Type 0} (P : X → Type 0) (xs ys : List X) → AllByRecursion P xs → AllByRecursion P ys → AllByRecursion P (xs ++ ys)
each-append P [] ys a b = b
each-append P (x ∷ xs) ys a b = (a.0, each-append P xs ys a.1 b)

pub each-front : {X : Type 0} (P : X → Type 0) (xs ys : List X) → AllByRecursion P (xs ++ ys) → AllByRecursion P xs
each-front P [] ys a = tt
each-front P (x ∷ xs) ys a = (a.0, each-front P xs ys a.1)

pub each-back : {X : Type 0} (P : X → Type 0) (xs ys : List X) → AllByRecursion P (xs ++ ys) → AllByRecursion P ys
each-back P [] ys a = a
each-back P (x ∷ xs) ys a = each-back P xs ys a.1

pub each-weaker : {X : Type 0} (P Q : X → Type 0) → ((x : X) → P x → Q x) → (xs : List X) → AllByRecursion P xs → AllByRecursion Q xs
each-weaker P Q by [] a = tt
each-weaker P Q by (x ∷ xs) a = (by x a.0, each-weaker P Q by xs a.1)

pub each-both : {X : Type 0} (P Q R : X → Type 0) → ((x : X) → P x → Q x → R x) → (xs : List X) → AllByRecursion P xs → AllByRecursion Q xs → AllByRecursion R xs
each-both P Q R by [] a b = tt
each-both P Q R by (x ∷ xs) a b = (by x a.0 b.0, each-both P Q R by xs a.1 b.1)

pub each-any : {X : Type 0} (P : X → Type 0) → ((x : X) → P x) → (xs : List X) → AllByRecursion P xs
each-any P by [] = tt
each-any P by (x ∷ xs) = (by x, each-any P by xs)

pub none_passes : {X : Type 0} (test : X → Bool) (xs : List X) → list_any test xs ≡ false → AllByRecursion (λ x. test x ≡ false) xs
none_passes test [] none = tt
none_passes test (x ∷ xs) none = ⊎_elim
    (λ (is : test x ≡ true). absurd (true≢false (rw is at none)))
    (λ (is_not : test x ≡ false). (is_not, none_passes test xs (rw is_not at none)))
    (cases_Bool (test x))

pub some_passes : {X : Type 0} (P : X → Type 0) (test : X → Bool) (xs : List X) → list_any test xs ≡ true → AllByRecursion P xs → (x : X) × P x × (test x ≡ true)
some_passes P test [] some all = absurd (true≢false (sym some))
some_passes P test (x ∷ xs) some all = ⊎_elim
    (λ (is : test x ≡ true). (x, all.0, is))
    (λ (is_not : test x ≡ false). some_passes P test xs (rw is_not at some) all.1)
    (cases_Bool (test x))

-- the half of edge k at its `from`, and at its `to`
abbrev pub half_out : Bool → ℕ → DataEdge → DataHalf
half_out directed k e = record { edge = k; other = e.to; weight = e.weight; out = true; into = not directed }

abbrev pub half_into : Bool → ℕ → DataEdge → DataHalf
half_into directed k e = record { edge = k; other = e.from; weight = e.weight; out = not directed; into = true }

pub half_at-from : (directed : Bool) (k : ℕ) (e : DataEdge) → half_at directed e.from k e ≡ half_out directed k e ∷ []
half_at-from directed k e = rw (eq-eqb e.from e.from refl)

pub half_at-to : (directed : Bool) (k : ℕ) (e : DataEdge) → e.from ≢ e.to → half_at directed e.to k e ≡ half_into directed k e ∷ []
half_at-to directed k e apart = rw (ne_eqb e.from e.to apart, eq-eqb e.to e.to refl)

-- which of its two halves an edge has at v
abbrev pub IsEndAt : Bool → ℕ → DataEdge → DataHalf → Type 0
IsEndAt directed v e h =
    ((e.from ≡ v) × (h ≡ half_out directed h.edge e)) ⊎ ((e.to ≡ v) × (h ≡ half_into directed h.edge e))

-- the half at v of one of these edges, which are numbered from k on
pub record IsHalfAmong (directed : Bool) (v k : ℕ) (edges : List DataEdge) (h : DataHalf) : Type 0 where
  pub edge : DataEdge
  pub place : ℕ
  pub within : place < length edges
  pub at : slice_index_or edges place edge ≡ edge
  pub number : h.edge ≡ k + place
  pub end : IsEndAt directed v edge h

half_at-is : (directed : Bool) (v k : ℕ) (e : DataEdge) (edges : List DataEdge) → AllByRecursion (IsHalfAmong directed v k (e ∷ edges)) (half_at directed v k e)
half_at-is directed v k e edges = ⊎_elim
    (λ (from : e.from ≡ v). rw (eq-eqb e.from v from)
    (record { edge = e; place = 0; within = omega arith; at = refl; number = omega arith; end = inl (from, refl) }, tt))
    (λ (not_from : e.from ≡ v → ⊥). rw (ne_eqb e.from v not_from) (⊎_elim
    (λ (to : e.to ≡ v). rw (eq-eqb e.to v to)
    (record { edge = e; place = 0; within = omega arith; at = refl; number = omega arith; end = inr (to, refl) }, tt))
    (λ (not_to : e.to ≡ v → ⊥). rw (ne_eqb e.to v not_to) tt)
    (cases_eq e.to v)))
    (cases_eq e.from v)

halves_from-are : (directed : Bool) (v k : ℕ) (edges : List DataEdge) → AllByRecursion (IsHalfAmong directed v k edges) (halves_from directed v k edges)
halves_from-are directed v k [] = tt
halves_from-are directed v k (e ∷ edges) =
    each-append (IsHalfAmong directed v k (e ∷ edges)) (half_at directed v k e) (halves_from directed v (suc k) edges) (half_at-is directed v k e edges)
    (each-weaker (IsHalfAmong directed v (suc k) edges) (IsHalfAmong directed v k (e ∷ edges))
    (λ h is. record { edge = is.edge; place = suc is.place; within = let w = is.within in omega arith; at = is.at; number = let n = is.number in omega arith; end = is.end })
    (halves_from directed v (suc k) edges) (halves_from-are directed v (suc k) edges))

-- what holds of all halves at v holds of the half that an edge has there
halves_from-has : (directed : Bool) (v k : ℕ) (edges : List DataEdge) (place : ℕ) (e : DataEdge) (h : DataHalf) (P : DataHalf → Type 0) → place < length edges → slice_index_or edges place e ≡ e → half_at directed v (k + place) e ≡ h ∷ [] → AllByRecursion P (halves_from directed v k edges) → P h
halves_from-has directed v k [] place e h P within at is all = absurd (omega arith)
halves_from-has directed v k (f ∷ edges) zero e h P within at is all =
    let same : half_at directed v k f ≡ half_at directed v (k + 0) e = rw (add-zero, at) refl in
    (subst (AllByRecursion P) (same ∙ is) (each-front P (half_at directed v k f) (halves_from directed v (suc k) edges) all)).0
halves_from-has directed v k (f ∷ edges) (suc place) e h P within at is all =
    let next : suc k + place ≡ k + suc place = omega arith in
    halves_from-has directed v (suc k) edges place e h P (omega arith) at (rw next is) (each-back P (half_at directed v k f) (halves_from directed v (suc k) edges) all)

-- the same edge, as its other end sees it
abbrev pub twin : ℕ → DataHalf → DataHalf
twin v h = record { edge = h.edge; other = v; weight = h.weight; out = h.into; into = h.out }

-- one more edge at the end of a walk
pub IsWalk-push : (edges : List DataEdge) (directed : Bool) (a b c : ℕ) (path : List DataEdge) (e : DataEdge) → IsWalk edges directed a b path → Contains edges e → Leads directed e b c → IsWalk edges directed a c (path ++ e ∷ [])
IsWalk-push edges directed a b c [] e walk has leads = (c, has, subst (λ x. Leads directed e x c) (sym walk) leads, refl)
IsWalk-push edges directed a b c (f ∷ path) e walk has leads =
    (walk.0, walk.1, walk.2, IsWalk-push edges directed walk.0 b c path e walk.3 has leads)

module _ (g : DataGraph) (is : IsDataGraph g) where
  pub edge_is : (k : ℕ) (e : DataEdge) → k < length g.edges → slice_index_or g.edges k e ≡ e → IsEdge (size g) g.directed e
  edge_is k e within at = subst (IsEdge (size g) g.directed) at (is.edges k e within)

  -- h is a half at v
  abbrev pub IsHalfAt : ℕ → DataHalf → Type 0
  IsHalfAt v h = IsHalfAmong g.directed v 0 g.edges h

  pub halves_are : (v : ℕ) → AllByRecursion (IsHalfAt v) (halves_of g v)
  halves_are v = halves_from-are g.directed v 0 g.edges

  pub half_edge : (v : ℕ) (h : DataHalf) (half : IsHalfAt v h) → IsEdge (size g) g.directed half.edge
  half_edge v h half = edge_is half.place half.edge half.within half.at

  -- the other end is another vertex
  pub half_other : (v : ℕ) (h : DataHalf) → IsHalfAt v h → (h.other < size g) × (h.other ≢ v)
  half_other v h half = let edge = half_edge v h half in ⊎_elim
      (λ (w : (half.edge.from ≡ v) × (h ≡ half_out g.directed h.edge half.edge)).
      let other : h.other ≡ half.edge.to = ap (λ (x : DataHalf). x.other) w.1 in
      (rw other edge.to, λ same. edge.apart (w.0 ∙ sym same ∙ other)))
      (λ (w : (half.edge.to ≡ v) × (h ≡ half_into g.directed h.edge half.edge)).
      let other : h.other ≡ half.edge.from = ap (λ (x : DataHalf). x.other) w.1 in
      (rw other edge.from, λ same. edge.apart (sym other ∙ same ∙ sym w.0)))
      half.end

  pub half_weight : (v : ℕ) (h : DataHalf) (half : IsHalfAt v h) → h.weight ≡ half.edge.weight
  half_weight v h half = ⊎_elim
      (λ (w : (half.edge.from ≡ v) × (h ≡ half_out g.directed h.edge half.edge)). ap (λ (x : DataHalf). x.weight) w.1)
      (λ (w : (half.edge.to ≡ v) × (h ≡ half_into g.directed h.edge half.edge)). ap (λ (x : DataHalf). x.weight) w.1)
      half.end

  -- what holds of all halves at an end of an edge holds of the edge's half there
  pub has_half_out : (k : ℕ) (e : DataEdge) (P : DataHalf → Type 0) → k < length g.edges → slice_index_or g.edges k e ≡ e → AllByRecursion P (halves_of g e.from) → P (half_out g.directed k e)
  has_half_out k e P within at all =
      let here : half_at g.directed e.from (0 + k) e ≡ half_out g.directed k e ∷ [] = rw zero-add (half_at-from g.directed k e) in
      halves_from-has g.directed e.from 0 g.edges k e (half_out g.directed k e) P within at here all

  pub has_half_into : (k : ℕ) (e : DataEdge) (P : DataHalf → Type 0) → k < length g.edges → slice_index_or g.edges k e ≡ e → AllByRecursion P (halves_of g e.to) → P (half_into g.directed k e)
  has_half_into k e P within at all =
      let here : half_at g.directed e.to (0 + k) e ≡ half_into g.directed k e ∷ [] = rw zero-add (half_at-to g.directed k e (edge_is k e within at).apart) in
      halves_from-has g.directed e.to 0 g.edges k e (half_into g.directed k e) P within at here all

  -- and what holds of all halves at the other end of a half holds of its twin
  pub has_twin : (v : ℕ) (h : DataHalf) (P : DataHalf → Type 0) → IsHalfAt v h → AllByRecursion P (halves_of g h.other) → P (twin v h)
  has_twin v h P half all =
      let number : h.edge ≡ half.place = half.number ∙ zero-add half.place in ⊎_elim
      (λ (w : (half.edge.from ≡ v) × (h ≡ half_out g.directed h.edge half.edge)).
      let other : h.other ≡ half.edge.to = ap (λ (x : DataHalf). x.other) w.1 in
      let found = has_half_into half.place half.edge P half.within half.at (subst (λ x. AllByRecursion P (halves_of g x)) other all) in
      let weight : h.weight ≡ half.edge.weight = ap (λ (x : DataHalf). x.weight) w.1 in
      let out : h.out ≡ true = ap (λ (x : DataHalf). x.out) w.1 in
      let into : h.into ≡ not g.directed = ap (λ (x : DataHalf). x.into) w.1 in
      let from = w.0 in
      let same : half_into g.directed half.place half.edge ≡ twin v h = cc in
      subst P same found)
      (λ (w : (half.edge.to ≡ v) × (h ≡ half_into g.directed h.edge half.edge)).
      let other : h.other ≡ half.edge.from = ap (λ (x : DataHalf). x.other) w.1 in
      let found = has_half_out half.place half.edge P half.within half.at (subst (λ x. AllByRecursion P (halves_of g x)) other all) in
      let weight : h.weight ≡ half.edge.weight = ap (λ (x : DataHalf). x.weight) w.1 in
      let out : h.out ≡ not g.directed = ap (λ (x : DataHalf). x.out) w.1 in
      let into : h.into ≡ true = ap (λ (x : DataHalf). x.into) w.1 in
      let to = w.0 in
      let same : half_out g.directed half.place half.edge ≡ twin v h = cc in
      subst P same found)
      half.end

  -- where an edge leads from a to b, b has a half that comes from a
  pub has_half_from : (k : ℕ) (e : DataEdge) (a b : ℕ) (P : ℕ → ℕ → Type 0) → k < length g.edges → slice_index_or g.edges k e ≡ e → Leads g.directed e a b → AllByRecursion (λ h. h.into ≡ true → P h.other h.weight) (halves_of g b) → P a e.weight
  has_half_from k e a b P within at leads all = ⊎_elim
      (λ (w : (e.from ≡ a) × (e.to ≡ b)).
      subst (λ x. P x e.weight) w.0
      (has_half_into k e (λ h. h.into ≡ true → P h.other h.weight) within at (subst (λ x. AllByRecursion (λ h. h.into ≡ true → P h.other h.weight) (halves_of g x)) (sym w.1) all) refl))
      (λ (w : (g.directed ≡ false) × (e.from ≡ b) × (e.to ≡ a)).
      subst (λ x. P x e.weight) w.2
      (has_half_out k e (λ h. h.into ≡ true → P h.other h.weight) within at (subst (λ x. AllByRecursion (λ h. h.into ≡ true → P h.other h.weight) (halves_of g x)) (sym w.1) all) (ap not w.0)))
      leads

  -- the same where direction is ignored
  pub has_half_between : (k : ℕ) (e : DataEdge) (a b : ℕ) (P : ℕ → Type 0) → k < length g.edges → slice_index_or g.edges k e ≡ e → Leads false e a b → AllByRecursion (λ h. P h.other) (halves_of g b) → P a
  has_half_between k e a b P within at leads all = ⊎_elim
      (λ (w : (e.from ≡ a) × (e.to ≡ b)).
      subst P w.0 (has_half_into k e (λ h. P h.other) within at (subst (λ x. AllByRecursion (λ h. P h.other) (halves_of g x)) (sym w.1) all)))
      (λ (w : (false ≡ false) × (e.from ≡ b) × (e.to ≡ a)).
      subst P w.2 (has_half_out k e (λ h. P h.other) within at (subst (λ x. AllByRecursion (λ h. P h.other) (halves_of g x)) (sym w.1) all)))
      leads

  pub half_in_edges : (v : ℕ) (h : DataHalf) (half : IsHalfAt v h) → Contains g.edges half.edge
  half_in_edges v h half = (half.place, half.within, half.at)

  -- a half that comes in leads from its other end
  pub half_leads : (v : ℕ) (h : DataHalf) (half : IsHalfAt v h) → h.into ≡ true → Leads g.directed half.edge h.other v
  half_leads v h half into = ⊎_elim
      (λ (w : (half.edge.from ≡ v) × (h ≡ half_out g.directed h.edge half.edge)).
      let other : h.other ≡ half.edge.to = ap (λ (x : DataHalf). x.other) w.1 in
      let both : not g.directed ≡ true = sym (ap (λ (x : DataHalf). x.into) w.1) ∙ into in
      inr (not-true g.directed both, w.0, sym other))
      (λ (w : (half.edge.to ≡ v) × (h ≡ half_into g.directed h.edge half.edge)).
      let other : h.other ≡ half.edge.from = ap (λ (x : DataHalf). x.other) w.1 in
      inl (sym other, w.0))
      half.end

  pub half_joins : (v : ℕ) (h : DataHalf) (half : IsHalfAt v h) → Leads false half.edge h.other v
  half_joins v h half = ⊎_elim
      (λ (w : (half.edge.from ≡ v) × (h ≡ half_out g.directed h.edge half.edge)).
      let other : h.other ≡ half.edge.to = ap (λ (x : DataHalf). x.other) w.1 in
      inr (refl, w.0, sym other))
      (λ (w : (half.edge.to ≡ v) × (h ≡ half_into g.directed h.edge half.edge)).
      let other : h.other ≡ half.edge.from = ap (λ (x : DataHalf). x.other) w.1 in
      inl (sym other, w.0))
      half.end

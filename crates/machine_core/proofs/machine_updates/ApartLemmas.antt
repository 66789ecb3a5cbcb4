-- Works of vertices that no edge joins are apart.
use Rattle.std.proofs.Common.{◌≡◌, ◌≢◌, ◌⊎◌, ℕ, suc, ◌+◌, ◌<◌, ◌==◌, ◌&&◌, ◌||◌, Bool, true, false, true≢false, not, List, [], ◌∷◌, length, get_or, refl, sym, ap, ◌∙◌, subst, arith, inl, inr, All}
use Rattle.std.proofs.lemmas.Bool.{cases_eq, eq-eqb, ne_eqb, or_cases, and_parts, eqb-true}
use Rattle.std.proofs.lemmas.List.{get_or_default}
use Rattle.std.proofs.lemmas.List.Elements.{All-head, All-tail, All-append, All-cons, All-nil}
use Rattle.graph_core.specs.Colourings.{joins}
use Rattle.graph_core.specs.DataGraph.{DataEdge, DataGraph}
use Rattle.graph_core.specs.Halves.{DataHalf, half_at, halves_from}
use Rattle.update_api.specs.declared.links.Link.{Link}
use Rattle.local_graph.specs.declared.sides.Side.{Side}
use Rattle.local_graph.specs.declared.works.Work.{Work}
use Rattle.cluster_laws.specs.cluster_core.Settings.{IsSetting, is_near}
use Rattle.partition.specs.local_parts.Parts.{half_along, halves_along}
use Rattle.partition.proofs.local_parts.NearLemmas.{IsBeside, all_among, beside_all}
use Rattle.machine_core.specs.declared.machine_parts.cores.Core.{Core}
use Rattle.machine_core.specs.machine_parts.Parts.{sides_at}
use Rattle.machine_core.specs.machine_parts.Settings.{Setting}
use Rattle.machine_core.specs.machine_updates.Works.{IsApartFrom, HasItsRow}

abbrev pub no_edge : DataEdge
no_edge = record { from = 0; to = 0; weight = 0 }

-- the edge of the half-edge joins v with its other end
pub record IsEdgeAt (g : DataGraph) (v : ℕ) (h : DataHalf) : Type 0 where
  pub joined : joins v h.other (get_or g.edges h.edge no_edge) ≡ true

joins_from : (e : DataEdge) (v : ℕ) → e.from ≡ v → joins v e.to e ≡ true
joins_from e v at = ap (λ (b : Bool). (b && e.to == e.to) || (e.from == e.to && e.to == v)) (eq-eqb e.from v at) ∙ ap (λ (b : Bool). b || (e.from == e.to && e.to == v)) (eq-eqb e.to e.to refl)

or_true : (b : Bool) → (b || true) ≡ true
or_true true = refl
or_true false = refl

joins_to : (e : DataEdge) (v : ℕ) → e.to ≡ v → joins v e.from e ≡ true
joins_to e v at =
    ap (λ (b : Bool). (e.from == v && e.to == e.from) || (b && e.to == v)) (eq-eqb e.from e.from refl)
    ∙ ap (λ (b : Bool). (e.from == v && e.to == e.from) || b) (eq-eqb e.to v at) ∙ or_true (e.from == v && e.to == e.from)

edges_of : (g : DataGraph) (v k : ℕ) (edges : List DataEdge) → ((i : ℕ) (e : DataEdge) → i < length edges → get_or g.edges (k + i) no_edge ≡ get_or edges i e) → All (IsEdgeAt g v) (halves_from g.directed v k edges)
edges_of g v k [] same = All-nil (IsEdgeAt g v)
edges_of g v k (e ∷ edges) same =
    All-append (IsEdgeAt g v) (half_at g.directed v k e) (halves_from g.directed v (suc k) edges) (here (cases_eq e.from v) (cases_eq e.to v))
    (edges_of g v (suc k) edges (λ i d low.
    let next : suc k + i ≡ k + suc i = omega arith in ap (λ (n : ℕ). get_or g.edges n no_edge) next ∙ same (suc i) d (omega arith)))
  where
    is : get_or g.edges k no_edge ≡ e
    is =
        let first : k ≡ k + 0 = omega arith in
        ap (λ (n : ℕ). get_or g.edges n no_edge) first ∙ same 0 e (omega arith)

    at : (o : ℕ) → joins v o e ≡ true → joins v o (get_or g.edges k no_edge) ≡ true
    at o joined = ap (joins v o) is ∙ joined

    here : (e.from ≡ v) ⊎ (e.from ≡ v → ⊥) → (e.to ≡ v) ⊎ (e.to ≡ v → ⊥) → All (IsEdgeAt g v) (half_at g.directed v k e)
    here (inl from) to =
        let on = eq-eqb e.from v from in
        rw on (All-cons (IsEdgeAt g v) (record { edge = k; other = e.to; weight = e.weight; out = true; into = not g.directed }) [] (record { joined = at e.to (joins_from e v from) }) (All-nil (IsEdgeAt g v)))
    here (inr off) (inl to) =
        let not_from = ne_eqb e.from v off in
        let on = eq-eqb e.to v to in
        rw (not_from, on) (All-cons (IsEdgeAt g v) (record { edge = k; other = e.from; weight = e.weight; out = not g.directed; into = true }) [] (record { joined = at e.from (joins_to e v to) }) (All-nil (IsEdgeAt g v)))
    here (inr off) (inr off_too) =
        let not_from = ne_eqb e.from v off in
        let not_to = ne_eqb e.to v off_too in
        rw (not_from, not_to) (All-nil (IsEdgeAt g v))

-- ---- along sides

sides_all : (P : DataHalf → Type 0) (Q : Side → Type 0) → ((s : Side) (l : Link) → P (half_along s l) → Q s) → (sides : List Side) (links : List Link) → length links ≡ length sides → All P (halves_along sides links) → All Q sides
sides_all P Q step [] links same all = All-nil Q
sides_all P Q step (s ∷ sides) [] same all = absurd (omega arith)
sides_all P Q step (s ∷ sides) (l ∷ links) same all =
    All-cons Q s sides (step s l (All-head P (half_along s l) (halves_along sides links) all)) (sides_all P Q step sides links (omega arith) (All-tail P (half_along s l) (halves_along sides links) all))

-- ---- two edges that are one

ends_of : (e : DataEdge) (a b : ℕ) → joins a b e ≡ true → ((e.from ≡ a) × (e.to ≡ b)) ⊎ ((e.from ≡ b) × (e.to ≡ a))
ends_of e a b is = elim (or_cases (e.from == a && e.to == b) (e.from == b && e.to == a) is) [
  | inl one ↦
      let both = and_parts (e.from == a) (e.to == b) one in inl (eqb-true e.from a both.0, eqb-true e.to b both.1)
  | inr other ↦
      let both = and_parts (e.from == b) (e.to == a) other in inr (eqb-true e.from b both.0, eqb-true e.to a both.1)
]

-- an edge of both joins them
one_edge : (e : DataEdge) (v x u y : ℕ) → joins v x e ≡ true → joins u y e ≡ true → (v ≡ u → ⊥) → x ≡ u
one_edge e v x u y one other apart = elim (ends_of e v x one) [
  | inl here ↦ elim (ends_of e u y other) [
    | inl there ↦ absurd (apart (sym here.0 ∙ there.0))
    | inr there ↦ sym here.1 ∙ there.1
  ]
  | inr here ↦ elim (ends_of e u y other) [
    | inl there ↦ sym here.0 ∙ there.0
    | inr there ↦ absurd (apart (sym here.1 ∙ there.1))
  ]
]

pub strangers_apart : (st : Setting) (m : Core) (u w : Work) → IsSetting st → HasItsRow st m u → HasItsRow st m w → w.vertex.0 ≢ u.vertex.0 → is_near st w.vertex.0 u.vertex.0 ≡ false → IsApartFrom m u.vertex.0 w
strangers_apart st m u w setting u_row w_row other far =
    let g = st.graph in
    let x = u.vertex.0 in
    let v = w.vertex.0 in
    let l = m.numbers.local in
    let beside : All (IsBeside g v) (halves_along (sides_at l v) w.row.links.items) = subst (All (IsBeside g v)) (sym w_row.halves) (beside_all g v 0 g.edges (all_among g setting.graph)) in
    let whole : (i : ℕ) (e : DataEdge) → i < length g.edges → get_or g.edges (0 + i) no_edge ≡ get_or g.edges i e = λ i e low. same_default g.edges i e low in
    let edges_w : All (IsEdgeAt g v) (halves_along (sides_at l v) w.row.links.items) = subst (All (IsEdgeAt g v)) (sym w_row.halves) (edges_of g v 0 g.edges whole) in
    let edges_u : All (IsEdgeAt g x) (halves_along (sides_at l x) u.row.links.items) = subst (All (IsEdgeAt g x)) (sym u_row.halves) (edges_of g x 0 g.edges whole) in
    let near : All (λ (s : Side). s.other.0 ≢ x) (sides_at l v) =
    sides_all (IsBeside g v) (λ s. s.other.0 ≢ x) (λ s link is same. true≢false (sym is.joined ∙ ap (λ (y : ℕ). is_near st v y) same ∙ far)) (sides_at l v) w.row.links.items w_row.row.many beside in
    let mine : All (λ (s : Side). joins v s.other.0 (get_or g.edges s.edge.0 no_edge) ≡ true) (sides_at l v) =
    sides_all (IsEdgeAt g v) (λ s. joins v s.other.0 (get_or g.edges s.edge.0 no_edge) ≡ true) (λ s link is. is.joined) (sides_at l v) w.row.links.items w_row.row.many edges_w in
    let theirs : All (λ (t : Side). joins x t.other.0 (get_or g.edges t.edge.0 no_edge) ≡ true) (sides_at l x) =
    sides_all (IsEdgeAt g x) (λ t. joins x t.other.0 (get_or g.edges t.edge.0 no_edge) ≡ true) (λ t link is. is.joined) (sides_at l x) u.row.links.items u_row.row.many edges_u in
    record {
      other = other;
      near = near;
      edges = λ i d low j b below same.
          let s = get_or (sides_at l v) i d in
          let t = get_or (sides_at l x) j b in
          let joined : joins x t.other.0 (get_or g.edges s.edge.0 no_edge) ≡ true = ap (λ (n : ℕ). joins x t.other.0 (get_or g.edges n no_edge)) same ∙ theirs j b below in
          near i d low (one_edge (get_or g.edges s.edge.0 no_edge) v s.other.0 x t.other.0 (mine i d low) joined other);
    }
  where
    same_default : (es : List DataEdge) (i : ℕ) (e : DataEdge) → i < length es → get_or es (0 + i) no_edge ≡ get_or es i e
    same_default es i e low =
        let first : 0 + i ≡ i = omega arith in ap (λ (n : ℕ). get_or es n no_edge) first ∙ get_or_default es i no_edge e low

-- The edge of a half-edge is shared with the owner of the other end, and no two have one edge.
use Rattle.std.proofs.Common.{◌≡◌, ℕ, zero, suc, ◌+◌, ◌<◌, ◌==◌, ◌&&◌, ◌||◌, ◌++◌, Bool, true, false, not, if◌then◌else◌, List, [], ◌∷◌, length, get_or, refl, sym, ap, ◌∙◌, subst, All, arith, inl, inr, ◌⊎◌}
use Rattle.std.specs.List.{AllByRecursion}
use Rattle.std.proofs.lemmas.Bool.{cases_eq, eq-eqb, ne_eqb}
use Rattle.std.proofs.lemmas.List.Elements.{All-head, All-tail}
use Rattle.graph_core.specs.DataGraph.{DataEdge, IsDataGraph, size}
use Rattle.graph_core.specs.Halves.{DataHalf, half_at, halves_from, halves_of}
use Rattle.cluster_laws.specs.cluster_core.Effects.{is_shared}
use Rattle.cluster_laws.specs.cluster_core.Settings.{Setting, IsSetting, nth_edge}
use Rattle.partition.specs.local_parts.Parts.{AreOfTwoEdges, ShareEdges, is_shared_by}
use Rattle.partition.proofs.local_parts.NearLemmas.{IsAmong, all_among}

abbrev no_edge : DataEdge
no_edge = record { from = 0; to = 0; weight = 0 }

-- what holds of an edge at v holds of its half-edge
pick : (P : DataHalf → Type 0) (directed : Bool) (v k : ℕ) (e : DataEdge) (rest : List DataHalf)
    → (e.from ≡ v → P (record { edge = k; other = e.to; weight = e.weight; out = true; into = not directed }))
    → ((e.from ≡ v → ⊥) → e.to ≡ v → P (record { edge = k; other = e.from; weight = e.weight; out = not directed; into = true }))
    → AllByRecursion P rest → AllByRecursion P (half_at directed v k e ++ rest)
pick P directed v k e rest from to all = elim (cases_eq e.from v) [
  | inl at ↦ let on = eq-eqb e.from v at in rw on (from at, all)
  | inr off ↦ let not_from = ne_eqb e.from v off in rw not_from (second off)
]
  where
    second : (e.from ≡ v → ⊥) → AllByRecursion P ((if e.to == v then record { edge = k; other = e.from; weight = e.weight; out = not directed; into = true } ∷ [] else []) ++ rest)
    second off = elim (cases_eq e.to v) [
      | inl at ↦ let on = eq-eqb e.to v at in rw on (to off at, all)
      | inr off_to ↦ let not_to = ne_eqb e.to v off_to in rw not_to all
    ]

or_none : (b : Bool) → (b || false) ≡ b
or_none true = refl
or_none false = refl

shared_from : (st : Setting) (v q : ℕ) (e : DataEdge) → (e.from ≡ e.to → ⊥) → e.from ≡ v → is_shared st v q e ≡ (st.owner e.to == q)
shared_from st v q e apart at =
    let on = eq-eqb e.from v at in
    let off = ne_eqb e.to v (λ s. apart (at ∙ sym s)) in
    rw (on, off) (or_none (st.owner e.to == q))

shared_to : (st : Setting) (v q : ℕ) (e : DataEdge) → (e.from ≡ v → ⊥) → e.to ≡ v → is_shared st v q e ≡ (st.owner e.from == q)
shared_to st v q e off at =
    let not_from = ne_eqb e.from v off in
    let on = eq-eqb e.to v at in
    rw (not_from, on) refl

shared_all : (st : Setting) (v q k : ℕ) (edges : List DataEdge) → All (IsAmong st.graph) edges → ((i : ℕ) → i < length edges → nth_edge st (k + i) ≡ get_or edges i no_edge)
    → AllByRecursion (λ (h : DataHalf). is_shared_by st v q h.edge ≡ (st.owner h.other == q)) (halves_from st.graph.directed v k edges)
shared_all st v q k [] among are = tt
shared_all st v q k (e ∷ edges) among are =
    let n : k + 0 ≡ k = omega arith in
    let is : nth_edge st k ≡ e = ap (nth_edge st) (sym n) ∙ are 0 (omega arith) in
    let here = All-head (IsAmong st.graph) e edges among in
    let rest = shared_all st v q (suc k) edges (All-tail (IsAmong st.graph) e edges among) (λ i low. let m : suc k + i ≡ k + suc i = omega arith in ap (nth_edge st) m ∙ are (suc i) (omega arith)) in
    pick (λ (h : DataHalf). is_shared_by st v q h.edge ≡ (st.owner h.other == q)) st.graph.directed v k e (halves_from st.graph.directed v (suc k) edges)
    (λ at. ap (is_shared st v q) is ∙ shared_from st v q e here.apart at) (λ off at. ap (is_shared st v q) is ∙ shared_to st v q e off at) rest

-- later half-edges have greater edges
later_all : (directed : Bool) (v j k : ℕ) (edges : List DataEdge) → j < k → AllByRecursion (λ (h : DataHalf). (j == h.edge) ≡ false) (halves_from directed v k edges)
later_all directed v j k [] low = tt
later_all directed v j k (e ∷ edges) low =
    let not = ne_eqb j k (λ s. omega arith) in
    pick (λ (h : DataHalf). (j == h.edge) ≡ false) directed v k e (halves_from directed v (suc k) edges) (λ at. not) (λ off at. not) (later_all directed v j (suc k) edges (omega arith))

apart_all : (directed : Bool) (v k : ℕ) (edges : List DataEdge) → AreOfTwoEdges (halves_from directed v k edges)
apart_all directed v k [] = tt
apart_all directed v k (e ∷ edges) =
    let later = later_all directed v k (suc k) edges (omega arith) in
    let rest = apart_all directed v (suc k) edges in
    elim (cases_eq e.from v) [
      | inl at ↦ let on = eq-eqb e.from v at in rw on (later, rest)
      | inr off ↦
          let not_from = ne_eqb e.from v off in
          rw not_from (elim (cases_eq e.to v) [
            | inl at ↦ let on = eq-eqb e.to v at in rw on (later, rest)
            | inr off_to ↦ let not_to = ne_eqb e.to v off_to in rw not_to rest
          ])
    ]

pub edges_shared : (st : Setting) (v : ℕ) → IsSetting st → ShareEdges st v (halves_of st.graph v)
edges_shared st v is =
    record {
      shared = λ q. shared_all st v q 0 st.graph.edges (all_among st.graph is.graph) (λ i low. let n : 0 + i ≡ i = omega arith in ap (nth_edge st) n);
      apart = apart_all st.graph.directed v 0 st.graph.edges;
    }

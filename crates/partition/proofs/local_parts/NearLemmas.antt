-- What lies beside a vertex in a graph.
use Rattle.std.proofs.Common.{◌≡◌, ℕ, zero, suc, ◌+◌, ◌<◌, ◌≤◌, ◌==◌, ◌&&◌, ◌||◌, ◌++◌, Bool, true, false, not, if◌then◌else◌, List, [], ◌∷◌, length, get_or, map, refl, sym, ap, ◌∙◌, subst, All, arith, inl, inr, ◌⊎◌}
use Rattle.std.specs.List.{filter, list_any, range_with_len}
use Rattle.std.proofs.lemmas.Bool.{cases_eq, cases_Bool, eq-eqb, ne_eqb, eqb-true, true≢false}
use Rattle.std.proofs.lemmas.List.{get_or_default}
use Rattle.std.proofs.lemmas.List.Elements.{All-nil, All-cons, All-append, All-head, All-tail}
use Rattle.std.proofs.lemmas.List.Folds.{list_any-append, list_any-from_Any}
use Rattle.graph_core.specs.Colourings.{joins}
use Rattle.graph_core.specs.DataGraph.{DataEdge, DataGraph, IsDataGraph, IsEdge, size}
use Rattle.graph_core.specs.Halves.{DataHalf, half_at, halves_from, halves_of}
use Rattle.graph_core.specs.Neighbours.{neighbours_of}
use Rattle.cluster_laws.proofs.cluster_core.Nearness.{joins_turned}
use Rattle.partition.proofs.local_parts.FoundLemmas.{found_with}

abbrev no_edge : DataEdge
no_edge = record { from = 0; to = 0; weight = 0 }

-- an edge that is among these joins its ends
pub record IsAmong (g : DataGraph) (e : DataEdge) : Type 0 where
  pub from : e.from < size g
  pub to : e.to < size g
  pub apart : e.from ≡ e.to → ⊥
  pub joined : list_any (joins e.from e.to) g.edges ≡ true

joins_own : (e : DataEdge) → joins e.from e.to e ≡ true
joins_own e = let a = eq-eqb e.from e.from refl in let b = eq-eqb e.to e.to refl in rw (a, b) refl

pub all_among : (g : DataGraph) → IsDataGraph g → All (IsAmong g) g.edges
all_among g is = λ k d low.
    let e = get_or g.edges k d in
    let edge : IsEdge (size g) g.directed e = is.edges k d low in
    record {
      from = edge.from;
      to = edge.to;
      apart = edge.apart;
      joined = list_any-from_Any (joins e.from e.to) g.edges (k, e, low, get_or_default g.edges k e d low, joins_own e);
    }

pub any_turned : (a b : ℕ) (edges : List DataEdge) → list_any (joins a b) edges ≡ list_any (joins b a) edges
any_turned a b [] = refl
any_turned a b (e ∷ edges) = ap (λ c. c || list_any (joins a b) edges) (joins_turned a b e) ∙ ap (λ c. joins b a e || c) (any_turned a b edges)

-- the other end of a half-edge at v is a vertex that an edge joins with v
pub record IsBeside (g : DataGraph) (v : ℕ) (h : DataHalf) : Type 0 where
  pub low : h.other < size g
  pub joined : list_any (joins v h.other) g.edges ≡ true
  pub leads : (h.out || h.into) ≡ true

or_not : (b : Bool) → (not b || true) ≡ true
or_not true = refl
or_not false = refl

pub beside_all : (g : DataGraph) (v k : ℕ) (edges : List DataEdge) → All (IsAmong g) edges → All (IsBeside g v) (halves_from g.directed v k edges)
beside_all g v k [] among = All-nil (IsBeside g v)
beside_all g v k (e ∷ edges) among =
    All-append (IsBeside g v) (half_at g.directed v k e) (halves_from g.directed v (suc k) edges) (here (cases_eq e.from v) (cases_eq e.to v))
    (beside_all g v (suc k) edges (All-tail (IsAmong g) e edges among))
  where
    is : IsAmong g e
    is = All-head (IsAmong g) e edges among

    out : DataHalf
    out = record { edge = k; other = e.to; weight = e.weight; out = true; into = not g.directed }

    into : DataHalf
    into = record { edge = k; other = e.from; weight = e.weight; out = not g.directed; into = true }

    here : (e.from ≡ v) ⊎ (e.from ≡ v → ⊥) → (e.to ≡ v) ⊎ (e.to ≡ v → ⊥) → All (IsBeside g v) (half_at g.directed v k e)
    here (inl at) to =
        let on = eq-eqb e.from v at in
        rw on (All-cons (IsBeside g v) (record { edge = k; other = e.to; weight = e.weight; out = true; into = not g.directed }) [] (record { low = is.to; joined = subst (λ (x : ℕ). list_any (joins x e.to) g.edges ≡ true) at is.joined; leads = refl }) (All-nil (IsBeside g v)))
    here (inr off) (inl at) =
        let not_from = ne_eqb e.from v off in
        let on = eq-eqb e.to v at in
        rw (not_from, on) (All-cons (IsBeside g v) (record { edge = k; other = e.from; weight = e.weight; out = not g.directed; into = true }) [] (record { low = is.from; joined = subst (λ (x : ℕ). list_any (joins x e.from) g.edges ≡ true) at (any_turned e.to e.from g.edges ∙ is.joined); leads = or_not g.directed }) (All-nil (IsBeside g v)))
    here (inr off) (inr off_to) =
        let not_from = ne_eqb e.from v off in
        let not_to = ne_eqb e.to v off_to in
        rw (not_from, not_to) (All-nil (IsBeside g v))

-- x is the other end of a half-edge at v exactly where an edge joins them
one_near : (directed : Bool) (v x k : ℕ) (e : DataEdge) → (e.from ≡ e.to → ⊥) → list_any (λ (h : DataHalf). h.other == x) (half_at directed v k e) ≡ joins v x e
one_near directed v x k e apart = here (cases_eq e.from v) (cases_eq e.to v)
  where
    or_false : (b : Bool) → (b || false) ≡ b
    or_false true = refl
    or_false false = refl

    here : (e.from ≡ v) ⊎ (e.from ≡ v → ⊥) → (e.to ≡ v) ⊎ (e.to ≡ v → ⊥) → list_any (λ (h : DataHalf). h.other == x) (half_at directed v k e) ≡ joins v x e
    here (inl at) to =
        let on = eq-eqb e.from v at in
        let off = ne_eqb e.to v (λ q. apart (at ∙ sym q)) in
        rw (on, off) (both (e.to == x) (e.from == x))
      where
        both : (b c : Bool) → (b || false) ≡ (b || (c && false))
        both true c = refl
        both false true = refl
        both false false = refl
    here (inr off) (inl at) =
        let not_from = ne_eqb e.from v off in
        let on = eq-eqb e.to v at in
        rw (not_from, on) (both (e.from == x))
      where
        both : (b : Bool) → (b || false) ≡ (b && true)
        both true = refl
        both false = refl
    here (inr off) (inr off_to) =
        let not_from = ne_eqb e.from v off in
        let not_to = ne_eqb e.to v off_to in
        rw (not_from, not_to) (none (e.from == x))
      where
        none : (b : Bool) → false ≡ (b && false)
        none true = refl
        none false = refl

pub near_all : (directed : Bool) (v x k : ℕ) (edges : List DataEdge) → All (λ e. e.from ≡ e.to → ⊥) edges → list_any (λ (h : DataHalf). h.other == x) (halves_from directed v k edges) ≡ list_any (joins v x) edges
near_all directed v x k [] apart = refl
near_all directed v x k (e ∷ edges) apart =
    list_any-append (λ (h : DataHalf). h.other == x) (half_at directed v k e) (halves_from directed v (suc k) edges)
    ∙ ap (λ b. b || list_any (λ (h : DataHalf). h.other == x) (halves_from directed v (suc k) edges)) (one_near directed v x k e (All-head (λ (e : DataEdge). e.from ≡ e.to → ⊥) e edges apart))
    ∙ ap (λ b. joins v x e || b) (near_all directed v x (suc k) edges (All-tail (λ (e : DataEdge). e.from ≡ e.to → ⊥) e edges apart))

-- a neighbour of x that passes a test
pub neighbour_passes : (g : DataGraph) (q : ℕ → Bool) (x v : ℕ) → v < size g → list_any (joins x v) g.edges ≡ true → q v ≡ true → list_any q (neighbours_of g x) ≡ true
neighbour_passes g q x v low joined passes = found_with (λ u. list_any (joins x u) g.edges) q 0 (size g) v (omega arith) (omega arith) joined passes

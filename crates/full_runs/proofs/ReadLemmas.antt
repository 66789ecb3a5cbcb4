-- What is read of the machines, one by one.
use Rattle.std.proofs.Common.{◌≡◌, ℕ, suc, zero, ◌+◌, ◌<◌, ◌≤◌, ◌==◌, ◌&&◌, ◌||◌, Bool, false, nat_lt, Some, List, [], ◌∷◌, ◌++◌, length, map, slice_get, slice_index_or, refl, sym, ◌∙◌, ap, ap₂, subst, ⊎_elim, append_assoc, append-nil, arith}
use Rattle.std.specs.List.{range_with_len}
use Rattle.std.specs.List.Sorted.{IsNonDecreasingBy, IsPermutation}
use Rattle.std.proofs.lemmas.Bool.{cases_eq, le-ltb}
use Rattle.std.proofs.lemmas.Option.{get_or_from_slice_get}
use Rattle.gl_base.specs.declared.entries.Entry.{Entry}
use Rattle.graph_core.specs.DataGraph.{DataEdge, DataGraph, IsDataGraph, size}
use Rattle.seq_run.specs.Runs.{AreNumbers}
use Rattle.cluster_laws.specs.cluster_core.Settings.{Setting, nth_edge}
use Rattle.cluster_laws.specs.merged_logs.Merges.{IsMerge, all_logged, ticket_of}
use Rattle.full_laws.specs.FullWorlds.{FullWorld}
use Rattle.full_cluster.specs.declared.divisions.Division.{Division}
use Rattle.full_cluster.specs.Given.{IsDividedAs}
use Rattle.full_cluster.specs.Owners.{owner_in}

-- ---- logs, one behind the other

pub merge_so : (entries all merged : List Entry) → all ≡ entries → IsPermutation all merged → IsNonDecreasingBy ticket_of merged → IsMerge entries merged
merge_so entries all merged are same up = record { same = subst (λ (es : List Entry). IsPermutation es merged) are same; by_ticket = up }

more_of : {X : Type 0} (f : ℕ → X) (a n : ℕ) → map f (range_with_len a (suc n)) ≡ map f (range_with_len a n) ++ f (a + n) ∷ []
more_of f a zero = ap (λ (k : ℕ). f k ∷ []) (plus_none a)
  where
    plus_none : (a : ℕ) → a ≡ a + 0
    plus_none a = omega arith
more_of f a (suc n) = ap (λ xs. f a ∷ xs) (more_of f (a + 1) n ∙ ap (λ (k : ℕ). map f (range_with_len (a + 1) n) ++ f k ∷ []) (moved a n))
  where
    moved : (a n : ℕ) → (a + 1) + n ≡ a + suc n
    moved a n = omega arith

logged_more : (logs : List (List Entry)) (log : List Entry) → all_logged (logs ++ log ∷ []) ≡ all_logged logs ++ log
logged_more [] log = append-nil log
logged_more (first ∷ logs) log = ap (λ (es : List Entry). first ++ es) (logged_more logs log) ∙ sym (append_assoc first (all_logged logs) log)

-- one machine's log more
pub logs_more : (w : FullWorld) (n : ℕ) (all log : List Entry) → all ≡ all_logged (map (λ a. (w.part a).log) (range_with_len 0 n)) → log ≡ (w.part n).log →
    all ++ log ≡ all_logged (map (λ a. (w.part a).log) (range_with_len 0 (n + 1)))
logs_more w n all log all_is log_is =
    ap₂ (λ (xs ys : List Entry). xs ++ ys) all_is log_is ∙ sym (logged_more (map (λ a. (w.part a).log) (range_with_len 0 n)) (w.part n).log)
    ∙ ap all_logged (sym (more_of (λ a. (w.part a).log) 0 n ∙ ap (λ (k : ℕ). map (λ a. (w.part a).log) (range_with_len 0 n) ++ (w.part k).log ∷ []) (zero_first n)) ∙ ap (λ (k : ℕ). map (λ a. (w.part a).log) (range_with_len 0 k)) (sym (one_behind n)))
  where
    zero_first : (k : ℕ) → 0 + k ≡ k
    zero_first k = omega arith

    one_behind : (k : ℕ) → k + 1 ≡ suc k
    one_behind k = omega arith

-- ---- owners

pub owner_here : (st : Setting) (division : Division) (v a : ℕ) → IsDividedAs st division → a ≡ owner_in division.owner.now v → a ≡ st.owner v
owner_here st division v a divided is = is ∙ ap (λ (f : ℕ → ℕ). f v) (sym divided.owners)

pub low_here : (st : Setting) (division : Division) (v : ℕ) → IsDividedAs st division → v < size division.graph.now → v < size st.graph
low_here st division v divided low = subst (λ (g : DataGraph). v < size g) (sym divided.graph) low

pub edge_low_here : (st : Setting) (division : Division) (e : ℕ) → IsDividedAs st division → e < length division.graph.now.edges → e < length st.graph.edges
edge_low_here st division e divided low = subst (λ (g : DataGraph). e < length g.edges) (sym divided.graph) low

-- an owner is one of the machines
pub no_owner_beyond : (st : Setting) (division : Division) (v a : ℕ) → IsDividedAs st division → v < size division.graph.now → a ≡ owner_in division.owner.now v → st.machines ≤ a → ⊥
no_owner_beyond st division v a divided low is past =
    let own = divided.setting.owner v (low_here st division v divided low) in
    let same = owner_here st division v a divided is in
    omega (arith, own, same, past)

-- an edge begins at a vertex
pub begins_low : (g : DataGraph) → IsDataGraph g → (e a : ℕ) (edge : DataEdge) → e < length g.edges → slice_get g.edges e ≡ Some edge → edge.from ≡ a → a < size g
begins_low g is e a edge low at from =
    let there : slice_index_or g.edges e edge ≡ edge = get_or_from_slice_get g.edges e edge edge at in
    let below = (is.edges e edge low).from in
    subst (λ (k : ℕ). k < size g) from (subst (λ (x : DataEdge). x.from < size g) there below)

pub begins_at : (st : Setting) (division : Division) (e a : ℕ) (edge : DataEdge) → IsDividedAs st division → slice_get division.graph.now.edges e ≡ Some edge → edge.from ≡ a → (nth_edge st e).from ≡ a
begins_at st division e a edge divided at from =
    ap (λ (g : DataGraph). (slice_index_or g.edges e (record { from = 0; to = 0; weight = 0 })).from) divided.graph
    ∙ ap (λ (x : DataEdge). x.from) (get_or_from_slice_get division.graph.now.edges e edge (record { from = 0; to = 0; weight = 0 }) at) ∙ from

-- ---- lists, one item more

pub none_yet : (f : ℕ → ℕ) → AreNumbers 0 f []
none_yet f = record { count = refl; each = λ k low. absurd (omega (arith, low)) }

-- one flag more
pub flag_more : (f : ℕ → Bool) (v u : ℕ) (own : Bool) → own ≡ f v → ((own && v == u) || (nat_lt u v && f u)) ≡ (nat_lt u (v + 1) && f u)
flag_more f v u own is = ⊎_elim
    (λ (same : u ≡ v). at_last f v u own is same)
    (λ (other : u ≡ v → ⊥). before f v u own other)
    (cases_eq u v)
  where
    at_last : (f : ℕ → Bool) (v u : ℕ) (own : Bool) → own ≡ f v → u ≡ v → ((own && v == u) || (nat_lt u v && f u)) ≡ (nat_lt u (v + 1) && f u)
    at_last f v u own is same = grind arith

    before : (f : ℕ → Bool) (v u : ℕ) (own : Bool) → (u ≡ v → ⊥) → ((own && v == u) || (nat_lt u v && f u)) ≡ (nat_lt u (v + 1) && f u)
    before f v u own other = grind arith

pub flag_none : (f : ℕ → Bool) (u : ℕ) → false ≡ (nat_lt u 0 && f u)
flag_none f u = sym (ap (λ (b : Bool). b && f u) (le-ltb u 0 (omega arith)))

pub flag_at_end : (f : ℕ → Bool) (u n : ℕ) → u < n → (nat_lt u n && f u) ≡ f u
flag_at_end f u n low = grind arith

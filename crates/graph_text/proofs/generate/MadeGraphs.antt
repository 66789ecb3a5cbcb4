-- The two texts of a made graph tell a data graph: its edges, sorted.
use Rattle.std.proofs.Common.{◌≡◌, ◌≢◌, ◌⊎◌, inl, inr, ℕ, zero, suc, ◌+◌, ◌^◌, ◌<◌, ◌≤◌, ◌||◌, Bool, true, false, nat_lt, List, [], ◌∷◌, ◌++◌, length, map, get_or, All, refl, sym, ap, ◌∙◌, subst, cond, arith, length-append, Option, None, Some}
use Rattle.std.specs.Prelude.{AllPairs, IfSome}
use Rattle.std.specs.List.Sorted.{IsPermutation}
use Rattle.std.proofs.lemmas.List.{length-map, map-append}
use Rattle.std.proofs.lemmas.List.Sorted.{IsPermutation-refl, IsPermutation-trans, IsPermutation-cons, IsPermutation-swap, IsPermutation-to_front, IsPermutation-map, length_permutation}
use Rattle.std.proofs.lemmas.List.Kept.{AllPairs-cons}
use Rattle.std.proofs.lemmas.List.Elements.{All-cons}
use Rattle.std.proofs.lemmas.Bool.{cases_eq, cases_lt}
use Rattle.std.proofs.lemmas.Bool.Decides.{nat_tests}
use Rattle.gl_base.specs.declared.jobs.MakePlan.{MakePlan}
use Rattle.graph_core.specs.declared.graph_lists.EdgeIn.{EdgeIn}
use Rattle.graph_core.specs.DataGraph.{DataEdge, DataGraph, IsBefore, IsEdge, IsDataGraph}
use Rattle.graph_core.specs.GraphLists.{IsGraphOf, lower_first, with_ids}
use Rattle.graph_text.specs.GraphTexts.{DescribeGraph}
use Rattle.graph_text.specs.generate.Making.{IsPlanInRange, IsStride, HasWeights, HaveSameEnds, edge_from, edge_to, offset_count, made_edge, made_edges, made_ids, made_list, made_vertices, weight_read}
use Rattle.graph_text.proofs.generate.Strides.{no_double, no_loop}
use Rattle.graph_text.proofs.generate.MadeVertices.{length-made_ids, made_ids-are, made_ids-at, made_vertices-list}
use Rattle.graph_text.proofs.generate.MadeEdges.{ends_in, made_edges-read, weight_small}

-- k is one of them
abbrev In : ℕ → List ℕ → Type 0
In k [] = ⊥
In k (j ∷ js) = (k ≡ j) ⊎ In k js

abbrev upto : ℕ → List ℕ
upto zero = []
upto (suc count) = upto count ++ count ∷ []

length-upto : (count : ℕ) → length (upto count) ≡ count
length-upto zero = refl
length-upto (suc count) = omega (arith, length-append (upto count) (count ∷ []), length-upto count)

before_trans : (e f g : DataEdge) → IsBefore e f → IsBefore f g → IsBefore e g
before_trans e f g (inl a) (inl b) = inl (omega (arith, a, b))
before_trans e f g (inl a) (inr b) = inl (omega (arith, a, b.0))
before_trans e f g (inr a) (inl b) = inl (omega (arith, a.0, b))
before_trans e f g (inr a) (inr b) = inr (omega (arith, a.0, b.0), omega (arith, a.1, b.1))

order_of : (e f : DataEdge) → (e.from ≡ f.from → e.to ≡ f.to → ⊥) → IsBefore e f ⊎ IsBefore f e
order_of e f differ = elim (cases_lt e.from f.from) [
  | inl below ↦ inl (inl below)
  | inr above ↦ elim (cases_eq e.from f.from) [
    | inl same ↦ elim (cases_lt e.to f.to) [
      | inl less ↦ inl (inr (same, less))
      | inr more ↦ elim (cases_eq e.to f.to) [
        | inl equal ↦ absurd (differ same equal)
        | inr apart ↦ inr (inr (sym same, omega (arith, more, apart)))
      ]
    ]
    | inr apart ↦ inr (inl (omega (arith, above, apart)))
  ]
]

-- edges that are sorted one after another, by their numbers
module _ (data_of : ℕ → DataEdge) where
  abbrev Chain : List ℕ → Type 0
  Chain [] = Unit {0}
  Chain (j ∷ js) = ((k : ℕ) → In k js → IsBefore (data_of j) (data_of k)) × Chain js

  record Inserted (i : ℕ) (js : List ℕ) : Type 0 where
    ks : List ℕ
    same : IsPermutation (i ∷ js) ks
    chain : Chain ks
    from : (k : ℕ) → In k ks → In k (i ∷ js)

  insert : (i : ℕ) (js : List ℕ) → ((k : ℕ) → In k js → IsBefore (data_of i) (data_of k) ⊎ IsBefore (data_of k) (data_of i)) → Chain js → Inserted i js
  insert i [] order chain = record { ks = i ∷ []; same = IsPermutation-refl (i ∷ []); chain = (λ k e. absurd e, tt); from = λ k e. e }
  insert i (j ∷ js) order chain = elim (order j (inl refl)) [
    | inl first ↦ record {
      ks = i ∷ j ∷ js;
      same = IsPermutation-refl (i ∷ j ∷ js);
      chain = (
        λ k e. elim e [
          | inl is ↦ subst (λ (m : ℕ). IsBefore (data_of i) (data_of m)) (sym is) first
          | inr rest ↦ before_trans (data_of i) (data_of j) (data_of k) first (chain.0 k rest)
        ],
        chain,
      );
      from = λ k e. e;
    }
    | inr later ↦
        let r = insert i js (λ k e. order k (inr e)) chain.1 in
        record {
          ks = j ∷ r.ks;
          same = IsPermutation-trans (i ∷ j ∷ js) (j ∷ i ∷ js) (j ∷ r.ks)
              (IsPermutation-swap (i ∷ j ∷ js) (j ∷ i ∷ js) 0 1 (omega arith) (omega arith) refl) (IsPermutation-cons j (i ∷ js) r.ks r.same);
          chain = (
            λ k e. elim (r.from k e) [
              | inl is ↦ subst (λ (m : ℕ). IsBefore (data_of j) (data_of m)) (sym is) later
              | inr rest ↦ chain.0 k rest
            ],
            r.chain,
          );
          from = λ k e. elim e [
            | inl is ↦ inr (inl is)
            | inr rest ↦ elim (r.from k rest) [ inl is ↦ inl is | inr more ↦ inr (inr more) ]
          ];
        }
  ]

  record Sorted (count : ℕ) : Type 0 where
    js : List ℕ
    same : IsPermutation (upto count) js
    chain : Chain js
    below : (k : ℕ) → In k js → k < count

  sorted : (most count : ℕ) → count ≤ most → ((i k : ℕ) → i < most → k < i → IsBefore (data_of i) (data_of k) ⊎ IsBefore (data_of k) (data_of i)) → Sorted count
  sorted most zero few order = record { js = []; same = IsPermutation-refl []; chain = tt; below = λ k e. absurd e }
  sorted most (suc count) few order =
      let s = sorted most count (omega (arith, few)) order in
      let r = insert count s.js (λ k e. order count k (omega (arith, few)) (s.below k e)) s.chain in
      record {
        js = r.ks;
        same = IsPermutation-trans (upto count ++ count ∷ []) (count ∷ upto count) r.ks (IsPermutation-to_front (upto count) count)
            (IsPermutation-trans (count ∷ upto count) (count ∷ s.js) r.ks (IsPermutation-cons count (upto count) s.js s.same) r.same);
        chain = r.chain;
        below = λ k e. elim (r.from k e) [ inl is ↦ omega (arith, is) | inr rest ↦ let low = s.below k rest in omega (arith, low) ];
      }

  all_of : (P : DataEdge → Type 0) (js : List ℕ) → ((k : ℕ) → In k js → P (data_of k)) → All P (map data_of js)
  all_of P [] each = λ k d inside. absurd (omega (arith, inside))
  all_of P (j ∷ js) each = All-cons P (data_of j) (map data_of js) (each j (inl refl)) (all_of P js (λ k e. each k (inr e)))

  pairs_of : (js : List ℕ) → Chain js → AllPairs IsBefore (map data_of js)
  pairs_of [] chain = λ i j d order inside. absurd (omega (arith, inside))
  pairs_of (j ∷ js) chain = AllPairs-cons IsBefore (data_of j) (map data_of js) (all_of (IsBefore (data_of j)) js chain.0) (pairs_of js chain.1)

-- an edge as the graph keeps it
abbrev kept : Bool → ℕ → ℕ → ℕ → DataEdge
kept t a b weight = cond t (record { from = a; to = b; weight = weight }) (record { from = b; to = a; weight = weight })

kept_ends : (t u : Bool) (a b c d v w : ℕ) → (a ≡ c → b ≡ d → ⊥) → (a ≡ d → b ≡ c → ⊥) → (kept t a b v).from ≡ (kept u c d w).from → (kept t a b v).to ≡ (kept u c d w).to → ⊥
kept_ends true true a b c d v w same back p q = same p q
kept_ends true false a b c d v w same back p q = back p q
kept_ends false true a b c d v w same back p q = back q p
kept_ends false false a b c d v w same back p q = same q p

kept_edge : (directed t : Bool) (a b weight n : ℕ) → a < n → b < n → a ≢ b → weight < 2 ^ 32 → (directed ≡ false → t ≡ true → a < b) → (directed ≡ false → t ≡ false → b < a) → IsEdge n directed (kept t a b weight)
kept_edge directed true a b weight n a_in b_in apart small up down = record { from = a_in; to = b_in; apart = apart; lower = λ e. up e refl; weight = small }
kept_edge directed false a b weight n a_in b_in apart small up down = record { from = b_in; to = a_in; apart = λ e. apart (sym e); lower = λ e. down e refl; weight = small }

from_below : (directed : Bool) (a b : ℕ) → directed ≡ false → (directed || nat_lt (a + 1) (b + 1)) ≡ true → a < b
from_below true a b e t = cc
from_below false a b e t = grind (arith, nat_tests)

upper_first : (directed : Bool) (a b : ℕ) → a ≢ b → directed ≡ false → (directed || nat_lt (a + 1) (b + 1)) ≡ false → b < a
upper_first true a b apart e t = cc
upper_first false a b apart e t = let le : b + 1 ≤ a + 1 = grind (arith, nat_tests) in omega (arith, le, apart)

kept_named : (t : Bool) (a b weight n : ℕ) → a < n → b < n
    → with_ids (made_ids n) (kept t a b weight) ≡ cond t (record { from = a + 1; to = b + 1; weight = weight }) (record { from = b + 1; to = a + 1; weight = weight })
kept_named true a b weight n a_in b_in =
    ap (λ x. let e : EdgeIn = record { from = x; to = get_or (made_ids n) b 0; weight = weight } in e) (made_ids-at n a a_in)
    ∙ ap (λ y. let e : EdgeIn = record { from = a + 1; to = y; weight = weight } in e) (made_ids-at n b b_in)
kept_named false a b weight n a_in b_in =
    ap (λ x. let e : EdgeIn = record { from = x; to = get_or (made_ids n) a 0; weight = weight } in e) (made_ids-at n b b_in)
    ∙ ap (λ y. let e : EdgeIn = record { from = b + 1; to = y; weight = weight } in e) (made_ids-at n a a_in)

read_small : (weighted : Bool) (number : ℕ) (weight : Option ℕ) (i : ℕ) → IfSome weight (λ most. most < 2 ^ 32) → weight_read weighted number weight i < 2 ^ 32
read_small false number weight i w = omega arith
read_small true number None i w = omega arith
read_small true number (Some most) i w = let small = weight_small number most i w in omega (arith, small)

module _ (plan : MakePlan) (stride : ℕ) (directed weighted : Bool) (ranges : IsPlanInRange plan) (is : IsStride (offset_count plan.vertices) stride) (has : HasWeights weighted plan.weight) where
  abbrev data_edge_of : ℕ → DataEdge
  data_edge_of i = kept (directed || nat_lt (edge_from plan i + 1) (edge_to plan stride i + 1)) (edge_from plan i) (edge_to plan stride i) (weight_read weighted plan.number plan.weight i)

  clash : (i k : ℕ) → i < plan.edges → k < i → HaveSameEnds plan stride i k → ⊥
  clash i k inside below = no_double plan stride i k ranges is inside (omega (arith, inside, below)) (λ same. omega (arith, same, below))

  order : (i k : ℕ) → i < plan.edges → k < i → IsBefore (data_edge_of i) (data_edge_of k) ⊎ IsBefore (data_edge_of k) (data_edge_of i)
  order i k inside below =
      order_of (data_edge_of i) (data_edge_of k)
      (kept_ends (directed || nat_lt (edge_from plan i + 1) (edge_to plan stride i + 1)) (directed || nat_lt (edge_from plan k + 1) (edge_to plan stride k + 1))
      (edge_from plan i) (edge_to plan stride i) (edge_from plan k) (edge_to plan stride k) (weight_read weighted plan.number plan.weight i) (weight_read weighted plan.number plan.weight k)
      (λ p q. clash i k inside below (inl (p, q))) (λ p q. clash i k inside below (inr (p, q))))

  is_edge : (i : ℕ) → i < plan.edges → IsEdge (length (made_ids plan.vertices)) directed (data_edge_of i)
  is_edge i inside =
      let ends = ends_in plan stride directed weighted ranges is has i inside in
      let long = length-made_ids plan.vertices in
      let loop = no_loop plan stride i ranges inside in
      kept_edge directed (directed || nat_lt (edge_from plan i + 1) (edge_to plan stride i + 1)) (edge_from plan i) (edge_to plan stride i) (weight_read weighted plan.number plan.weight i) (length (made_ids plan.vertices))
      (omega (arith, ends.0, long)) (omega (arith, ends.1, long)) loop (read_small weighted plan.number plan.weight i ranges.weight)
      (λ e t. from_below directed (edge_from plan i) (edge_to plan stride i) e t) (λ e t. upper_first directed (edge_from plan i) (edge_to plan stride i) loop e t)

  one_edge : (i : ℕ) → i < plan.edges → lower_first directed (made_edge weighted plan stride i) ≡ with_ids (made_ids plan.vertices) (data_edge_of i)
  one_edge i inside =
      let ends = ends_in plan stride directed weighted ranges is has i inside in
      sym (kept_named (directed || nat_lt (edge_from plan i + 1) (edge_to plan stride i + 1)) (edge_from plan i) (edge_to plan stride i) (weight_read weighted plan.number plan.weight i) plan.vertices ends.0 ends.1)

  all_edges : (count : ℕ) → count ≤ plan.edges → map (lower_first directed) (made_list weighted plan stride count) ≡ map (with_ids (made_ids plan.vertices)) (map data_edge_of (upto count))
  all_edges zero few = refl
  all_edges (suc count) few =
      let w = lower_first directed in
      let n = with_ids (made_ids plan.vertices) in
      map-append w (made_list weighted plan stride count) (made_edge weighted plan stride count ∷ [])
      ∙ ap (λ (xs : List EdgeIn). xs ++ w (made_edge weighted plan stride count) ∷ []) (all_edges count (omega (arith, few)))
      ∙ ap (λ (e : EdgeIn). map n (map data_edge_of (upto count)) ++ e ∷ []) (one_edge count (omega (arith, few)))
      ∙ sym (map-append n (map data_edge_of (upto count)) (data_edge_of count ∷ []))
      ∙ ap (map n) (sym (map-append data_edge_of (upto count) (count ∷ [])))

  pub made_graph-described : (g : DataGraph) × DescribeGraph directed weighted (made_vertices plan) (made_edges plan stride) g
  made_graph-described =
      let s = sorted data_edge_of plan.edges plan.edges (omega arith) order in
      let ids = made_ids plan.vertices in
      let edges = map data_edge_of s.js in
      let g : DataGraph = record { ids = ids; edges = edges; directed = directed } in
      let are = made_ids-are plan.vertices ranges.vertices in
      let long : length edges ≡ plan.edges = length-map s.js data_edge_of ∙ length_permutation (upto plan.edges) s.js s.same ∙ length-upto plan.edges in
      let most = ranges.edges in
      let graph : IsDataGraph g = record {
        few = are.few;
        few_edges = omega (arith, long, most);
        ascending = are.ascending;
        ids = are.small;
        edges = all_of data_edge_of (IsEdge (length ids) directed) s.js (λ k e. is_edge k (s.below k e));
        edges_ascending = pairs_of data_edge_of s.js s.chain;
      } in
      let moved = IsPermutation-map (with_ids ids) (map data_edge_of (upto plan.edges)) edges (IsPermutation-map data_edge_of (upto plan.edges) s.js s.same) in
      let same_edges = subst (λ (xs : List EdgeIn). IsPermutation xs (map (with_ids ids) edges)) (sym (all_edges plan.edges (omega arith))) moved in
      let of : IsGraphOf ids (made_list weighted plan stride plan.edges) directed g = record { graph = graph; same_ids = IsPermutation-refl ids; same_edges = same_edges; direction = refl } in (
        g,
        record {
          vertex_lines = made_vertices-list plan.vertices ranges.vertices;
          listed = made_list weighted plan stride plan.edges;
          edge_lines = made_edges-read plan stride directed weighted ranges is has;
          graph = of;
        },
      )
